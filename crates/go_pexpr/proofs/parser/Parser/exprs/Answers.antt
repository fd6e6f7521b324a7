use Rattle.std.proofs.Common.{[], ◌∷◌, ◌++◌, map, sym, ap, ◌∙◌}
use Rattle.go_ast.specs.Machine.{more_exprs, run_parser}
use Rattle.go_ast.specs.Views.{expr_of}
use Rattle.go_pexpr.specs.Reads.{left}
use Rattle.go_pexpr.proofs.Reading.{then_reads}
use Rattle.go_pexpr.proofs.parser.Parser.exprs.Goals as goal

pub returns-clause-reads : goal.returns-clause-reads
returns-clause-reads c = λ next.
    then_reads c.more_exprs.result
    ((c.in_ok-expr_from.ensures.reads (λ e. more_exprs c.args.header c.args.level (e ∷ []) next)).by
    ∙ ap (λ es. run_parser c.expr_from.new.self.edition 250 (more_exprs c.args.header c.args.level (map expr_of es) next) (left c.expr_from.new.self)) (sym (c.in_ok-push.ensures.items ∙ ap (λ es. es ++ c.in_ok-expr_from.field-0 ∷ []) c.in_ok-first.ensures.items)))
    (c.more_exprs.ensures.reads next)
