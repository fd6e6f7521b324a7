use Rattle.std.proofs.Common.{[], ◌∷◌, ◌++◌, List, map, false, ◌∙◌, ap, sym}
use Rattle.go_ast.specs.Trees as trees
use Rattle.go_ast.specs.declared.expression.Expr.{Expr}
use Rattle.go_ast.specs.Machine.{Reader, more_exprs, run_parser}
use Rattle.go_ast.specs.Views.{expr_of}
use Rattle.go_pexpr.specs.Reads.{left}
use Rattle.go_pstmt.proofs.Reading.{then_reads, took}
use Rattle.go_pstmt.proofs.jump.values.Goals as goal

abbrev last : (trees.ExpressionList → Reader) → List trees.Expression → Reader
last next es = next (trees.pack es)

pub returns-clause-reads : goal.returns-clause-reads
returns-clause-reads c = λ next.
    let items = ap (map expr_of) (c.in_ok-push.ensures.items ∙ ap (λ (xs : List Expr). xs ++ c.in-Some.value ∷ []) c.in_ok-values.ensures.items) in
    then_reads (
    took (c.in_ok-value.ensures.reads _ _) c.in-Some.is
    ∙ ap (λ es. run_parser c.expr_if.new.self.edition 250 (more_exprs false c.args.level es (last next)) (left c.expr_if.new.self)) (sym items)) (c.more_exprs.ensures.reads (last next))
