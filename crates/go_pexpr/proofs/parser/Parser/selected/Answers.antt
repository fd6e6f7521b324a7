use Rattle.std.proofs.Common.{refl, ap, ◌∙◌}
use Rattle.std.proofs.lemmas.Result.{IfOk-weaker}
use Rattle.go_ast.specs.Trees as trees
use Rattle.go_ast.specs.Grammar.{Lexeme, name_of}
use Rattle.go_ast.specs.Machine.{Reader}
use Rattle.go_ast.specs.Views.{expr_of}
use Rattle.go_pexpr.proofs.Reading.{then_fails, then_makes, was_read, was_failing}
use Rattle.go_pexpr.proofs.parser.Parser.selected.Goals as goal

abbrev behind_name : (trees.Expression → Reader) → trees.Expression → Lexeme → Reader
behind_name next e t = next (trees.selector (trees.place_of e) e (name_of t))

pub returns-in_err-operand-clause-reads : goal.returns-in_err-operand-clause-reads
returns-in_err-operand-clause-reads c = λ next.
    then_fails refl (was_failing (c.selected_name.ensures.reads (behind_name next (expr_of c.args.operand.expr))) c.in_err-operand.ensures.err) c.from_residual.ensures.1

pub returns-clause-reads : goal.returns-clause-reads
returns-clause-reads c = λ next.
    let e = expr_of c.args.operand.expr in
    let same = ap (λ o. expr_of o.expr) c.in_ok-operand.ensures.first in
    then_makes c.selector.result (next (trees.selector (trees.place_of e) e c.in_ok-operand.name)) (was_read (c.selected_name.ensures.reads (behind_name next e)) c.in_ok-operand.ensures.read)
    (IfOk-weaker c.selector.result _ _ (λ t h. ap next (h ∙ ap (λ x. trees.selector (trees.place_of x) x c.in_ok-operand.name) same)) c.selector.ensures.expr) c.selector.ensures.err
