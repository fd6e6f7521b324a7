use Rattle.std.proofs.Common.{map, ap, ◌∙◌}
use Rattle.std.specs.Option.{option_map}
use Rattle.go_ast.specs.Views.{exprs_in}
use Rattle.go_typed.specs.Views.{as_expr}
use Rattle.go_expr.specs.Verdicts.{operand, verdict}
use Rattle.go_expr.specs.Views.{scope_of}
use Rattle.go_stmt.specs.Statements.{declared_as}
use Rattle.go_stmt.proofs.Several.{each_mapped}
use Rattle.go_stmt.proofs.constants.check_untyped.Goals as goal

pub returns-clause-declared : goal.returns-clause-declared
returns-clause-declared c =
    c.in_ok-declared.ensures ∙ ap (λ l. map declared_as (map (option_map as_expr) l)) c.deref.ensures.value ∙ ap (map declared_as) c.in_ok-values.ensures.values
    ∙ each_mapped declared_as (λ e. operand (verdict (scope_of c.args.scope.now) e)) (exprs_in c.args.es.now)
