use Rattle.std.proofs.Common.{Option, map, sym, ap, ◌∙◌}
use Rattle.std.specs.Option.{option_map}
use Rattle.go_ast.specs.Views.{exprs_in, type_of as type_tree}
use Rattle.go_types.specs.Types.{Type'}
use Rattle.go_types.specs.Views.{go_type}
use Rattle.go_typed.specs.Trees.{Expr}
use Rattle.go_typed.specs.Views.{as_expr}
use Rattle.go_expr.specs.Known.{Declared}
use Rattle.go_expr.specs.Rules.{fine, assigned}
use Rattle.go_expr.specs.Verdicts.{asked, both, operand, verdict, type_verdict}
use Rattle.go_expr.specs.Views.{scope_of}
use Rattle.go_stmt.specs.Statements.{declared_as}
use Rattle.go_stmt.proofs.Several.{each_mapped}
use Rattle.go_stmt.proofs.constants.check_typed.Goals as goal

abbrev by : Option Type' → Option Expr → Option Declared
by t e = declared_as (fine (asked (λ (k : Type' × Expr). assigned k.0 k.1) (both t e)))

pub returns-clause-declared : goal.returns-clause-declared
returns-clause-declared c =
    let s = scope_of c.args.scope.now in
    let t = fine (type_verdict s (type_tree c.args.of.now)) in
    c.in_ok-declared.ensures ∙ ap (λ l. map (by (option_map go_type c.in_ok-known.known)) (map (option_map as_expr) l)) c.deref.ensures.value
    ∙ ap (λ u. map (by u) (map (option_map as_expr) c.in_ok-values.values.items)) (sym c.in_ok-known.ensures.1) ∙ ap (map (by t)) c.in_ok-values.ensures.values
    ∙ each_mapped (by t) (λ e. operand (verdict s e)) (exprs_in c.args.es.now)
