use Rattle.std.proofs.Common.{◌≡◌, List, map, sym, ap, ◌∙◌}
use Rattle.go_types.specs.Views.{go_type}
use Rattle.go_types.specs.declared.types.GoType.{GoType}
use Rattle.go_typed.specs.Trees.{Expr, call, run}
use Rattle.go_typed.specs.Views.{as_expr, as_exprs, as_stmt}
use Rattle.go_typed.specs.declared.expression.TypedExprKind.{TypedExprKind}
use Rattle.go_typed.proofs.Rows.{call_seen}
use Rattle.go_expr.specs.Known.{declared, value, Fine}
use Rattle.go_stmt.specs.Rules.{performed}
use Rattle.go_stmt.proofs.simple.run_of.Goals as goal

pub returns-in_ok-vec-in-Call : goal.returns-in_ok-vec-in-Call
unfolding as_stmt
returns-in_ok-vec-in-Call c =
    let of = c.args.call.of in
    let symbol = c.in-Call.symbol in
    let es = c.in-Call.arguments in
    let seen : as_expr c.args.call ≡ call (go_type of) symbol (as_exprs es.items) =
    ap (λ (k : TypedExprKind). as_expr (record { of = of; kind = k })) c.in-Call.is ∙ call_seen of symbol es in
    ap (λ (e : Expr). performed (declared (value e))) seen
    ∙ ap (λ (ts : List GoType). Fine (run (map go_type ts) symbol (as_exprs es.items))) (sym c.in_ok-vec-in-Call.ensures.items)
