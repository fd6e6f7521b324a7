use Rattle.std.proofs.Common.{◌≡◌, ◌+◌, ◌<◌, Bool, true, List, length, drop, sym, ap, ◌∙◌, arith}
use Rattle.std.specs.Prelude.{◌||◌}
use Rattle.go_types.specs.Views.{go_type}
use Rattle.go_typed.proofs.Rows.{literal_seen, elements_seen}
use Rattle.go_typed.specs.Trees.{literal, append, absent}
use Rattle.go_typed.specs.Views.{as_expr, as_exprs, parts_in}
use Rattle.go_typed.specs.declared.expression.TypedExpr.{TypedExpr}
use Rattle.go_typed.specs.declared.expression.TypedExprKind.{TypedExprKind}
use Rattle.go_typed.specs.declared.expression.TypedPart.{TypedPart}
use Rattle.go_expr.specs.Rules.{holds_call, some_hold_call, part_holds_call}
use Rattle.go_expr.proofs.Lists.{left}
use Rattle.go_expr.proofs.evaluation.+evaluation.Goals as goal

pub holds_call-returns-in-Literal : goal.holds_call-returns-in-Literal
holds_call-returns-in-Literal t c =
    let of = c.args.value.now.of in
    let seen : as_expr c.args.value.now ≡ literal (go_type of) (parts_in c.deref-in-Literal.result.now) =
    ap (λ (k : TypedExprKind). as_expr (record { of = of; kind = k })) c.in-Literal.is ∙ literal_seen of c.in-Literal.parts
    ∙ ap (λ (l : List TypedPart). literal (go_type of) (parts_in l)) (sym c.deref-in-Literal.ensures.value) in
    c.part_holds_call.ensures ∙ ap holds_call (sym seen)

pub part_holds_call-returns-then-holds_call : goal.part_holds_call-returns-then-holds_call
part_holds_call-returns-then-holds_call t c =
    let parts = c.args.parts.now in
    let i = c.loop-part.part-index in
    let p = c.part-item.result in
    let within : i < length parts = omega arith in
    let here : holds_call (as_expr p.value) ≡ true = cc in
    sym (ap (λ (b : Bool). b || part_holds_call (parts_in (drop (i + 1) parts))) here)
    ∙ sym (ap (λ (l : List TypedPart). part_holds_call (parts_in l)) (left parts i p within c.part-item.is)) ∙ c.loop-part.invariant

pub holds_call-returns-in-Elements : goal.holds_call-returns-in-Elements
holds_call-returns-in-Elements t c =
    let of = c.args.value.now.of in
    let seen : as_expr c.args.value.now ≡ append (go_type of) absent (as_exprs c.deref.result.now) =
    ap (λ (k : TypedExprKind). as_expr (record { of = of; kind = k })) c.in-Elements.is ∙ elements_seen of c.in-Elements.es
    ∙ ap (λ (l : List TypedExpr). append (go_type of) absent (as_exprs l)) (sym c.deref.ensures.value) in
    c.some_hold_call.ensures ∙ ap holds_call (sym seen)

pub some_hold_call-returns-then-holds_call : goal.some_hold_call-returns-then-holds_call
some_hold_call-returns-then-holds_call t c =
    let es = c.args.es.now in
    let i = c.loop-e.e-index in
    let e = c.e-item.result in
    let within : i < length es = omega arith in
    let here : holds_call (as_expr e) ≡ true = cc in
    sym (ap (λ (b : Bool). b || some_hold_call (as_exprs (drop (i + 1) es))) here)
    ∙ sym (ap (λ (l : List TypedExpr). some_hold_call (as_exprs l)) (left es i e within c.e-item.is)) ∙ c.loop-e.invariant
