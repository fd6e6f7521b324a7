-- What expressions and statements are seen as, by their kinds.
use Rattle.std.proofs.Common.{◌≡◌, Box, Vec, Global, refl, ap, ◌∙◌}
use Rattle.go_types.specs.Views.{go_type}
use Rattle.go_typed.specs.Trees as trees
use Rattle.go_typed.specs.declared.expression.TypedExpr.{TypedExpr}
use Rattle.go_typed.specs.declared.expression.TypedPart.{TypedPart}
use Rattle.go_typed.specs.declared.expression.TypedExprKind.{TypedExprKind, Tail, Cut, MakeWithin, Elements, Append, Literal, Call}
use Rattle.go_typed.specs.Views.{as_expr, as_exprs, parts_in}
use Rattle.go_typed.proofs.Rows.{tail_seen, cut_seen, make_within_seen, elements_seen, append_seen, literal_seen, call_seen}

pub tail_kind : (e : TypedExpr) (x y : Box TypedExpr Global) → e.kind ≡ Tail x y → as_expr e ≡ trees.cut (go_type e.of) (as_expr x.value) (as_expr y.value) trees.absent
tail_kind e x y is = ap (λ (k : TypedExprKind). as_expr (record { of = e.of; kind = k })) is ∙ tail_seen e.of x y x.value y.value refl refl

pub cut_kind : (e : TypedExpr) (x y z : Box TypedExpr Global) → e.kind ≡ Cut x y z → as_expr e ≡ trees.cut (go_type e.of) (as_expr x.value) (as_expr y.value) (trees.present (as_expr z.value))
cut_kind e x y z is = ap (λ (k : TypedExprKind). as_expr (record { of = e.of; kind = k })) is ∙ cut_seen e.of x y z x.value y.value z.value refl refl refl

pub make_within_kind : (e : TypedExpr) (x y : Box TypedExpr Global) → e.kind ≡ MakeWithin x y → as_expr e ≡ trees.make (go_type e.of) (as_expr x.value) (trees.present (as_expr y.value))
make_within_kind e x y is = ap (λ (k : TypedExprKind). as_expr (record { of = e.of; kind = k })) is ∙ make_within_seen e.of x y x.value y.value refl refl

pub elements_kind : (e : TypedExpr) (es : Vec TypedExpr Global) → e.kind ≡ Elements es → as_expr e ≡ trees.append (go_type e.of) trees.absent (as_exprs es.items)
elements_kind e es is = ap (λ (k : TypedExprKind). as_expr (record { of = e.of; kind = k })) is ∙ elements_seen e.of es

pub append_kind : (e : TypedExpr) (slice : Box TypedExpr Global) (es : Vec TypedExpr Global) → e.kind ≡ Append slice es → as_expr e ≡ trees.append (go_type e.of) (trees.present (as_expr slice.value)) (as_exprs es.items)
append_kind e slice es is = ap (λ (k : TypedExprKind). as_expr (record { of = e.of; kind = k })) is ∙ append_seen e.of slice slice.value es refl

pub literal_kind : (e : TypedExpr) (ps : Vec TypedPart Global) → e.kind ≡ Literal ps → as_expr e ≡ trees.literal (go_type e.of) (parts_in ps.items)
literal_kind e ps is = ap (λ (k : TypedExprKind). as_expr (record { of = e.of; kind = k })) is ∙ literal_seen e.of ps

pub call_kind : (e : TypedExpr) (s : trees.Symbol) (es : Vec TypedExpr Global) → e.kind ≡ Call s es → as_expr e ≡ trees.call (go_type e.of) s (as_exprs es.items)
call_kind e s es is = ap (λ (k : TypedExprKind). as_expr (record { of = e.of; kind = k })) is ∙ call_seen e.of s es
