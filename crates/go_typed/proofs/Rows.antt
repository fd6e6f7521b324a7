-- What the code's expressions are seen as, one law for each form with a box or a row.
use Rattle.std.proofs.Common.{◌≡◌, ℕ, Box, Vec, Global, refl, ap, ◌∙◌}
use mathlib.Core.Former.{Count}
use Rattle.go_const.specs.declared.operator.UnaryOperator.{UnaryOperator}
use Rattle.go_types.specs.declared.types.GoType.{GoType}
use Rattle.go_types.specs.Views.{go_type}
use Rattle.go_typed.specs.Trees as trees
use Rattle.go_typed.specs.declared.expression.TypedExpr.{TypedExpr}
use Rattle.go_typed.specs.declared.expression.TypedPart.{TypedPart}
use Rattle.go_typed.specs.declared.expression.TypedExprKind.{TypedExprKind, Constant, Field, Index, Length, Capacity, Tail, Cut, Make, MakeWithin, Elements, Elements', Append, Append', Unary, Binary, Both, Either, Conversion, Literal, Literal', Call, Call', Row_of-TypedExpr, end_of-TypedExpr, more_of-TypedExpr, items-the_row-TypedExpr, items_hidden-the_row-TypedExpr-1, Row_of-TypedPart, end_of-TypedPart, more_of-TypedPart, items-the_row-TypedPart, items_hidden-the_row-TypedPart-0}
use Rattle.go_typed.specs.Views.{typed_expr_at, exprs_of, typed_parts, as_expr, as_exprs, parts_in}

expr_items : (n : _) (row : Row_of-TypedExpr n) → exprs_of row ≡ as_exprs (items-the_row-TypedExpr n row)
unfolding as_expr
expr_items n end_of-TypedExpr = refl
expr_items n (more_of-TypedExpr u e rest) = ap (trees.some_exprs (typed_expr_at e u)) (expr_items _ rest)

part_items : (n : _) (row : Row_of-TypedPart n) → typed_parts row ≡ parts_in (items-the_row-TypedPart n row)
unfolding as_expr
part_items n end_of-TypedPart = refl
part_items n (more_of-TypedPart k u e rest) = ap (trees.part k (typed_expr_at e u)) (part_items _ rest)

abbrev expr_row : TypedExprKind → (n : Count) × Row_of-TypedExpr n
expr_row (Elements' n row) = (_, row)
expr_row (Append' x u e n row) = (_, row)
expr_row (Call' s n row) = (_, row)
expr_row _ = (_, end_of-TypedExpr)

abbrev part_row : TypedExprKind → (n : Count) × Row_of-TypedPart n
part_row (Literal' n row) = (_, row)
part_row _ = (_, end_of-TypedPart)

pub field_seen : (t : GoType) (inner : Box TypedExpr Global) (n : ℕ) (e : TypedExpr) → inner.value ≡ e →
    as_expr (record { of = t; kind = Field inner n }) ≡ trees.field (go_type t) (as_expr e) n
unfolding as_expr
field_seen t inner n e i = ap (λ x. trees.field (go_type t) (as_expr x) n) i

pub index_seen : (t : GoType) (operand at : Box TypedExpr Global) (e i : TypedExpr) → operand.value ≡ e → at.value ≡ i →
    as_expr (record { of = t; kind = Index operand at }) ≡ trees.index (go_type t) (as_expr e) (as_expr i)
unfolding as_expr
index_seen t operand at e i o a = ap (λ x. trees.index (go_type t) (as_expr x) (as_expr at.value)) o ∙ ap (λ x. trees.index (go_type t) (as_expr e) (as_expr x)) a

pub length_seen : (t : GoType) (inner : Box TypedExpr Global) (e : TypedExpr) → inner.value ≡ e →
    as_expr (record { of = t; kind = Length inner }) ≡ trees.length (go_type t) (as_expr e)
unfolding as_expr
length_seen t inner e i = ap (λ x. trees.length (go_type t) (as_expr x)) i

pub capacity_seen : (t : GoType) (inner : Box TypedExpr Global) (e : TypedExpr) → inner.value ≡ e →
    as_expr (record { of = t; kind = Capacity inner }) ≡ trees.capacity (go_type t) (as_expr e)
unfolding as_expr
capacity_seen t inner e i = ap (λ x. trees.capacity (go_type t) (as_expr x)) i

pub tail_seen : (t : GoType) (operand low : Box TypedExpr Global) (e a : TypedExpr) → operand.value ≡ e → low.value ≡ a →
    as_expr (record { of = t; kind = Tail operand low }) ≡ trees.cut (go_type t) (as_expr e) (as_expr a) trees.absent
unfolding as_expr
tail_seen t operand low e a o l =
    ap (λ x. trees.cut (go_type t) (as_expr x) (as_expr low.value) trees.absent) o ∙ ap (λ x. trees.cut (go_type t) (as_expr e) (as_expr x) trees.absent) l

pub cut_seen : (t : GoType) (operand low high : Box TypedExpr Global) (e a b : TypedExpr) → operand.value ≡ e → low.value ≡ a → high.value ≡ b →
    as_expr (record { of = t; kind = Cut operand low high }) ≡ trees.cut (go_type t) (as_expr e) (as_expr a) (trees.present (as_expr b))
unfolding as_expr
cut_seen t operand low high e a b o l h =
    ap (λ x. trees.cut (go_type t) (as_expr x) (as_expr low.value) (trees.present (as_expr high.value))) o
    ∙ ap (λ x. trees.cut (go_type t) (as_expr e) (as_expr x) (trees.present (as_expr high.value))) l
    ∙ ap (λ x. trees.cut (go_type t) (as_expr e) (as_expr a) (trees.present (as_expr x))) h

pub make_seen : (t : GoType) (inner : Box TypedExpr Global) (n : TypedExpr) → inner.value ≡ n →
    as_expr (record { of = t; kind = Make inner }) ≡ trees.make (go_type t) (as_expr n) trees.absent
unfolding as_expr
make_seen t inner n i = ap (λ x. trees.make (go_type t) (as_expr x) trees.absent) i

pub make_within_seen : (t : GoType) (length room : Box TypedExpr Global) (n c : TypedExpr) → length.value ≡ n → room.value ≡ c →
    as_expr (record { of = t; kind = MakeWithin length room }) ≡ trees.make (go_type t) (as_expr n) (trees.present (as_expr c))
unfolding as_expr
make_within_seen t length room n c l r =
    ap (λ x. trees.make (go_type t) (as_expr x) (trees.present (as_expr room.value))) l ∙ ap (λ x. trees.make (go_type t) (as_expr n) (trees.present (as_expr x))) r

pub elements_seen : (t : GoType) (es : Vec TypedExpr Global) →
    as_expr (record { of = t; kind = Elements es }) ≡ trees.append (go_type t) trees.absent (as_exprs es.items)
unfolding as_expr
elements_seen t es =
    let row = expr_row (Elements es) in
    ap (trees.append (go_type t) trees.absent) (expr_items row.0 row.1 ∙ ap as_exprs (items_hidden-the_row-TypedExpr-1 es))

pub append_seen : (t : GoType) (inner : Box TypedExpr Global) (e : TypedExpr) (es : Vec TypedExpr Global) → inner.value ≡ e →
    as_expr (record { of = t; kind = Append inner es }) ≡ trees.append (go_type t) (trees.present (as_expr e)) (as_exprs es.items)
unfolding as_expr
append_seen t inner e es i =
    let row = expr_row (Append inner es) in
    ap (trees.append (go_type t) (trees.present (as_expr inner.value))) (expr_items row.0 row.1 ∙ ap as_exprs (items_hidden-the_row-TypedExpr-1 es))
    ∙ ap (λ x. trees.append (go_type t) (trees.present (as_expr x)) (as_exprs es.items)) i

pub unary_seen : (t : GoType) (op : UnaryOperator) (inner : Box TypedExpr Global) (e : TypedExpr) → inner.value ≡ e →
    as_expr (record { of = t; kind = Unary op inner }) ≡ trees.unary (go_type t) op (as_expr e)
unfolding as_expr
unary_seen t op inner e i = ap (λ x. trees.unary (go_type t) op (as_expr x)) i

pub binary_seen : (t : GoType) (op : trees.Operator) (left right : Box TypedExpr Global) (a b : TypedExpr) → left.value ≡ a → right.value ≡ b →
    as_expr (record { of = t; kind = Binary op left right }) ≡ trees.binary (go_type t) op (as_expr a) (as_expr b)
unfolding as_expr
binary_seen t op left right a b l r =
    ap (λ x. trees.binary (go_type t) op (as_expr x) (as_expr right.value)) l ∙ ap (λ x. trees.binary (go_type t) op (as_expr a) (as_expr x)) r

pub both_seen : (t : GoType) (left right : Box TypedExpr Global) (a b : TypedExpr) → left.value ≡ a → right.value ≡ b →
    as_expr (record { of = t; kind = Both left right }) ≡ trees.both (go_type t) (as_expr a) (as_expr b)
unfolding as_expr
both_seen t left right a b l r =
    ap (λ x. trees.both (go_type t) (as_expr x) (as_expr right.value)) l ∙ ap (λ x. trees.both (go_type t) (as_expr a) (as_expr x)) r

pub either_seen : (t : GoType) (left right : Box TypedExpr Global) (a b : TypedExpr) → left.value ≡ a → right.value ≡ b →
    as_expr (record { of = t; kind = Either left right }) ≡ trees.either (go_type t) (as_expr a) (as_expr b)
unfolding as_expr
either_seen t left right a b l r =
    ap (λ x. trees.either (go_type t) (as_expr x) (as_expr right.value)) l ∙ ap (λ x. trees.either (go_type t) (as_expr a) (as_expr x)) r

pub conversion_seen : (t : GoType) (inner : Box TypedExpr Global) (e : TypedExpr) → inner.value ≡ e →
    as_expr (record { of = t; kind = Conversion inner }) ≡ trees.conversion (go_type t) (as_expr e)
unfolding as_expr
conversion_seen t inner e i = ap (λ x. trees.conversion (go_type t) (as_expr x)) i

pub literal_seen : (t : GoType) (ps : Vec TypedPart Global) →
    as_expr (record { of = t; kind = Literal ps }) ≡ trees.literal (go_type t) (parts_in ps.items)
unfolding as_expr
literal_seen t ps =
    let row = part_row (Literal ps) in
    ap (trees.literal (go_type t)) (part_items row.0 row.1 ∙ ap parts_in (items_hidden-the_row-TypedPart-0 ps))

pub call_seen : (t : GoType) (s : trees.Symbol) (es : Vec TypedExpr Global) →
    as_expr (record { of = t; kind = Call s es }) ≡ trees.call (go_type t) s (as_exprs es.items)
unfolding as_expr
call_seen t s es =
    let row = expr_row (Call s es) in
    ap (trees.call (go_type t) s) (expr_items row.0 row.1 ∙ ap as_exprs (items_hidden-the_row-TypedExpr-1 es))

-- the type of a tree
pub type_seen : (e : TypedExpr) → trees.expr_type (as_expr e) ≡ go_type e.of
unfolding as_expr
type_seen e = by_kind e.kind
  where
    by_kind : (k : TypedExprKind) → trees.expr_type (typed_expr_at k e.of) ≡ go_type e.of
    by_kind (Constant c) = refl
    by_kind _ = refl
