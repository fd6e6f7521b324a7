-- What the code's trees are seen as, one law for each form.
use Rattle.std.proofs.Common.{◌≡◌, ℕ, map, Box, Vec, Global, refl, ap, ◌∙◌}
use mathlib.Core.Former.{Count}
use Rattle.go_text.specs.declared.place.Place.{Place}
use Rattle.go_ast.specs.Trees as trees
use Rattle.go_ast.specs.declared.expression.UnaryOperator.{UnaryOperator}
use Rattle.go_ast.specs.declared.expression.BinaryOperator.{BinaryOperator}
use Rattle.go_ast.specs.declared.expression.TypeExpr.{TypeExpr}
use Rattle.go_ast.specs.declared.expression.TypeKind.{TypeKind, Named, Qualified, Array, Slice, Struct, Struct', Row_of-Field, end_of-Field, more_of-Field, items-the_row-Field, items_hidden-the_row-Field-2}
use Rattle.go_ast.specs.declared.expression.Field.{Field}
use Rattle.go_ast.specs.declared.expression.Expr.{Expr}
use Rattle.go_ast.specs.declared.expression.ExprKind.{ExprKind, Name, Integer, Rune, String, Parenthesized, CompositeLit, Conversion, Selector, Index, Cut, «Type», Call, Call', Unary, Binary, Row_of-Expr, end_of-Expr, more_of-Expr, items-the_row-Expr, items_hidden-the_row-Expr-1}
use Rattle.go_ast.specs.declared.expression.Bound.{Bound, Open, At}
use Rattle.go_ast.specs.declared.expression.Element.{Element}
use Rattle.go_ast.specs.declared.expression.ElementValue.{ElementValue, Expression, Value, Value', Row_of-Element, end_of-Element, more_of-Element, items-the_row-Element, items_hidden-the_row-Element-0}
use Rattle.go_ast.specs.Views.{type_at, expr_at, bound_of, field_list_tree, exprs_of, elements_of, element_value_of, type_of, expr_of, value_of, element_of, field_of, exprs_in}

field_items : (n : _) (row : Row_of-Field n) → field_list_tree row ≡ trees.pack_fields (map field_of (items-the_row-Field n row))
unfolding type_of
field_items n end_of-Field = refl
field_items n (more_of-Field names q a rest) = ap (trees.field names.items (type_at a q)) (field_items _ rest)

expr_items : (n : _) (row : Row_of-Expr n) → exprs_of row ≡ exprs_in (items-the_row-Expr n row)
unfolding expr_of
expr_items n end_of-Expr = refl
expr_items n (more_of-Expr q e rest) = ap (trees.some_exprs (expr_at e q)) (expr_items _ rest)

element_items : (n : _) (row : Row_of-Element n) → elements_of row ≡ trees.pack_elements (map element_of (items-the_row-Element n row))
unfolding value_of
element_items n end_of-Element = refl
element_items n (more_of-Element key value rest) = ap (trees.element key (element_value_of value)) (element_items _ rest)

abbrev field_row : TypeKind → (n : Count) × Row_of-Field n
field_row (Struct' n row) = (_, row)
field_row _ = (_, end_of-Field)

abbrev expr_row : ExprKind → (n : Count) × Row_of-Expr n
expr_row (Call' x q f n row) = (_, row)
expr_row _ = (_, end_of-Expr)

abbrev element_row : ElementValue → (n : Count) × Row_of-Element n
element_row (Value' p n row) = (_, row)
element_row _ = (_, end_of-Element)

-- types

pub named_seen : (p : Place) (n : trees.Name) → type_of (record { place = p; kind = Named n }) ≡ trees.named p n
unfolding type_of
named_seen p n = refl

pub qualified_seen : (p : Place) (m n : trees.Name) → type_of (record { place = p; kind = Qualified m n }) ≡ trees.qualified p m n
unfolding type_of
qualified_seen p m n = refl

pub array_seen : (p : Place) (length : Box Expr Global) (item : Box TypeExpr Global) (e : Expr) (a : TypeExpr) → length.value ≡ e → item.value ≡ a →
    type_of (record { place = p; kind = Array length item }) ≡ trees.array p (expr_of e) (type_of a)
unfolding type_of expr_of
array_seen p length item e a l i = ap (λ x. trees.array p (expr_of x) (type_of item.value)) l ∙ ap (λ x. trees.array p (expr_of e) (type_of x)) i

pub slice_seen : (p : Place) (item : Box TypeExpr Global) (a : TypeExpr) → item.value ≡ a → type_of (record { place = p; kind = Slice item }) ≡ trees.slice p (type_of a)
unfolding type_of
slice_seen p item a h = ap (λ x. trees.slice p (type_of x)) h

pub struct_seen : (p : Place) (fs : Vec Field Global) →
    type_of (record { place = p; kind = Struct fs }) ≡ trees.struct p (trees.pack_fields (map field_of fs.items))
unfolding type_of
struct_seen p fs =
    let row = field_row (Struct fs) in
    ap (trees.struct p) (field_items row.0 row.1 ∙ ap (λ xs. trees.pack_fields (map field_of xs)) (items_hidden-the_row-Field-2 fs))

-- expressions

pub name_seen : (p : Place) (text : _) → expr_of (record { place = p; kind = Name text }) ≡ trees.name p text
unfolding expr_of
name_seen p text = refl

pub integer_seen : (p : Place) (text : _) → expr_of (record { place = p; kind = Integer text }) ≡ trees.integer p text
unfolding expr_of
integer_seen p text = refl

pub rune_seen : (p : Place) (value : ℕ) → expr_of (record { place = p; kind = Rune value }) ≡ trees.rune p value
unfolding expr_of
rune_seen p value = refl

pub string_seen : (p : Place) (value : Vec ℕ Global) → expr_of (record { place = p; kind = String value }) ≡ trees.string p value.items
unfolding expr_of
string_seen p value = refl

pub parenthesized_seen : (p : Place) (inner : Box Expr Global) (e : Expr) → inner.value ≡ e →
    expr_of (record { place = p; kind = Parenthesized inner }) ≡ trees.parenthesized p (expr_of e)
unfolding expr_of
parenthesized_seen p inner e i = ap (λ x. trees.parenthesized p (expr_of x)) i

pub literal_seen : (p : Place) (of : Box TypeExpr Global) (q : Place) (es : Vec Element Global) (a : TypeExpr) → of.value ≡ a →
    expr_of (record { place = p; kind = CompositeLit of q es }) ≡ trees.composite_lit p (type_of a) q (trees.pack_elements (map element_of es.items))
unfolding expr_of type_of
literal_seen p of q es a i =
    let row = element_row (Value q es) in
    ap (trees.composite_lit p (type_of of.value) q) (element_items row.0 row.1
    ∙ ap (λ xs. trees.pack_elements (map element_of xs)) (items_hidden-the_row-Element-0 es))
    ∙ ap (λ x. trees.composite_lit p (type_of x) q (trees.pack_elements (map element_of es.items))) i

pub conversion_seen : (p : Place) (to : Box TypeExpr Global) (inner : Box Expr Global) (a : TypeExpr) (e : Expr) → to.value ≡ a → inner.value ≡ e →
    expr_of (record { place = p; kind = Conversion to inner }) ≡ trees.conversion p (type_of a) (expr_of e)
unfolding expr_of type_of
conversion_seen p to inner a e t i = ap (λ x. trees.conversion p (type_of x) (expr_of inner.value)) t ∙ ap (λ x. trees.conversion p (type_of a) (expr_of x)) i

pub selector_seen : (p : Place) (operand : Box Expr Global) (n : trees.Name) (e : Expr) → operand.value ≡ e →
    expr_of (record { place = p; kind = Selector operand n }) ≡ trees.selector p (expr_of e) n
unfolding expr_of
selector_seen p operand n e o = ap (λ x. trees.selector p (expr_of x) n) o

pub index_seen : (p : Place) (operand at : Box Expr Global) (e i : Expr) → operand.value ≡ e → at.value ≡ i →
    expr_of (record { place = p; kind = Index operand at }) ≡ trees.index p (expr_of e) (expr_of i)
unfolding expr_of
index_seen p operand at e i o a = ap (λ x. trees.index p (expr_of x) (expr_of at.value)) o ∙ ap (λ x. trees.index p (expr_of e) (expr_of x)) a

pub open_seen : bound_of Open ≡ trees.no_bound
open_seen = refl

pub bound_seen : (at : Box Expr Global) (e : Expr) → at.value ≡ e → bound_of (At at) ≡ trees.bound (expr_of e)
unfolding expr_of
bound_seen at e h = ap (λ x. trees.bound (expr_of x)) h

pub cut_seen : (p : Place) (operand : Box Expr Global) (low high : Bound) (e : Expr) → operand.value ≡ e →
    expr_of (record { place = p; kind = Cut operand low high }) ≡ trees.cut p (expr_of e) (bound_of low) (bound_of high)
unfolding expr_of
cut_seen p operand low high e h = ap (λ x. trees.cut p (expr_of x) (bound_of low) (bound_of high)) h

pub type_operand_seen : (p : Place) (of : Box TypeExpr Global) (a : TypeExpr) → of.value ≡ a →
    expr_of (record { place = p; kind = «Type» of }) ≡ trees.type_operand p (type_of a)
unfolding type_of expr_of
type_operand_seen p of a h = ap (λ x. trees.type_operand p (type_of x)) h

pub call_seen : (p : Place) (function : Box Expr Global) (es : Vec Expr Global) (f : Expr) → function.value ≡ f →
    expr_of (record { place = p; kind = Call function es }) ≡ trees.call p (expr_of f) (exprs_in es.items)
unfolding expr_of
call_seen p function es f i =
    let row = expr_row (Call function es) in
    ap (trees.call p (expr_of function.value)) (expr_items row.0 row.1 ∙ ap exprs_in (items_hidden-the_row-Expr-1 es))
    ∙ ap (λ x. trees.call p (expr_of x) (exprs_in es.items)) i

pub unary_seen : (p : Place) (op : UnaryOperator) (operand : Box Expr Global) (e : Expr) → operand.value ≡ e →
    expr_of (record { place = p; kind = Unary op operand }) ≡ trees.unary p op (expr_of e)
unfolding expr_of
unary_seen p op operand e o = ap (λ x. trees.unary p op (expr_of x)) o

pub binary_seen : (p : Place) (op : BinaryOperator) (left right : Box Expr Global) (a b : Expr) → left.value ≡ a → right.value ≡ b →
    expr_of (record { place = p; kind = Binary op left right }) ≡ trees.binary p op (expr_of a) (expr_of b)
unfolding expr_of
binary_seen p op left right a b l r =
    ap (λ x. trees.binary p op (expr_of x) (expr_of right.value)) l ∙ ap (λ x. trees.binary p op (expr_of a) (expr_of x)) r

-- elements

pub expression_seen : (e : Expr) → value_of (Expression e) ≡ trees.expression_element (expr_of e)
unfolding value_of expr_of
expression_seen e = refl

pub value_seen : (p : Place) (es : Vec Element Global) → value_of (Value p es) ≡ trees.value_element p (trees.pack_elements (map element_of es.items))
unfolding value_of
value_seen p es =
    let row = element_row (Value p es) in
    ap (trees.value_element p) (element_items row.0 row.1 ∙ ap (λ xs. trees.pack_elements (map element_of xs)) (items_hidden-the_row-Element-0 es))

-- the place of a tree
pub placed : (e : Expr) → trees.place_of (expr_of e) ≡ e.place
unfolding expr_of
placed e = by_kind e.kind
  where
    by_kind : (k : ExprKind) → trees.place_of (expr_at k e.place) ≡ e.place
    by_kind (Name text) = refl
    by_kind _ = refl
