-- Places of trees, and which trees are names.
use Rattle.std.proofs.Common.{◌≡◌, false, None, refl}
use Rattle.go_text.specs.declared.place.Place.{Place}
use Rattle.go_ast.specs.Trees as trees
use Rattle.go_ast.specs.declared.expression.Expr.{Expr}
use Rattle.go_ast.specs.declared.expression.ExprKind.{ExprKind, Name, Selector, Selector'}
use Rattle.go_ast.specs.Machine.{name_if, literal_type}
use Rattle.go_ast.specs.declared.expression.ElementValue.{ElementValue, Expression, Expression', Value'}
use Rattle.go_pexpr.specs.Next.{is_slice_type}
use Rattle.go_pexpr.specs.Turns.{key_in}
use Rattle.go_ast.specs.declared.expression.TypeExpr.{TypeExpr}
use Rattle.go_ast.specs.declared.expression.TypeKind.{TypeKind, Named, Slice, Slice'}
use Rattle.go_ast.specs.Grammar.{type_place}
use Rattle.go_ast.specs.Views.{type_at, type_of, expr_at, expr_of, value_of}

pub type_placed : (a : TypeExpr) → type_place (type_of a) ≡ a.place
unfolding type_of
type_placed a = by_kind a.kind
  where
    by_kind : (k : TypeKind) → type_place (type_at k a.place) ≡ a.place
    by_kind (Named n) = refl
    by_kind _ = refl

-- types that aren't slices'
kind_no_slice : (k : TypeKind) (p : Place) → ((x : _) → k ≡ Slice x → ⊥) → is_slice_type (type_at k p) ≡ false
kind_no_slice (Slice' x q a) p never = absurd (never (record { ptr = x.ptr; alloc = x.alloc; value = record { place = q; kind = a } }) refl)
kind_no_slice _ p never = refl

pub no_slice : (a : TypeExpr) → ((x : _) → a.kind ≡ Slice x → ⊥) → is_slice_type (type_of a) ≡ false
unfolding type_of
no_slice a never = kind_no_slice a.kind a.place never

-- expressions that are no names, and those that name no type of a literal
pub kind_no_name : (k : ExprKind) (p : Place) → ((x : _) → k ≡ Name x → ⊥) → name_if (expr_at k p) ≡ None
kind_no_name (Name x) p never = absurd (never x refl)
kind_no_name _ p never = refl

pub no_name : (e : Expr) → ((x : _) → e.kind ≡ Name x → ⊥) → name_if (expr_of e) ≡ None
unfolding expr_of
no_name e never = kind_no_name e.kind e.place never

pub kind_no_type : (k : ExprKind) (p : Place) → ((x : _) → k ≡ Name x → ⊥) → ((x y : _) → k ≡ Selector x y → ⊥) → literal_type (expr_at k p) ≡ None
kind_no_type (Name x) p never other = absurd (never x refl)
kind_no_type (Selector' x q e n) p never other = absurd (other (record { ptr = x.ptr; alloc = x.alloc; value = record { place = q; kind = e } }) n refl)
kind_no_type _ p never other = refl

pub no_type : (e : Expr) → ((x : _) → e.kind ≡ Name x → ⊥) → ((x y : _) → e.kind ≡ Selector x y → ⊥) → literal_type (expr_of e) ≡ None
unfolding expr_of
no_type e never other = kind_no_type e.kind e.place never other

pub no_package : (p : Place) (e : trees.Expression) (n : trees.Name) → name_if e ≡ None → literal_type (trees.selector p e n) ≡ None
no_package p (trees.name q text) n never = cc (never)
no_package p _ n never = refl

pub no_key : (v : ElementValue) → ((e : _) → v ≡ Expression e → ⊥) → key_in (value_of v) ≡ None
unfolding value_of
no_key (Expression' q e) never = absurd (never (record { place = q; kind = e }) refl)
no_key (Value' p n row) never = refl
