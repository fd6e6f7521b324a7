-- What is behind a list.
use Rattle.std.proofs.Common.{◌≡◌, List, [], ◌∷◌, ◌++◌, map, max, refl, ap, arith}
use Rattle.go_ast.specs.declared.expression.Expr.{Expr}
use Rattle.go_ast.specs.declared.expression.Field.{Field}
use Rattle.go_ast.specs.declared.expression.Element.{Element}
use Rattle.go_pexpr.specs.Tall.{tall, type_tall, exprs_tall, element_tall, elements_tall, fields_tall}

pub map_push : {A B : Type 0} (f : A → B) (xs : List A) (x : A) → map f (xs ++ x ∷ []) ≡ map f xs ++ f x ∷ []
map_push f [] x = refl
map_push f (y ∷ ys) x = ap (λ zs. f y ∷ zs) (map_push f ys x)

pub fields_push : (fs : List Field) (f : Field) → fields_tall (fs ++ f ∷ []) ≡ max (type_tall f.type_expr) (fields_tall fs)
fields_push [] f = refl
fields_push (g ∷ fs) f = omega (arith, fields_push fs f)

pub exprs_push : (es : List Expr) (e : Expr) → exprs_tall (es ++ e ∷ []) ≡ max (tall e) (exprs_tall es)
exprs_push [] e = refl
exprs_push (g ∷ es) e = omega (arith, exprs_push es e)

pub elements_push : (es : List Element) (e : Element) → elements_tall (es ++ e ∷ []) ≡ max (element_tall e) (elements_tall es)
elements_push [] e = refl
elements_push (g ∷ es) e = omega (arith, elements_push es e)
