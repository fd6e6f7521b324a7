-- What a specification of constants means.
use Rattle.std.proofs.Common.{◌≡◌, ℕ, suc, arith, false, List, [], ◌∷◌, Option, Some, None, Bor, length, nat_eq, option_copied, refl}
use Rattle.std.specs.Option.{option_map}
use Rattle.std.proofs.lemmas.Bool.Decides.{nat_tests}
use Rattle.go_ast.specs.Trees as trees
use Rattle.go_ast.specs.Trees.{Name}
use Rattle.go_ast.specs.Views.{type_of, exprs_in, if_some, const_of}
use Rattle.go_ast.specs.declared.declaration.ConstSpec.{ConstSpec}
use Rattle.go_ast.specs.declared.expression.Expr.{Expr}
use Rattle.go_ast.specs.declared.expression.TypeExpr.{TypeExpr}
use Rattle.go_scope.specs.Specifications.{meant, is_repeated}

-- one with values means its own
pub meant_own : (before : trees.ConstSpec) (ns : List Name) (t : Option trees.TypeExpr) (es : List Expr) → nat_eq (length es) 0 ≡ false →
    meant before (record { names = ns; type = t; values = exprs_in es }) ≡ record { names = ns; type = t; values = exprs_in es }
meant_own before ns t [] some = cc
meant_own before ns t (e ∷ es) some = refl

not_none : (n : ℕ) → nat_eq (suc n) 0 ≡ false
not_none n = grind (arith, nat_tests)

seen_repeated : (ns : List Name) (t : Option trees.TypeExpr) (es : List Expr) → nat_eq (length es) 0 ≡ is_repeated (record { names = ns; type = t; values = exprs_in es })
seen_repeated ns t [] = refl
seen_repeated ns t (e ∷ es) = not_none (length es)

pub repeated_seen : (s : ConstSpec) → nat_eq (length s.values.items) 0 ≡ is_repeated (const_of s)
repeated_seen s = seen_repeated s.names.items (if_some type_of s.type_expr) s.values.items

pub seen_option : (t : Option (Bor TypeExpr)) → option_map (λ r. type_of r.now) t ≡ if_some type_of (option_copied t)
seen_option None = refl
seen_option (Some t) = refl
