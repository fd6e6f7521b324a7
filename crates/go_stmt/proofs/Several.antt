-- Values that stand together.
use Rattle.std.proofs.Common.{◌≡◌, ◌≤◌, List, [], ◌∷◌, map, length, arith, refl, ap}
use Rattle.std.specs.Prelude.{option_and_then}
use Rattle.std.specs.Option.{option_map}
use Rattle.go_ast.specs.Views.{exprs_in}
use Rattle.go_ast.specs.Trees as trees
use Rattle.go_ast.specs.declared.expression.Expr.{Expr}
use Rattle.go_expr.specs.Known.{Scope}
use Rattle.go_expr.specs.Rules.{settled_type}
use Rattle.go_expr.specs.Verdicts.{operand, verdict}
use Rattle.go_stmt.specs.Rules.{separate, all_some}
use Rattle.go_stmt.specs.Statements.{each_of, operands_faults, values_faults, values_known, value_types}

-- where several stand, or none
pub faults_of_several : (s : Scope) (es : List Expr) → 2 ≤ length es → operands_faults s (exprs_in es) ≡ values_faults s (exprs_in es)
faults_of_several s [] h = absurd (let n : ⊥ = omega arith in n)
faults_of_several s (e ∷ []) h = absurd (let n : ⊥ = omega arith in n)
faults_of_several s (e ∷ f ∷ es) h = refl

pub known_of_several : (s : Scope) (es : List Expr) → 2 ≤ length es → option_map separate (all_some (each_of (λ e. operand (verdict s e)) (exprs_in es))) ≡ values_known s (exprs_in es)
known_of_several s [] h = absurd (let n : ⊥ = omega arith in n)
known_of_several s (e ∷ []) h = absurd (let n : ⊥ = omega arith in n)
known_of_several s (e ∷ f ∷ es) h = refl

pub types_of_several : (s : Scope) (es : List Expr) → 2 ≤ length es → each_of (λ e. option_and_then settled_type (operand (verdict s e))) (exprs_in es) ≡ value_types s (exprs_in es)
types_of_several s [] h = absurd (let n : ⊥ = omega arith in n)
types_of_several s (e ∷ []) h = absurd (let n : ⊥ = omega arith in n)
types_of_several s (e ∷ f ∷ es) h = refl

-- what is known of each, seen as something else
pub each_mapped : {A B : Type 0} (f : A → B) (g : trees.Expression → A) (es : trees.ExpressionList) → map f (each_of g es) ≡ each_of (λ e. f (g e)) es
each_mapped f g trees.no_exprs = refl
each_mapped f g (trees.some_exprs e es) = ap (λ l. f (g e) ∷ l) (each_mapped f g es)
