-- A constant by itself: the faults of its type and its value, and its own.
use Rattle.std.proofs.Common.{◌≡◌, ◌≢◌, Option, Some, None, Result, [], ◌∷◌, ◌++◌, refl, sym, ap, ◌∙◌, subst}
use Rattle.go_text.specs.declared.place.Place.{Place}
use Rattle.go_text.specs.declared.fault.FaultKind.{FaultKind}
use Rattle.go_ast.specs.Trees.{TypeExpr, Expression}
use Rattle.go_types.specs.Types.{Type'}
use Rattle.go_typed.specs.Trees.{Expr as Typed}
use Rattle.go_expr.specs.Known.{Scope}
use Rattle.go_expr.specs.declared.error.ExprError.{ExprError}
use Rattle.go_expr.specs.declared.error.ExprError.TheVariants.{Faulty}
use Rattle.go_expr.specs.Rules.{least}
use Rattle.go_expr.specs.Views.{Fails}
use Rattle.go_expr.specs.Verdicts.{asked, both, operand, verdict, broken, operand_broken, faults}
use Rattle.go_stmt.specs.Statements.{first_fault, written_faults, least_at}
use Rattle.go_stmt.proofs.Repeats.{kinds, none_least, no_first, told_least}
use Rattle.go_package.specs.Faults.{Faults, written_type, own_constant, constant_faults}
use Rattle.go_package.specs.Views.{Finds}
use Rattle.go_package.proofs.Parts.{sooner}

abbrev pub of_value : Scope → Expression → Faults
of_value s e = faults s e ++ operand_broken e (verdict s e)

abbrev own_of : Place → Option (Option Type' × Typed) → Faults
own_of p o = broken p (asked (λ k. own_constant k.0 k.1) o)

front_none : (xs ys : Faults) → xs ++ ys ≡ [] → xs ≡ []
front_none [] ys h = refl
front_none (x ∷ xs) ys h = cc

back_none : (xs ys : Faults) → xs ++ ys ≡ [] → ys ≡ []
back_none [] ys h = h
back_none (x ∷ xs) ys h = cc

-- without a fault of its type and its value it has its own
pub own_found : {X : Type 0} (r : Result X ExprError) (s : Scope) (p : Place) (t : Option TypeExpr) (e : Expression) (of : Option (Option Type')) (value : Option Typed) → written_faults s t ++ of_value s e ≡ [] →
    of ≡ written_type s t → value ≡ operand (verdict s e) → Finds r (own_of p (both of value)) → Finds r (constant_faults s p t e)
own_found r s p t e of value none of_is value_is h =
    let front : first_fault (written_faults s t) ++ first_fault (of_value s e) ≡ [] =
    ap (λ l. first_fault l ++ first_fault (of_value s e)) (front_none (written_faults s t) (of_value s e) none) ∙ ap first_fault (back_none (written_faults s t) (of_value s e) none) in
    let same : own_of p (both of value) ≡ constant_faults s p t e =
    ap (λ o. own_of p (both o value)) of_is ∙ ap (λ v. own_of p (both (written_type s t) v)) value_is
    ∙ sym (ap (λ l. least_at p l ++ own_of p (both (written_type s t) (operand (verdict s e)))) front) in
    subst (λ (l : Faults). Finds r l) same h

-- with one it is told
pub least_found : (s : Scope) (p : Place) (t : Option TypeExpr) (e : Expression) (kind : FaultKind) → Some kind ≡ least (kinds (first_fault (written_faults s t) ++ first_fault (of_value s e))) →
    Fails (Faulty p kind) (constant_faults s p t e)
least_found s p t e kind is =
    let told = told_least p kind (first_fault (written_faults s t) ++ first_fault (of_value s e)) is in
    sooner (Faulty p kind) (least_at p (first_fault (written_faults s t) ++ first_fault (of_value s e))) (own_of p (both (written_type s t) (operand (verdict s e)))) ([], told)

pub never_least : (s : Scope) (t : Option TypeExpr) (e : Expression) → written_faults s t ++ of_value s e ≢ [] → None ≡ least (kinds (first_fault (written_faults s t) ++ first_fault (of_value s e))) → ⊥
never_least s t e some none =
    let nothing = none_least (first_fault (written_faults s t) ++ first_fault (of_value s e)) (sym none) in
    some (ap (λ l. l ++ of_value s e) (no_first (written_faults s t) (front_none (first_fault (written_faults s t)) (first_fault (of_value s e)) nothing))
    ∙ no_first (of_value s e) (back_none (first_fault (written_faults s t)) (first_fault (of_value s e)) nothing))
