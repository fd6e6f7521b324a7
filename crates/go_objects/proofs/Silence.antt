-- Nothing is known of what has a fault.
use Rattle.std.proofs.Common.{◌≡◌, List, [], ◌∷◌, ◌++◌, Option, None, refl, sym, ap, ◌∙◌, subst}
use Rattle.go_text.specs.declared.place.Place.{Place}
use Rattle.go_text.specs.declared.fault.FaultKind.{FaultKind}
use Rattle.go_ast.specs.Trees.{Expression}
use Rattle.go_expr.specs.Known.{Known, Verdict, Fine, Breaks, Passed, Scope}
use Rattle.go_expr.specs.Rules.{fine, value_due}
use Rattle.go_expr.specs.declared.error.ExprError.{ExprError}
use Rattle.go_expr.specs.declared.error.ExprError.TheVariants.{Faulty}
use Rattle.go_expr.specs.Views.{Fails}
use Rattle.go_expr.specs.Verdicts.{asked, bare_place, operand, verdict, broken, operand_broken, faults}
use Rattle.go_expr.proofs.Fineness.{faulty_unknown}

abbrev Fault : Type 0
Fault = Place × FaultKind

pub first_fault : (e : ExprError) (p : Place) (kind : FaultKind) (fs : List Fault) → e ≡ Faulty p kind → Fails e fs → (others : List Fault) × (fs ≡ (p, kind) ∷ others)
first_fault e p kind fs is h = subst (λ (x : ExprError). Fails x fs) is h

pub not_none : (fs others : List Fault) (f : Fault) → fs ≡ f ∷ others → fs ≡ [] → ⊥
not_none fs others f some none = (let no : [] ≡ f ∷ others = sym none ∙ some in cc (no))

pub broken_unknown : {A : Type 0} (p : Place) (v : Verdict A) (f : Fault) (others : List Fault) → broken p v ≡ f ∷ others → fine v ≡ None
broken_unknown p (Fine x) f others h = cc
broken_unknown p (Breaks kind) f others h = refl
broken_unknown p Passed f others h = cc

by_parts : (s : Scope) (e : Expression) (fs others : List Fault) (f : Fault) → faults s e ≡ fs → fs ++ operand_broken e (verdict s e) ≡ f ∷ others → operand (verdict s e) ≡ None
by_parts s e [] others f is h = broken_unknown (bare_place e) (asked value_due (fine (verdict s e))) f others h
by_parts s e (g ∷ gs) others f is h = ap (λ (o : Option Known). fine (asked value_due o)) (faulty_unknown s e (not_none (faults s e) gs g is))

pub operand_unknown : (s : Scope) (e : Expression) (f : Fault) (others : List Fault) → faults s e ++ operand_broken e (verdict s e) ≡ f ∷ others → operand (verdict s e) ≡ None
operand_unknown s e f others h = by_parts s e (faults s e) others f refl h
