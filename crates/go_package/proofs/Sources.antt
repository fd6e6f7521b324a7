-- What gives the variables of a specification their values.
use Rattle.std.proofs.Common.{◌≡◌, ℕ, suc, true, false, ◌||◌, not, inl, inr, arith, Option, Some, None, Result, Ok, Err, List, [], ◌∷◌, ◌++◌, IfOk, refl, ap, ◌∙◌, subst}
use Rattle.std.specs.Prelude.{Bool, nat_eq, if◌then◌else◌, length, is_some}
use Rattle.std.proofs.lemmas.Bool.{cases_Bool, eqb-true}
use Rattle.std.specs.List.{slice_get}
use Rattle.std.specs.Option.{option_map}
use Rattle.go_text.specs.declared.place.Place.{Place}
use Rattle.go_ast.specs.Trees.{Name, TypeExpr, ExpressionList, VarSpec}
use Rattle.go_types.specs.Types.{Type'}
use Rattle.go_typed.specs.Trees as typed
use Rattle.go_typed.specs.Views.{as_source}
use Rattle.go_typed.specs.declared.statement.TypedSource.{TypedSource}
use Rattle.go_scope.specs.Names.{in_exprs}
use Rattle.go_expr.specs.declared.error.ExprError.{ExprError}
use Rattle.go_text.specs.declared.fault.FaultKind.TheVariants.{Count}
use Rattle.go_expr.specs.Known.{Fine, Breaks, Scope}
use Rattle.go_expr.specs.Rules.{fine}
use Rattle.go_expr.specs.Verdicts.{both, asked_both}
use Rattle.go_stmt.specs.Rules.{AssignedValues, separate, together, no_values, variables_source}
use Rattle.go_stmt.specs.Statements.{values_known}
use Rattle.go_objects.specs.Objects.{DeclaredObject, variables_of}
use Rattle.go_objects.specs.Table.{in_written, scope_at}
use Rattle.go_package.specs.Faults.{Facts, Faults, written_type, apart, variables_by}
use Rattle.go_package.specs.Views.{Finds}
use Rattle.go_package.specs.Typed.{initializations_by, spec_initializations}
use Rattle.go_package.proofs.Parts.{asked_apart}

abbrev pub given : VarSpec → Option (Option Type') → Option AssignedValues → Option typed.ValueSource
given spec of values = fine (asked_both (variables_source spec.names) of values)

-- ---- one without names gives nothing

-- whatever the count of the values comes to
none_counted : (t : Facts) (files : List (List ℕ)) (file : ℕ) (of : Option TypeExpr) (es : ExpressionList) (b : Bool) →
    [] ≡ initializations_by t files file (record { names = []; type = of; values = es }) (fine (if b then Fine (typed.each typed.no_exprs) else Breaks Count))
none_counted t files file of es true = refl
none_counted t files file of es false = refl

none_written : (t : Facts) (files : List (List ℕ)) (file : ℕ) (of : Option TypeExpr) (es : ExpressionList) (a b : Bool) →
    [] ≡ initializations_by t files file (record { names = []; type = of; values = es }) (fine (if a then Fine (typed.zeros []) else (if b then Fine (typed.each typed.no_exprs) else Breaks Count)))
none_written t files file of es true b = refl
none_written t files file of es false true = refl
none_written t files file of es false false = refl

-- a call whose results are as many as no names gives none
no_zero : (n : ℕ) → nat_eq 0 (suc n) ≡ false
no_zero n = elim (cases_Bool (nat_eq 0 (suc n))) [ inl is ↦ absurd (omega (arith, eqb-true 0 (suc n) is)) | inr not_so ↦ not_so ]

none_results : (t : Facts) (files : List (List ℕ)) (file : ℕ) (of : Option TypeExpr) (es : ExpressionList) (ts : List Type') (f : typed.Symbol) (xs : typed.Exprs) (a b : Bool) → b ≡ false →
    [] ≡ initializations_by t files file (record { names = []; type = of; values = es }) (fine (if a || not b then Breaks Count else Fine (typed.results ts f xs)))
none_results t files file of es ts f xs true false is = refl
none_results t files file of es ts f xs false false is = refl
none_results t files file of es ts f xs true true is = cc
none_results t files file of es ts f xs false true is = cc

none_given : (t : Facts) (files : List (List ℕ)) (file : ℕ) (of : Option TypeExpr) (es : ExpressionList) (o : Option (Option Type')) (v : Option AssignedValues) →
    [] ≡ initializations_by t files file (record { names = []; type = of; values = es }) (given (record { names = []; type = of; values = es }) o v)
none_given t files file of es None v = refl
none_given t files file of es (Some o) None = refl
none_given t files file of es (Some None) (Some (separate [])) = refl
none_given t files file of es (Some None) (Some (separate (x ∷ xs))) = none_counted t files file of es (nat_eq 0 (length (x ∷ xs)))
none_given t files file of es (Some None) (Some (together [] f xs)) = refl
none_given t files file of es (Some None) (Some (together (u ∷ us) f xs)) =
    none_results t files file of es (u ∷ us) f xs (nat_eq (length (u ∷ us)) 0) (nat_eq 0 (length (u ∷ us))) (no_zero (length us))
none_given t files file of es (Some None) (Some no_values) = refl
none_given t files file of es (Some (Some u)) (Some (separate [])) = refl
none_given t files file of es (Some (Some u)) (Some (separate (x ∷ xs))) = none_written t files file of es (nat_eq (length (x ∷ xs)) 0) (nat_eq 0 (length (x ∷ xs)))
none_given t files file of es (Some (Some u)) (Some (together [] f xs)) = refl
none_given t files file of es (Some (Some u)) (Some (together (w ∷ us) f xs)) =
    none_results t files file of es (w ∷ us) f xs (nat_eq (length (w ∷ us)) 0) (nat_eq 0 (length (w ∷ us))) (no_zero (length us))
none_given t files file of es (Some (Some u)) (Some no_values) = refl

pub nameless : (t : Facts) (files : List (List ℕ)) (file : ℕ) (ns : List Name) (of : Option TypeExpr) (es : ExpressionList) → None ≡ slice_get ns 0 →
    [] ≡ spec_initializations t files file (record { names = ns; type = of; values = es })
nameless t files file [] of es first = let s = scope_at t.package t.known file None in none_given t files file of es (written_type s of) (values_known s es)
nameless t files file (n ∷ ns) of es first = cc

-- ---- what its parts give

pub from_parts : {E : Type 0} (r : Result (Option TypedSource) E) (t : Facts) (files : List (List ℕ)) (file : ℕ) (spec : VarSpec) (s : Scope) (of : Option (Option Type')) (values : Option AssignedValues) →
    s ≡ scope_at t.package t.known file None → of ≡ written_type s spec.type → values ≡ values_known s spec.values → IfOk r (λ source. option_map as_source source ≡ given spec of values) →
    IfOk r (λ source. initializations_by t files file spec (option_map as_source source) ≡ spec_initializations t files file spec)
from_parts (Err e) t files file spec s of values stands of_is values_are h = tt
from_parts (Ok source) t files file spec s of values stands of_is values_are h =
    ap (initializations_by t files file spec)
    (h ∙ ap (λ o. given spec o values) of_is ∙ ap (given spec (written_type s spec.type)) values_are
    ∙ ap (λ (z : Scope). given spec (written_type z spec.type) (values_known z spec.values)) stands)

-- ---- where a part isn't known, its variables are asked by themselves

pub by_each : {X : Type 0} (r : Result X ExprError) (t : Facts) (file : ℕ) (p : Place) (spec : VarSpec) (o : Option (Option Type')) (v : Option AssignedValues) (of : Option TypeExpr) (es : ExpressionList) (os : List DeclaredObject) →
    is_some (both o v) ≡ false → of ≡ spec.type → es ≡ spec.values → os ≡ variables_of file spec → Finds r (apart t file p false (in_written of ++ in_exprs es) os) → Finds r (variables_by t file p spec o v)
by_each r t file p spec o v of es os unknown of_is values_are objects_are h =
    let told : Option TypeExpr → ExpressionList → List DeclaredObject → Faults = λ u xs l. apart t file p false (in_written u ++ in_exprs xs) l in
    let seen : told of es os ≡ told spec.type spec.values (variables_of file spec) =
    ap (λ (u : Option TypeExpr). told u es os) of_is ∙ ap (λ (xs : ExpressionList). told spec.type xs os) values_are ∙ ap (λ (l : List DeclaredObject). told spec.type spec.values l) objects_are in
    asked_apart r t file p (λ (k : Option Type' × AssignedValues). variables_source spec.names k.0 k.1) (both o v) (in_written spec.type ++ in_exprs spec.values) (variables_of file spec) unknown
    (subst (λ (l : Faults). Finds r l) seen h)

pub none_by_each : (spec : VarSpec) (o : Option (Option Type')) (v : Option AssignedValues) → is_some (both o v) ≡ false → None ≡ given spec o v
none_by_each spec None v unknown = refl
none_by_each spec (Some of) None unknown = refl
none_by_each spec (Some of) (Some values) unknown = cc
