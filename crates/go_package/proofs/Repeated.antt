-- A specification whose type and values are repeated and have a fault.
use Rattle.std.proofs.Common.{◌≡◌, ◌≢◌, ℕ, Bool, true, false, Option, Some, None, List, [], ◌∷◌, ◌++◌, refl, sym, ap, ◌∙◌, subst, inl, inr}
use Rattle.std.specs.Prelude.{is_some, option_map}
use Rattle.std.specs.List.{list_any}
use Rattle.std.proofs.lemmas.Bool.{cases_Bool}
use Rattle.go_text.specs.declared.place.Place.{Place}
use Rattle.go_text.specs.declared.fault.FaultKind.{FaultKind}
use Rattle.go_ast.specs.Trees.{TypeExpr, ExpressionList, ConstSpec}
use Rattle.go_types.specs.Types.{Type'}
use Rattle.go_typed.specs.Trees.{Expr as Typed}
use Rattle.go_scope.specs.Names.{Used, in_exprs}
use Rattle.go_expr.specs.Known.{Scope}
use Rattle.go_expr.specs.declared.error.ExprError.{ExprError}
use Rattle.go_expr.specs.declared.error.ExprError.TheVariants.{Faulty}
use Rattle.go_expr.specs.Rules.{fine, least}
use Rattle.go_expr.specs.Views.{Fails}
use Rattle.go_expr.specs.Verdicts.{asked, both, broken, operand_list, operands_faults, type_verdict, type_faults}
use Rattle.go_expr.proofs.Fineness.{faulty_type_unknown, faulty_operands_unknown}
use Rattle.go_stmt.specs.Rules.{constants_verdict}
use Rattle.go_stmt.specs.Statements.{is_unknown, first_fault, first_faults, written_faults, repeated_faults}
use Rattle.go_stmt.proofs.Repeats.{kinds, told_as, repeated_none, none_repeated, told_least}
use Rattle.go_objects.specs.Objects as objects
use Rattle.go_objects.specs.Table.{in_written}
use Rattle.go_package.specs.Faults.{Facts, Faults, written_type, hides, hides_repeated, apart, parts_faults, constants_by}
use Rattle.go_package.proofs.Parts.{sooner}

pub neither : {A B : Type 0} (a : Option A) → both {A = A} {B = B} a None ≡ None
neither None = refl
neither (Some x) = refl

pub nor : {A B : Type 0} (b : Option B) → both {A = A} {B = B} None b ≡ None
nor None = refl
nor (Some y) = refl

values_unknown : {A : Type 0} (a : Option A) (s : Scope) (es : ExpressionList) → operands_faults s es ≢ [] → both a (operand_list s es) ≡ None
values_unknown a s es some = ap (both a) (faulty_operands_unknown s es some) ∙ neither a

by_type : (s : Scope) (u : TypeExpr) (es : ExpressionList) (fs : Faults) → type_faults s u ≡ fs → fs ++ operands_faults s es ≢ [] → both (option_map Some (fine (type_verdict s u))) (operand_list s es) ≡ None
by_type s u es [] is some = values_unknown (option_map Some (fine (type_verdict s u))) s es some
by_type s u es (f ∷ fs) is some =
    let faulty : type_faults s u ≢ [] = λ none. (let no : [] ≡ f ∷ fs = sym none ∙ is in cc (no)) in
    ap (λ (o : Option Type'). both (option_map Some o) (operand_list s es)) (faulty_type_unknown s u faulty) ∙ nor (operand_list s es)

-- nothing is known of both
pub both_unknown : (s : Scope) (t : Option TypeExpr) (es : ExpressionList) → written_faults s t ++ operands_faults s es ≢ [] → both (written_type s t) (operand_list s es) ≡ None
both_unknown s None es some = values_unknown (Some None) s es some
both_unknown s (Some u) es some = by_type s u es (type_faults s u) refl some

pub some_faulty : (e : ExprError) (p : Place) (kind : FaultKind) (fs : Faults) → e ≡ Faulty p kind → Fails e fs → fs ≢ []
some_faulty e p kind fs is h none =
    let told : Fails (Faulty p kind) fs = subst (λ (x : ExprError). Fails x fs) is h in
    let no : [] ≡ (p, kind) ∷ told.0 = sym none ∙ told.1 in
    cc (no)

abbrev own : Facts → ℕ → ℕ → Place → ConstSpec → Option (Option Type' × List Typed) → Faults
own t file iota p c o =
    broken p (asked (λ k. constants_verdict c.names k.0 k.1) o) ++ apart t file p (is_some o) (in_written c.type ++ in_exprs c.values) (objects.constants_of file iota c)

abbrev hiding : Facts → ℕ → Place → Scope → ConstSpec → Bool
hiding t file p s c = list_any (hides_repeated t file p s) (in_written c.type ++ in_exprs c.values)

hides_too : (t : Facts) (file : ℕ) (p : Place) (s : Scope) (us : List Used) → list_any (hides_repeated t file p s) us ≡ true → list_any (hides t file p) us ≡ true
hides_too t file p s [] h = cc
hides_too t file p s (u ∷ us) h = elim (cases_Bool (hides t file p u)) [
  | inl is ↦ rw is refl
  | inr not_so ↦ elim (cases_Bool (is_unknown s u)) [
    | inl unknown ↦ rw not_so (hides_too t file p s us (rw (unknown, not_so) at h))
    | inr told ↦ rw not_so (hides_too t file p s us (rw told at h))
  ]
]

abbrev all_of_it : Facts → ℕ → ℕ → Place → Scope → ConstSpec → Faults
all_of_it t file iota p s c = parts_faults t file true p s c ++ constants_by t file iota p c (written_type s c.type) (operand_list s c.values)

-- a name hides the fault
pub nothing_told : (t : Facts) (file iota : ℕ) (p : Place) (s : Scope) (c : ConstSpec) → hiding t file p s c ≡ true → written_faults s c.type ++ operands_faults s c.values ≢ [] → all_of_it t file iota p s c ≡ []
nothing_told t file iota p s c hidden some =
    let us = in_written c.type ++ in_exprs c.values in
    ap (λ b. repeated_faults b p s c.type c.values ++ own t file iota p c (both (written_type s c.type) (operand_list s c.values))) hidden
    ∙ ap (own t file iota p c) (both_unknown s c.type c.values some)
    ∙ (let shown = hides_too t file p s us hidden in rw shown refl)

-- it is told, the least one
pub least_told : (t : Facts) (file iota : ℕ) (p : Place) (s : Scope) (c : ConstSpec) (kind : FaultKind) → hiding t file p s c ≡ false →
    Some kind ≡ least (kinds (first_fault (written_faults s c.type) ++ first_faults s c.values)) → Fails (Faulty p kind) (all_of_it t file iota p s c)
least_told t file iota p s c kind shown is =
    let told : parts_faults t file true p s c ≡ (p, kind) ∷ [] =
    ap (λ b. repeated_faults b p s c.type c.values) shown ∙ told_least p kind (first_fault (written_faults s c.type) ++ first_faults s c.values) is in
    sooner (Faulty p kind) (parts_faults t file true p s c) (constants_by t file iota p c (written_type s c.type) (operand_list s c.values)) ([], told)

-- there is one
pub never_none : (p : Place) (s : Scope) (t : Option TypeExpr) (es : ExpressionList) → written_faults s t ++ operands_faults s es ≢ [] → None ≡ least (kinds (first_fault (written_faults s t) ++ first_faults s es)) → ⊥
never_none p s t es some none =
    some (repeated_none p s t es (ap (told_as p) (sym none)))

-- a type and values without a fault
pub parts_none : (t : Facts) (file : ℕ) (repeated : Bool) (p : Place) (s : Scope) (c : ConstSpec) → written_faults s c.type ++ operands_faults s c.values ≡ [] → parts_faults t file repeated p s c ≡ []
parts_none t file true p s c none = none_repeated (hiding t file p s c) p s c.type c.values none
parts_none t file false p s c none = none

-- what isn't repeated is told as it is
pub parts_shown : (e : ExprError) (t : Facts) (file : ℕ) (repeated : Bool) (p : Place) (s : Scope) (c : ConstSpec) → repeated ≡ false → Fails e (written_faults s c.type ++ operands_faults s c.values) →
    Fails e (parts_faults t file repeated p s c)
parts_shown e t file true p s c shown h = cc
parts_shown e t file false p s c shown h = h
