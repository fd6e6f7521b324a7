-- Each object that files declare is the only one of its file at its place.
use Rattle.std.proofs.Common.{◌≡◌, ℕ, suc, true, false, List, [], ◌∷◌, ◌++◌, Some, refl, sym, ap, ◌∙◌}
use Rattle.std.specs.Prelude.{nat_eq}
use Rattle.std.specs.List.{slice_get}
use Rattle.std.proofs.lemmas.Bool.Decides.{Decides-eqb}
use Rattle.ws_reach.proofs.Closure.{IsOneOf}
use Rattle.go_text.specs.declared.place.Place.{Place}
use Rattle.go_ast.specs.Trees.{File}
use Rattle.go_init.proofs.Members.{one_any, one_left, one_here}
use Rattle.go_objects.specs.Objects.{DeclaredObject, objects_from}
use Rattle.go_package.specs.Faults.{is_declared_by}
use Rattle.go_package_laws.proofs.Completeness.Apart.{AreApart}
use Rattle.go_package_laws.proofs.Fits.{AllIn}

pub weaken : (P Q : DeclaredObject → Type 0) (os : List DeclaredObject) → ((o : DeclaredObject) → P o → Q o) → AllIn P os → AllIn Q os
weaken P Q [] f h = tt
weaken P Q (o ∷ os) f h = (f o h.0, weaken P Q os f h.1)

pub all_front : (P : DeclaredObject → Type 0) (os us : List DeclaredObject) → AllIn P (os ++ us) → AllIn P os
all_front P [] us h = tt
all_front P (o ∷ os) us h = (h.0, all_front P os us h.1)

pub all_behind : (P : DeclaredObject → Type 0) (os us : List DeclaredObject) → AllIn P (os ++ us) → AllIn P us
all_behind P [] us h = h
all_behind P (o ∷ os) us h = all_behind P os us h.1

-- ---- no two of them stand at one place

abbrev pub Alike : DeclaredObject → DeclaredObject → Type 0
Alike y o = (y.file ≡ o.file) × (y.name.place ≡ o.name.place)

abbrev Unlike : DeclaredObject → DeclaredObject → Type 0
Unlike o y = Alike y o → ⊥

abbrev Differ : List DeclaredObject → Type 0
Differ [] = Unit {0}
Differ (o ∷ os) = AllIn (Unlike o) os × Differ os

declared_alike : (o b : DeclaredObject) → Alike o b → is_declared_by o.file o.name (Some b) ≡ true
declared_alike o b alike =
    let file : nat_eq o.file b.file ≡ true = (Decides-eqb o.file b.file).1 alike.0 in
    let line : nat_eq o.name.place.line b.name.place.line ≡ true = (Decides-eqb o.name.place.line b.name.place.line).1 (ap (λ (p : Place). p.line) alike.1) in
    let column : nat_eq o.name.place.column b.name.place.column ≡ true = (Decides-eqb o.name.place.column b.name.place.column).1 (ap (λ (p : Place). p.column) alike.1) in
    rw (file, line, column) refl

later_unlike : (before os : List DeclaredObject) (b : DeclaredObject) → IsOneOf b before → AreApart before os → AllIn (Unlike b) os
later_unlike before [] b one apart = tt
later_unlike before (o ∷ os) b one apart = (
  λ alike. (let no : true ≡ false = sym (one_any (λ z. is_declared_by o.file o.name (Some z)) before b one (declared_alike o b alike)) ∙ apart.0 in cc (no)),
  later_unlike (before ++ o ∷ []) os b (one_left before (o ∷ []) b one) apart.1,
)

apart_differ : (before os : List DeclaredObject) → AreApart before os → Differ os
apart_differ before [] apart = tt
apart_differ before (o ∷ os) apart = (later_unlike (before ++ o ∷ []) os o (one_here before [] o) apart.1, apart_differ (before ++ o ∷ []) os apart.1)

-- ---- each is the only one

-- it stands among these, and what stands there is it
abbrev pub IsOnly : List DeclaredObject → DeclaredObject → Type 0
IsOnly os o = ((j : ℕ) × (slice_get os j ≡ Some o)) × AllIn (λ y. Alike y o → y ≡ o) os

more_only : (z : DeclaredObject) (os : List DeclaredObject) (o : DeclaredObject) → Unlike z o → IsOnly os o → IsOnly (z ∷ os) o
more_only z os o unlike h = ((suc (h.0).0, (h.0).1), ((λ alike. absurd (unlike (sym alike.0, sym alike.1))), h.1))

both_in : (P Q R : DeclaredObject → Type 0) (os : List DeclaredObject) → ((o : DeclaredObject) → P o → Q o → R o) → AllIn P os → AllIn Q os → AllIn R os
both_in P Q R [] f h k = tt
both_in P Q R (o ∷ os) f h k = (f o h.0 k.0, both_in P Q R os f h.1 k.1)

differ_only : (os : List DeclaredObject) → Differ os → AllIn (IsOnly os) os
differ_only [] h = tt
differ_only (o ∷ os) h = (
  ((0, refl), ((λ alike. refl), weaken (Unlike o) (λ y. Alike y o → y ≡ o) os (λ y unlike alike. absurd (unlike alike)) h.0)),
  both_in (Unlike o) (IsOnly os) (IsOnly (o ∷ os)) os (λ y unlike only. more_only o os y unlike only) h.0 (differ_only os h.1),
)

pub only_there : (files : List File) → AreApart [] (objects_from 0 files) → AllIn (IsOnly (objects_from 0 files)) (objects_from 0 files)
only_there files h = differ_only (objects_from 0 files) (apart_differ [] (objects_from 0 files) h)
