-- Lists of checked packages, from what holds of each by its number.
use Rattle.std.proofs.Common.{◌≡◌, ℕ, zero, suc, ◌<◌, List, [], ◌∷◌, Option, Some, None, refl, ◌⊎◌, inl, inr, arith}
use Rattle.std.specs.Prelude.{◌↔◌}
use Rattle.std.specs.List.{Contains, slice_get}
use Rattle.ws_reach.proofs.Reached.{contains_get, get_contains}
use Rattle.go_typed.specs.Trees.{Package}
use Rattle.go_meaning.specs.Programs.{last_package, HasMain, IsProgram}
use Rattle.go_package_laws.specs.Packages.{IsChecked, AreCheckedBehind, AreChecked, IsNamedMain}
use Rattle.go_package_laws.proofs.Listed.{contains_behind}

by_last : (packages : List Package) (o : Option Package) → last_package packages ≡ o → HasMain o → IsNamedMain packages
by_last packages None is h = absurd h
by_last packages (Some p) is h = (p, is, h.0)

pub named_main : (packages : List Package) → IsProgram packages → IsNamedMain packages
named_main packages h = by_last packages (last_package packages) refl h

-- one of those before a number
abbrev StandsBefore : List Package → ℕ → Package → Type 0
StandsBefore packages k q = (j : ℕ) × (j < k) × (slice_get packages j ≡ Some q)

-- the others are those before that number
abbrev pub AreBefore : List Package → ℕ → List Package → Type 0
AreBefore packages k others = (q : Package) → Contains others q ↔ StandsBefore packages k q

-- and those of some list
abbrev AreBehind : List Package → List Package → ℕ → List Package → Type 0
AreBehind before packages k others = (q : Package) → Contains others q ↔ (Contains before q ⊎ StandsBefore packages k q)

first_or : (before : List Package) (p : Package) (ps : List Package) (k j : ℕ) (q : Package) → slice_get (p ∷ before) j ≡ Some q → Contains before q ⊎ StandsBefore (p ∷ ps) (suc k) q
first_or before p ps k zero q at = inr (0, omega arith, at)
first_or before p ps k (suc j) q at = inl (get_contains before j q at)

later : (before : List Package) (p : Package) (ps : List Package) (k : ℕ) (others : List Package) → AreBehind (p ∷ before) ps k others → AreBehind before (p ∷ ps) (suc k) others
later before p ps k others same q = (to, from)
  where
    to : Contains others q → Contains before q ⊎ StandsBefore (p ∷ ps) (suc k) q
    to c = elim ((same q).0 c) [
      | inl there ↦ first_or before p ps k there.0 q (contains_get (p ∷ before) q there)
      | inr s ↦ inr (suc s.0, (let lt = s.1 in omega (arith, lt)), s.2)
    ]

    at_number : (j : ℕ) → j < suc k → slice_get (p ∷ ps) j ≡ Some q → Contains others q
    at_number zero lt at = (same q).1 (inl (get_contains (p ∷ before) 0 q at))
    at_number (suc j) lt at = (same q).1 (inr (j, omega (arith, lt), at))

    from : Contains before q ⊎ StandsBefore (p ∷ ps) (suc k) q → Contains others q
    from (inl c) = (same q).1 (inl (contains_behind p before q c))
    from (inr s) = at_number s.0 s.1 s.2

each_behind : (before ps : List Package) → ((k : ℕ) (p : Package) → slice_get ps k ≡ Some p → (others : List Package) → AreBehind before ps k others → IsChecked others p) → AreCheckedBehind before ps
each_behind before [] h = tt
each_behind before (p ∷ ps) h = (
  h 0 p refl before (λ q. (λ c. inl c, λ s. elim s [ inl c ↦ c | inr n ↦ absurd (let lt = n.1 in omega (arith, lt)) ])),
  each_behind (p ∷ before) ps (λ k q at others same. h (suc k) q at others (later before p ps k others same)),
)

pub checked_each : (packages : List Package) → ((k : ℕ) (p : Package) → slice_get packages k ≡ Some p → (others : List Package) → AreBefore packages k others → IsChecked others p) → AreChecked packages
checked_each packages h = each_behind [] packages (λ k p at others same. h k p at others (λ q. (
  λ c. elim ((same q).0 c) [ inl none ↦ absurd (let no : None ≡ Some q = contains_get [] q none in cc (no)) | inr s ↦ s ],
  λ s. (same q).1 (inr s),
)))
