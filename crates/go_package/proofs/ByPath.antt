-- Packages that are found by the numbers of their paths.
use Rattle.std.proofs.Common.{◌≡◌, ℕ, suc, ◌+◌, List, [], ◌∷◌, Option, Some, None, refl, ap, ◌∙◌, inl, inr, add-one, arith}
use Rattle.std.specs.Prelude.{position}
use Rattle.std.specs.List.{position_from, slice_get}
use Rattle.std.specs.Str.{bytes_eq}
use Rattle.std.proofs.lemmas.Bool.{cases_Bool}
use Rattle.std.proofs.lemmas.Iterator.Adapters.{position_from-zero}
use Rattle.go_package.specs.Imports.{Importable, importable_paths, package_at}

-- a package of a number, where numbers begin at another
abbrev IsNumbered : ℕ → List Importable → Option ℕ → Option Importable → Type 0
IsNumbered n ps None found = found ≡ None
IsNumbered n ps (Some m) found = (k : ℕ) × (m ≡ n + k) × (found ≡ slice_get ps k)

next : (n : ℕ) (p : Importable) (ps : List Importable) (o : Option ℕ) (found : Option Importable) → IsNumbered (suc n) ps o found → IsNumbered n (p ∷ ps) o found
next n p ps None found h = h
next n p ps (Some m) found h = (suc h.0, omega (arith, h.1), h.2)

number_found : (path : List ℕ) (n : ℕ) (ps : List Importable) → IsNumbered n ps (position_from (bytes_eq path) n (importable_paths ps)) (package_at ps path)
number_found path n [] = refl
number_found path n (p ∷ ps) = elim (cases_Bool (bytes_eq path p.path)) [
  | inl t ↦ rw t (0, omega arith, refl)
  | inr t ↦ rw (t, add-one n) (next n p ps (position_from (bytes_eq path) (suc n) (importable_paths ps)) (package_at ps path) (number_found path (suc n) ps))
]

by_number : (path : List ℕ) (ps : List Importable) → IsNumbered 0 ps (position (bytes_eq path) (importable_paths ps)) (package_at ps path)
by_number path ps = rw (position_from-zero (bytes_eq path) (importable_paths ps)) (number_found path 0 ps)

-- no path, and a path of a number
pub none_at : (path : List ℕ) (ps : List Importable) → position (bytes_eq path) (importable_paths ps) ≡ None → package_at ps path ≡ None
none_at path ps none = rw none at (by_number path ps)

pub one_at : (path : List ℕ) (ps : List Importable) (n : ℕ) → position (bytes_eq path) (importable_paths ps) ≡ Some n → package_at ps path ≡ slice_get ps n
one_at path ps n is =
    let h : IsNumbered 0 ps (Some n) (package_at ps path) = rw is at (by_number path ps) in
    let k : h.0 ≡ n = omega (arith, h.1) in
    h.2 ∙ ap (slice_get ps) k
