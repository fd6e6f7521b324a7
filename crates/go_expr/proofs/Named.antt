-- Fields that are found by the numbers of their names.
use Rattle.std.proofs.Common.{◌≡◌, ℕ, suc, ◌+◌, List, [], ◌∷◌, Option, Some, None, refl, sym, ap, ◌∙◌, inl, inr, add-one, arith}
use Rattle.std.specs.Prelude.{position, option_map}
use Rattle.std.specs.List.{find, position_from, slice_get}
use Rattle.std.specs.Str.{bytes_eq}
use Rattle.std.proofs.lemmas.Bool.{cases_Bool}
use Rattle.std.proofs.lemmas.Iterator.Adapters.{position_from-zero}
use Rattle.go_types.specs.Types.{Type'}
use Rattle.go_expr.specs.Rules.{FieldList, field_names, field_named, numbered}

abbrev Field : Type 0
Field = Option (List ℕ) × (List ℕ × Type')

-- a field of a number, where numbers begin at another
abbrev IsNumbered : ℕ → FieldList → Option ℕ → Option (ℕ × Field) → Type 0
IsNumbered n fs None found = found ≡ None
IsNumbered n fs (Some m) found = (k : ℕ) × (f : Field) × (m ≡ n + k) × (slice_get fs k ≡ Some f) × (found ≡ Some (m, f))

next : (n : ℕ) (f : Field) (fs : FieldList) (o : Option ℕ) (found : Option (ℕ × Field)) → IsNumbered (suc n) fs o found → IsNumbered n (f ∷ fs) o found
next n f fs None found h = h
next n f fs (Some m) found h = (suc h.0, h.1, omega (arith, h.2), h.3, h.4)

number_found : (x : List ℕ) (n : ℕ) (fs : FieldList) → IsNumbered n fs (position_from (bytes_eq x) n (field_names fs)) (find (λ f. bytes_eq x ((f.1).1).0) (numbered n fs))
number_found x n [] = refl
number_found x n (f ∷ fs) = elim (cases_Bool (bytes_eq x (f.1).0)) [
  | inl t ↦ rw t (0, f, omega arith, refl, refl)
  | inr t ↦ rw (t, add-one n) (next n f fs (position_from (bytes_eq x) (suc n) (field_names fs)) (find (λ f. bytes_eq x ((f.1).1).0) (numbered (suc n) fs)) (number_found x (suc n) fs))
]

pub found_by_number : (x : List ℕ) (fs : FieldList) → IsNumbered 0 fs (position (bytes_eq x) (field_names fs)) (field_named x fs)
found_by_number x fs = rw (position_from-zero (bytes_eq x) (field_names fs)) (number_found x 0 fs)

-- no name, and a name of a number
pub none_named : (x : List ℕ) (fs : FieldList) → position (bytes_eq x) (field_names fs) ≡ None → field_named x fs ≡ None
none_named x fs none = rw none at (found_by_number x fs)

pub one_named : (x : List ℕ) (fs : FieldList) (n : ℕ) (f : Field) → position (bytes_eq x) (field_names fs) ≡ Some n → slice_get fs n ≡ Some f → field_named x fs ≡ Some (n, f)
one_named x fs n f is at =
    let h : IsNumbered 0 fs (Some n) (field_named x fs) = rw is at (found_by_number x fs) in
    let k : h.0 ≡ n = omega (arith, h.2) in
    let same : Some h.1 ≡ Some f = sym h.3 ∙ ap (slice_get fs) k ∙ at in
    h.4 ∙ ap (λ o. option_map (λ g. (n, g)) o) same

pub past_named : (x : List ℕ) (fs : FieldList) (n : ℕ) → position (bytes_eq x) (field_names fs) ≡ Some n → slice_get fs n ≡ None → field_named x fs ≡ None
past_named x fs n is at =
    let h : IsNumbered 0 fs (Some n) (field_named x fs) = rw is at (found_by_number x fs) in
    let k : h.0 ≡ n = omega (arith, h.2) in
    let same : Some h.1 ≡ None = sym h.3 ∙ ap (slice_get fs) k ∙ at in
    cc
