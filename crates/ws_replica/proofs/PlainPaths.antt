-- The directories of files' paths are plain: no space and no closing brace stands in them.
use Rattle.std.proofs.Common.{◌≡◌, ℕ, ◌&&◌, ◌||◌, Bool, true, false, not, List, [], ◌∷◌, ◌++◌, refl, sym, ap, subst, ◌∙◌, inl, inr, true≢false}
use Rattle.std.specs.Prelude.{nat_eq, nat_le, length}
use Rattle.std.specs.List.{list_all, slice_split, onto_first}
use Rattle.std.proofs.lemmas.Bool.{cases_Bool, and_parts, and_from, eqb-true}
use Rattle.std.proofs.lemmas.List.Splits.{slice_split-cons_yes, slice_split-cons_no}
use Rattle.go_package_laws.specs.Packages.{is_plain}
use Rattle.ws_path.specs.Paths.{is_slash, path_elements, directory, file_name, is_element_byte, is_only_dots, is_element, has_two_elements, has_elements, is_go_file, is_reserved, is_path}
use Rattle.ws_path.proofs.Cuts.{two_parts}

abbrev is_plain_byte : ℕ → Bool
is_plain_byte b = not (nat_eq b 32 || nat_eq b 125)

-- ---- bytes of elements, and slashes

other_than : (f : ℕ → Bool) (b c : ℕ) → f c ≡ false → f b ≡ true → nat_eq b c ≡ false
other_than f b c out holds = elim (cases_Bool (nat_eq b c)) [
  | inr fails ↦ fails
  | inl is ↦ absurd (true≢false (sym holds ∙ ap f (eqb-true b c is) ∙ out))
]

neither : (x y : Bool) → x ≡ false → y ≡ false → not (x || y) ≡ true
neither false false a b = refl
neither true y a b = absurd (true≢false a)
neither false true a b = absurd (true≢false b)

plain_byte : (f : ℕ → Bool) → f 32 ≡ false → f 125 ≡ false → (b : ℕ) → f b ≡ true → is_plain_byte b ≡ true
plain_byte f space brace b holds = neither (nat_eq b 32) (nat_eq b 125) (other_than f b 32 space holds) (other_than f b 125 brace holds)

element_byte : (b : ℕ) → is_element_byte b ≡ true → is_plain_byte b ≡ true
element_byte b holds = plain_byte is_element_byte refl refl b holds

slash_byte : (b : ℕ) → is_slash b ≡ true → is_plain_byte b ≡ true
slash_byte b holds = plain_byte is_slash refl refl b holds

-- ---- the bytes of a path

abbrev AllBytes : List (List ℕ) → Type 0
AllBytes parts = list_all (list_all is_element_byte) parts ≡ true

bytes_of : (e : List ℕ) → is_element e ≡ true → list_all is_element_byte e ≡ true
bytes_of e h = (and_parts (list_all is_element_byte e) (not (is_only_dots e)) (and_parts (not (nat_eq (length e) 0)) (list_all is_element_byte e && not (is_only_dots e)) h).1).0

all_bytes : (es : List (List ℕ)) → list_all is_element es ≡ true → AllBytes es
all_bytes [] h = refl
all_bytes (e ∷ es) h =
    let both = and_parts (is_element e) (list_all is_element es) h in
    and_from (list_all is_element_byte e) (list_all (list_all is_element_byte) es) (bytes_of e both.0) (all_bytes es both.1)

from_first : (x : ℕ) (parts : List (List ℕ)) → AllBytes (onto_first x parts) → (is_element_byte x ≡ true) × AllBytes parts
from_first x [] h = ((and_parts (is_element_byte x) true (and_parts (is_element_byte x && true) true h).0).0, refl)
from_first x (part ∷ parts) h =
    let both = and_parts (is_element_byte x && list_all is_element_byte part) (list_all (list_all is_element_byte) parts) h in
    let first = and_parts (is_element_byte x) (list_all is_element_byte part) both.0 in
    (first.0, and_from (list_all is_element_byte part) (list_all (list_all is_element_byte) parts) first.1 both.1)

whole_plain : (xs : List ℕ) → AllBytes (slice_split is_slash xs) → is_plain xs ≡ true
whole_plain [] h = refl
whole_plain (x ∷ xs) h = elim (cases_Bool (is_slash x)) [
  | inl is ↦ and_from (is_plain_byte x) (is_plain xs) (slash_byte x is) (whole_plain xs (subst AllBytes (slice_split-cons_yes is_slash x xs is) h))
  | inr fails ↦ (
      let parts = from_first x (slice_split is_slash xs) (subst AllBytes (slice_split-cons_no is_slash x xs fails) h) in
      and_from (is_plain_byte x) (is_plain xs) (element_byte x parts.0) (whole_plain xs parts.1))
]

front_plain : (xs ys : List ℕ) → is_plain (xs ++ ys) ≡ true → is_plain xs ≡ true
front_plain [] ys h = refl
front_plain (x ∷ xs) ys h =
    let both = and_parts (is_plain_byte x) (is_plain (xs ++ ys)) h in
    and_from (is_plain_byte x) (is_plain xs) both.0 (front_plain xs ys both.1)

pub directory_plain : (path : List ℕ) → is_path path ≡ true → is_plain (directory path) ≡ true
directory_plain path is =
    let named = is_go_file (file_name path) && not (is_reserved (directory path)) in
    let parts = (and_parts (nat_le (length path) 200) (has_two_elements path && (has_elements path && named)) is).1 in
    let two = and_parts (has_two_elements path) (has_elements path && named) parts in
    let all : has_elements path ≡ true = (and_parts (has_elements path) named two.1).0 in
    let cut : path ≡ directory path ++ 47 ∷ file_name path = two_parts 47 path two.0 in
    front_plain (directory path) (47 ∷ file_name path) (subst (λ (xs : List ℕ). is_plain xs ≡ true) cut (whole_plain path (all_bytes (path_elements path) all)))
