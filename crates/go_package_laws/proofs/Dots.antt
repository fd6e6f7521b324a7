-- A name of a source has no dot: none begins with `init.`.
use Rattle.std.proofs.Common.{◌≡◌, ℕ, true, false, List, [], ◌∷◌, ◌++◌, Some, codes, length, take, drop, refl, sym, ap, ◌∙◌, take-append-drop, inl, inr}
use Rattle.std.specs.Prelude.{nat_eq}
use Rattle.std.specs.Char.{encode_utf8, IsScalar}
use Rattle.std.specs.List.{AllByRecursion, list_all, starts_with}
use Rattle.std.specs.Str.{encode_utf8_all}
use Rattle.std.proofs.lemmas.Bool.{cases_Bool, and_parts}
use Rattle.std.proofs.lemmas.Slice.Eq.{bytes_eq-Decides}
use Rattle.bstr.specs.Utf8.{decoded, Decoded, good}
use Rattle.bstr.proofs.lemmas.EncodeLemmas.{decoded-encode}
use Rattle.ucd_category.specs.GeneralCategory.{general_category}
use Rattle.ucd_category.specs.GeneralCategoryRows.{general_category_rows}
use Rattle.ucd_table.specs.Rows.{value_in}
use Rattle.go_scan.specs.Words.{is_letter, is_inside, is_word, IsWord}

some_same : {A : Type 0} (x y : A) → Some x ≡ Some y → x ≡ y
some_same x y h = cc

-- the first character of a text that begins with an ASCII byte
first_char : (b : ℕ) (rest cs : List ℕ) → encode_utf8 b ≡ b ∷ [] → IsScalar b → AllByRecursion IsScalar cs → encode_utf8_all cs ≡ b ∷ rest
    → (others : List ℕ) × (cs ≡ b ∷ others) × (encode_utf8_all others ≡ rest) × AllByRecursion IsScalar others
first_char b rest [] single scalar all e = absurd cc
first_char b rest (c ∷ cs) single scalar all e =
    let met : decoded (encode_utf8 c ++ encode_utf8_all cs) ≡ good c (length (encode_utf8 c)) = decoded-encode c (encode_utf8_all cs) all.0 in
    let want : decoded (encode_utf8 b ++ rest) ≡ good b (length (encode_utf8 b)) = decoded-encode b rest scalar in
    let texts : encode_utf8 c ++ encode_utf8_all cs ≡ encode_utf8 b ++ rest = e ∙ ap (λ l. l ++ rest) (sym single) in
    let same : good c (length (encode_utf8 c)) ≡ good b (length (encode_utf8 b)) = sym met ∙ ap decoded texts ∙ want in
    let chars : Some c ≡ Some b = ap (λ (d : Decoded). d.char) same in
    let char : c ≡ b = some_same c b chars in
    let text : encode_utf8 c ≡ b ∷ [] = ap encode_utf8 char ∙ single in
    let behind : b ∷ encode_utf8_all cs ≡ b ∷ rest = ap (λ l. l ++ encode_utf8_all cs) (sym text) ∙ e in
    (cs, ap (λ x. x ∷ cs) char, cc (behind), all.1)

pub dot : is_inside 46 ≡ false
unfolding general_category value_in general_category_rows
dot = refl

no_word : (others : List ℕ) → is_word (105 ∷ 110 ∷ 105 ∷ 116 ∷ 46 ∷ others) ≡ true → ⊥
no_word others h =
    let one = (and_parts (is_letter 105) (list_all is_inside (110 ∷ 105 ∷ 116 ∷ 46 ∷ others)) h).1 in
    let two = (and_parts (is_inside 110) (list_all is_inside (105 ∷ 116 ∷ 46 ∷ others)) one).1 in
    let three = (and_parts (is_inside 105) (list_all is_inside (116 ∷ 46 ∷ others)) two).1 in
    let four = (and_parts (is_inside 116) (list_all is_inside (46 ∷ others)) three).1 in
    let five : is_inside 46 ≡ true = (and_parts (is_inside 46) (list_all is_inside others) four).0 in
    let no : true ≡ false = sym five ∙ dot in
    cc (no)

begins : (rest cs : List ℕ) → AllByRecursion IsScalar cs → encode_utf8_all cs ≡ 105 ∷ 110 ∷ 105 ∷ 116 ∷ 46 ∷ rest → is_word cs ≡ true → ⊥
unfolding encode_utf8
begins rest cs all e h =
    let one = first_char 105 (110 ∷ 105 ∷ 116 ∷ 46 ∷ rest) cs refl refl all e in
    let two = first_char 110 (105 ∷ 116 ∷ 46 ∷ rest) one.0 refl refl one.3 one.2 in
    let three = first_char 105 (116 ∷ 46 ∷ rest) two.0 refl refl two.3 two.2 in
    let four = first_char 116 (46 ∷ rest) three.0 refl refl three.3 three.2 in
    let five = first_char 46 rest four.0 refl refl four.3 four.2 in
    let whole : cs ≡ 105 ∷ 110 ∷ 105 ∷ 116 ∷ 46 ∷ five.0 =
    one.1 ∙ ap (λ l. 105 ∷ l) (two.1 ∙ ap (λ l. 110 ∷ l) (three.1 ∙ ap (λ l. 105 ∷ l) (four.1 ∙ ap (λ l. 116 ∷ l) five.1))) in
    no_word five.0 (ap is_word (sym whole) ∙ h)

pub no_dot : (bytes : List ℕ) → IsWord bytes → starts_with nat_eq bytes (codes "init.") ≡ false
no_dot bytes (cs, e, all, h) = elim (cases_Bool (starts_with nat_eq bytes (codes "init."))) [
  | inr not_so ↦ not_so
  | inl is ↦ absurd (
      let front : codes "init." ≡ take 5 bytes = (bytes_eq-Decides (codes "init.") (take 5 bytes)).0 is in
      let whole : bytes ≡ codes "init." ++ drop 5 bytes = sym (take-append-drop 5 bytes) ∙ ap (λ l. l ++ drop 5 bytes) (sym front) in
      begins (drop 5 bytes) cs all (sym e ∙ whole) h)
]
