-- Words at the front of a text.
use Rattle.std.proofs.Common.{◌≡◌, ℕ, ◌<◌, ◌≤◌, zero, suc, Bool, true, false, cond, ◌||◌, nat_eq, nat_lt, List, [], ◌∷◌, ◌++◌, length, get_or, take, drop, Option, Some, None, refl, sym, ap, ◌∙◌, subst, arith, append_assoc, length-append, length-drop}
use Rattle.std.specs.List.{list_all, AllByRecursion}
use Rattle.std.specs.Bool.{beq}
use Rattle.std.specs.Char.{encode_utf8, is_ascii_alphabetic, is_ascii_digit, IsScalar}
use Rattle.std.specs.Str.{encode_utf8_all}
use Rattle.std.proofs.lemmas.Bool.Decides.{nat_tests}
use Rattle.std.proofs.lemmas.Str.{char_from_byte, encode_ascii, length-encode, len_utf8_bounds}
use lib.Utf8.{low_scalar}
use Rattle.std.proofs.Math.Seq.{drop-append_seam, take-add}
use Rattle.bstr.specs.Utf8.{decoded, Decoded, good}
use Rattle.bstr.proofs.lemmas.EncodeLemmas.{decoded-encode}
use Rattle.bstr.proofs.lemmas.SoundLemmas.{SpellsChar, SpellsChar-decoded}
use Rattle.bstr.proofs.lemmas.PieceLemmas.{size-within}
use Rattle.ucd_table.proofs.Facts.{Stepped-below, same_from_beq}
use Rattle.ucd_category.specs.GeneralCategory.{general_category, general_category_eq}
use Rattle.ucd_category.specs.GeneralCategoryGroup.{in_group}
use Rattle.ucd_category.specs.declared.GeneralCategory.TheVariants.{DecimalNumber}
use Rattle.ucd_category.specs.declared.GeneralCategoryGroup.TheVariants.{Letter}
use Rattle.ucd_category.proofs.Computing.{ucd_category}
use Rattle.ucd_category.proofs.GeneralCategoryLemmas.{general_category_stepped}
use Rattle.go_scan.specs.declared.keyword.Keyword.{Keyword}
use Rattle.go_scan.specs.declared.keyword.Keyword.TheVariants as keywords
use Rattle.go_scan.specs.Keywords.{spelling}
use Rattle.go_scan.specs.declared.shape.Shape.TheVariants.{Word}
use Rattle.go_scan.specs.declared.token.TokenKind.{TokenKind}
use Rattle.go_scan.specs.Words.{is_letter, is_digit, is_inside, is_word, IsWord}
use Rattle.go_scan.specs.Lex.{SpellsToken}
use Rattle.go_scan.specs.Fronts.{strides, char_size, keyword_in, word_kind, word_of, word_at, may_begin_word}
use Rattle.go_scan.proofs.Keys.{keyword_found, keyword_missed}
use Rattle.go_scan.proofs.Runs.{and_left, and_right, and_both, strides_on, strides_stop, strides_le, Good, Fits, take_front}

-- letters and digits among the ASCII bytes
pub letter_ascii : (c : ℕ) → c < 128 → is_letter c ≡ (nat_eq c 95 || is_ascii_alphabetic c)
unfolding ucd_category
letter_ascii c h =
    ap (λ x. nat_eq c 95 || x) (same_from_beq _ _ (Stepped-below general_category general_category_stepped (λ x g. beq (in_group Letter g) (is_ascii_alphabetic x)) 128 refl c h))

pub digit_ascii : (c : ℕ) → c < 128 → is_digit c ≡ is_ascii_digit c
unfolding ucd_category
digit_ascii c h =
    same_from_beq _ _ (Stepped-below general_category general_category_stepped (λ x g. beq (general_category_eq g DecimalNumber) (is_ascii_digit x)) 128 refl c h)

pub letter_is_inside : (c : ℕ) → is_letter c ≡ true → is_inside c ≡ true
letter_is_inside c e = ap (λ x. x || is_digit c) e

pub is_letter_byte : (b : ℕ) (r : Bool) → b < 128 → (b ≡ 95 → ⊥) → r ≡ is_ascii_alphabetic b → r ≡ is_letter b
is_letter_byte b r h never e = e ∙ ap (λ x. x || is_ascii_alphabetic b) (sym other) ∙ sym (letter_ascii b h)
  where
    other : nat_eq b 95 ≡ false
    other = grind (arith, nat_tests)

pub is_inside_byte : (b : ℕ) (r l : Bool) → b < 128 → l ≡ is_letter b → l ≡ false → r ≡ is_ascii_digit b → r ≡ is_inside b
is_inside_byte b r l h e f d = d ∙ sym (digit_ascii b h) ∙ ap (λ x. x || is_digit b) (sym (sym e ∙ f))

-- the size of the first character
abbrev pub size_if : (ℕ → Bool) → Decoded → ℕ
size_if p d = elim d.char [ None ↦ 0 | Some c ↦ cond (p c) d.size 0 ]

pub char_size_encode : (p : ℕ → Bool) (c : ℕ) (rest : List ℕ) → IsScalar c → p c ≡ true → char_size p (encode_utf8 c ++ rest) ≡ length (encode_utf8 c)
char_size_encode p c rest s e =
    ap (size_if p) (decoded-encode c rest s) ∙ ap (λ x. cond x (length (encode_utf8 c)) 0) e

-- an ASCII byte is a character
pub size_ascii : (p : ℕ → Bool) (b : ℕ) (bs : List ℕ) → b < 128 → char_size p (b ∷ bs) ≡ cond (p b) 1 0
size_ascii p b bs h =
    ap (λ ys. char_size p (ys ++ bs)) (sym (encode_ascii b h)) ∙ by_test (p b) refl
  where
    whole : decoded (encode_utf8 b ++ bs) ≡ good b (length (encode_utf8 b))
    whole = decoded-encode b bs (low_scalar b (omega arith))

    by_test : (t : Bool) → p b ≡ t → char_size p (encode_utf8 b ++ bs) ≡ cond t 1 0
    by_test t e = ap (size_if p) whole ∙ ap (λ x. cond x (length (encode_utf8 b)) 0) e ∙ ap (λ (ys : List ℕ). cond t (length ys) 0) (encode_ascii b h)

-- a character of that size
pub record FirstChar (p : ℕ → Bool) (text : List ℕ) (n : ℕ) : Type 0 where
  pub code : ℕ
  pub scalar : IsScalar code
  pub passes : p code ≡ true
  pub whole : text ≡ encode_utf8 code ++ drop n text
  pub width : length (encode_utf8 code) ≡ n
  pub within : n ≤ length text

pub first_char : (p : ℕ → Bool) (text : List ℕ) (n : ℕ) → char_size p text ≡ suc n → FirstChar p text (suc n)
first_char p text n e = by_char (decoded text).char refl (decoded text).size refl
  where
    by_char : (o : Option ℕ) → (decoded text).char ≡ o → (z : ℕ) → (decoded text).size ≡ z → FirstChar p text (suc n)
    by_char None f z g = let none : 0 ≡ suc n = sym (ap (λ (o : Option ℕ). elim o [ None ↦ 0 | Some c ↦ cond (p c) (decoded text).size 0 ]) f) ∙ e in cc
    by_char (Some c) f z g = by_test (p c) refl (ap (λ (o : Option ℕ). elim o [ None ↦ 0 | Some c ↦ cond (p c) (decoded text).size 0 ]) f) (SpellsChar-decoded text c f)
      where
        by_test : (t : Bool) → p c ≡ t → char_size p text ≡ cond (p c) (decoded text).size 0 → SpellsChar text c (decoded text).size → FirstChar p text (suc n)
        by_test false q value spelled = let none : 0 ≡ suc n = sym (ap (λ x. cond x (decoded text).size 0) q) ∙ sym value ∙ e in cc
        by_test true q value spelled =
            let size : (decoded text).size ≡ suc n = sym (ap (λ x. cond x (decoded text).size 0) q) ∙ sym value ∙ e in
            record {
              code = c;
              scalar = spelled.scalar;
              passes = q;
              whole = spelled.bytes ∙ ap (λ k. encode_utf8 c ++ drop k text) size;
              width = spelled.width ∙ size;
              within = subst (λ k. k ≤ length text) size (size-within text);
            }

pub char_size_le : (p : ℕ → Bool) (text : List ℕ) → char_size p text ≤ length text
char_size_le p text = by_char (decoded text).char
  where
    by_test : (t : Bool) → cond t (decoded text).size 0 ≤ length text
    by_test true = size-within text
    by_test false = omega arith

    by_char : (o : Option ℕ) → (elim o [ None ↦ 0 | Some c ↦ cond (p c) (decoded text).size 0 ]) ≤ length text
    by_char None = omega arith
    by_char (Some c) = by_test (p c)

-- letters and digits are no more than the steps over them
pub chars_le : (cs rest : List ℕ) → AllByRecursion IsScalar cs → list_all is_inside cs ≡ true → length (encode_utf8_all cs) ≤ strides (char_size is_inside) 0 (encode_utf8_all cs ++ rest)
chars_le [] rest s a = omega arith
chars_le (c ∷ cs) rest s a =
    let more : List ℕ = encode_utf8_all cs ++ rest in
    let whole : encode_utf8_all (c ∷ cs) ++ rest ≡ encode_utf8 c ++ more = append_assoc (encode_utf8 c) (encode_utf8_all cs) rest in
    let size = char_size_encode is_inside c more s.0 (and_left (is_inside c) (list_all is_inside cs) a) in
    let ih = chars_le cs rest s.1 (and_right (is_inside c) (list_all is_inside cs) a) in
    subst (λ ys. length (encode_utf8_all (c ∷ cs)) ≤ strides (char_size is_inside) 0 ys) (sym whole)
    (by_size (length (encode_utf8 c)) refl more size ih)
  where
    by_size : (n : ℕ) → length (encode_utf8 c) ≡ n → (more : List ℕ) → char_size is_inside (encode_utf8 c ++ more) ≡ length (encode_utf8 c) → length (encode_utf8_all cs) ≤ strides (char_size is_inside) 0 more → length (encode_utf8_all (c ∷ cs)) ≤ strides (char_size is_inside) 0 (encode_utf8 c ++ more)
    by_size zero w more size ih = absurd (omega (arith, length-encode c, (len_utf8_bounds c).0))
    by_size (suc n) w more size ih =
        let on = strides_on (char_size is_inside) n (encode_utf8 c ++ more) (size ∙ w) (omega (arith, w, length-append (encode_utf8 c) more)) in
        let behind : drop (suc n) (encode_utf8 c ++ more) ≡ more = ap (λ k. drop k (encode_utf8 c ++ more)) (sym w) ∙ drop-append_seam (encode_utf8 c) more in
        let same = ap (strides (char_size is_inside) 0) behind in
        omega (arith, on, same, ih, w, length-append (encode_utf8 c) (encode_utf8_all cs))

-- and all that the steps take is letters and digits
abbrev pub Chars : List ℕ → Type 0
Chars text = (cs : List ℕ) × (take (strides (char_size is_inside) 0 text) text ≡ encode_utf8_all cs) × AllByRecursion IsScalar cs × (list_all is_inside cs ≡ true)

-- a step, and the letters and digits behind it
chars_step : (text : List ℕ) (n : ℕ) → char_size is_inside text ≡ suc n → (f : FirstChar is_inside text (suc n)) → Chars (drop (suc n) text) →
    (cs : List ℕ) × (take (strides (char_size is_inside) 0 text) text ≡ encode_utf8 f.code ++ encode_utf8_all cs) × AllByRecursion IsScalar cs × (list_all is_inside cs ≡ true)
chars_step text n e f more =
    let on = strides_on (char_size is_inside) n text e f.within in
    let first : take (suc n) text ≡ encode_utf8 f.code = take_front (encode_utf8 f.code) (drop (suc n) text) text (suc n) f.whole (sym f.width) in (
      more.0,
      ap (λ k. take k text) on
          ∙ take-add (suc n) (strides (char_size is_inside) 0 (drop (suc n) text)) text
          ∙ ap (λ ys. ys ++ take (strides (char_size is_inside) 0 (drop (suc n) text)) (drop (suc n) text)) first
          ∙ ap (λ ys. encode_utf8 f.code ++ ys) more.1,
      more.2,
      more.3,
    )

chars_taken : (m : ℕ) (text : List ℕ) → length text ≤ m → Chars text
chars_taken m [] le = ([], refl, tt, refl)
chars_taken zero (b ∷ bs) le = absurd (omega arith)
chars_taken (suc m) (b ∷ bs) le = by_size (char_size is_inside (b ∷ bs)) refl (λ ys short. chars_taken m ys short)
  where
    by_size : (n : ℕ) → char_size is_inside (b ∷ bs) ≡ n → ((ys : List ℕ) → length ys ≤ m → Chars ys) → Chars (b ∷ bs)
    by_size zero e rec = ([], ap (λ k. take k (b ∷ bs)) (strides_stop (char_size is_inside) (b ∷ bs) e), tt, refl)
    by_size (suc n) e rec =
        let f = first_char is_inside (b ∷ bs) n e in
        let w = chars_step (b ∷ bs) n e f (rec (drop (suc n) (b ∷ bs)) (omega (arith, length-drop (suc n) (b ∷ bs)))) in
        (f.code ∷ w.0, w.1, (f.scalar, w.2), and_both (is_inside f.code) (list_all is_inside w.0) f.passes w.3)

-- a letter may stand in a name
letter_size : (text : List ℕ) (n : ℕ) → char_size is_letter text ≡ suc n → (f : FirstChar is_letter text (suc n)) → char_size is_inside text ≡ suc n
letter_size text n e f =
    ap (char_size is_inside) f.whole
    ∙ char_size_encode is_inside f.code (drop (suc n) text) f.scalar (letter_is_inside f.code f.passes)
    ∙ f.width

-- a text that begins with a letter begins with a word
pub letter_word : (text : List ℕ) (n : ℕ) → char_size is_letter text ≡ suc n → IsWord (take (strides (char_size is_inside) 0 text) text) × (1 ≤ strides (char_size is_inside) 0 text)
letter_word text n e =
    let f = first_char is_letter text n e in
    let g : FirstChar is_inside text (suc n) = record { code = f.code; scalar = f.scalar; passes = letter_is_inside f.code f.passes; whole = f.whole; width = f.width; within = f.within } in
    let size = letter_size text n e f in
    let w = chars_step text n size g (chars_taken (length text) (drop (suc n) text) (omega (arith, length-drop (suc n) text))) in
    let on = strides_on (char_size is_inside) n text size f.within in
    ((f.code ∷ w.0, w.1, (f.scalar, w.2), and_both (is_letter f.code) (list_all is_inside w.0) f.passes w.3), omega (arith, on))

spelled_word : (bytes : List ℕ) → IsWord bytes → SpellsToken (word_kind (keyword_in bytes)) bytes
spelled_word bytes word = by_found (keyword_in bytes) refl
  where
    by_found : (o : Option Keyword) → keyword_in bytes ≡ o → SpellsToken (word_kind o) bytes
    by_found None e = (word, keyword_missed bytes e)
    by_found (Some k) e = keyword_found bytes k e

pub word_good : (text : List ℕ) → Good text (word_at text)
word_good text = by_size (char_size is_letter text) refl
  where
    by_size : (n : ℕ) → char_size is_letter text ≡ n → Good text (elim n [ zero ↦ None | suc k ↦ word_of (strides (char_size is_inside) 0 text) text ])
    by_size zero e = tt
    by_size (suc n) e = let w = letter_word text n e in (spelled_word _ w.0, w.1, strides_le (char_size is_inside) 0 text)

-- where a word is spelled, one is found
word_found : (c : ℕ) (cs rest : List ℕ) → AllByRecursion IsScalar (c ∷ cs) → is_word (c ∷ cs) ≡ true →
    (word_at (encode_utf8_all (c ∷ cs) ++ rest) ≡ word_of (strides (char_size is_inside) 0 (encode_utf8_all (c ∷ cs) ++ rest)) (encode_utf8_all (c ∷ cs) ++ rest))
    × (length (encode_utf8_all (c ∷ cs)) ≤ strides (char_size is_inside) 0 (encode_utf8_all (c ∷ cs) ++ rest))
word_found c cs rest s w =
    let letter = and_left (is_letter c) (list_all is_inside cs) w in
    let inside = and_both (is_inside c) (list_all is_inside cs) (letter_is_inside c letter) (and_right (is_letter c) (list_all is_inside cs) w) in
    let text : List ℕ = encode_utf8_all (c ∷ cs) ++ rest in
    let more : List ℕ = encode_utf8_all cs ++ rest in
    let whole : text ≡ encode_utf8 c ++ more = append_assoc (encode_utf8 c) (encode_utf8_all cs) rest in
    let size : char_size is_letter text ≡ length (encode_utf8 c) = ap (char_size is_letter) whole ∙ char_size_encode is_letter c more s.0 letter in
    (by_size text (length (encode_utf8 c)) refl size, chars_le (c ∷ cs) rest s inside)
  where
    by_size : (text : List ℕ) (n : ℕ) → length (encode_utf8 c) ≡ n → char_size is_letter text ≡ length (encode_utf8 c) → word_at text ≡ word_of (strides (char_size is_inside) 0 text) text
    by_size text zero e size = absurd (omega (arith, length-encode c, (len_utf8_bounds c).0))
    by_size text (suc n) e size = ap (λ k. elim k [ zero ↦ None | suc k ↦ word_of (strides (char_size is_inside) 0 text) text ]) (size ∙ e)

pub word_fits : (kind : TokenKind) (xs rest : List ℕ) → IsWord xs → word_kind (keyword_in xs) ≡ kind → Fits (Word kind) (length xs) (word_at (xs ++ rest))
word_fits kind xs rest ([], e, s, w) k = cc
word_fits kind xs rest (c ∷ cs, e, s, w) k =
    let f = word_found c cs rest s w in
    let text : List ℕ = xs ++ rest in
    let same : text ≡ encode_utf8_all (c ∷ cs) ++ rest = ap (λ ys. ys ++ rest) e in
    let n : ℕ = strides (char_size is_inside) 0 text in
    let found : word_at text ≡ word_of n text = subst (λ (ys : List ℕ). word_at ys ≡ word_of (strides (char_size is_inside) 0 ys) ys) (sym same) f.0 in
    let le : length xs ≤ n = subst (λ (ys : List ℕ). length ys ≤ strides (char_size is_inside) 0 (ys ++ rest)) (sym e) f.1 in
    subst (Fits (Word kind) (length xs)) (sym found)
    (le, λ size. ap (λ ys. Word (word_kind (keyword_in ys))) (take_front xs rest text n refl size) ∙ ap (λ q. Word q) k)

-- a word begins with a byte that may begin one
first_byte : (c : ℕ) (text rest : List ℕ) → text ≡ encode_utf8 c ++ rest → 0 < length text → is_letter c ≡ true → may_begin_word (get_or text 0 0) ≡ true
first_byte c text rest e some letter = by_test (nat_lt (get_or text 0 0) 128) refl
  where
    high : (b : ℕ) → 128 ≤ b → may_begin_word b ≡ true
    high b le = grind (arith, nat_tests)

    low : (b : ℕ) → (nat_eq b 95 || is_ascii_alphabetic b) ≡ true → may_begin_word b ≡ true
    low b h = grind (arith, nat_tests)

    by_test : (t : Bool) → nat_lt (get_or text 0 0) 128 ≡ t → may_begin_word (get_or text 0 0) ≡ true
    by_test false q = high (get_or text 0 0) (grind (arith, nat_tests))
    by_test true q =
        let lt : get_or text 0 0 < 128 = grind (arith, nat_tests) in
        let same : c ≡ get_or text 0 0 = char_from_byte text rest c e lt some in
        low (get_or text 0 0) (sym (letter_ascii (get_or text 0 0) lt) ∙ ap is_letter (sym same) ∙ letter)

pub word_first : (xs rest : List ℕ) → IsWord xs → (may_begin_word (get_or (xs ++ rest) 0 0) ≡ true) × (1 ≤ length xs)
word_first xs rest ([], e, s, w) = cc
word_first xs rest (c ∷ cs, e, s, w) =
    let whole : xs ++ rest ≡ encode_utf8 c ++ (encode_utf8_all cs ++ rest) = ap (λ ys. ys ++ rest) e ∙ append_assoc (encode_utf8 c) (encode_utf8_all cs) rest in
    let size : 1 ≤ length xs = omega (arith, ap (λ (ys : List ℕ). length ys) e, length-append (encode_utf8 c) (encode_utf8_all cs), length-encode c, (len_utf8_bounds c).0) in
    (first_byte c (xs ++ rest) (encode_utf8_all cs ++ rest) whole (omega (arith, size, length-append xs rest)) (and_left (is_letter c) (list_all is_inside cs) w), size)

-- keywords are words
pub keyword_is_word : (k : Keyword) → IsWord (spelling k)
unfolding ucd_category encode_utf8
keyword_is_word keywords.Break = (spelling keywords.Break, refl, (refl, (refl, (refl, (refl, (refl, tt))))), refl)
keyword_is_word keywords.Case = (spelling keywords.Case, refl, (refl, (refl, (refl, (refl, tt)))), refl)
keyword_is_word keywords.Chan = (spelling keywords.Chan, refl, (refl, (refl, (refl, (refl, tt)))), refl)
keyword_is_word keywords.Const = (spelling keywords.Const, refl, (refl, (refl, (refl, (refl, (refl, tt))))), refl)
keyword_is_word keywords.Continue = (spelling keywords.Continue, refl, (refl, (refl, (refl, (refl, (refl, (refl, (refl, (refl, tt)))))))), refl)
keyword_is_word keywords.Default = (spelling keywords.Default, refl, (refl, (refl, (refl, (refl, (refl, (refl, (refl, tt))))))), refl)
keyword_is_word keywords.Defer = (spelling keywords.Defer, refl, (refl, (refl, (refl, (refl, (refl, tt))))), refl)
keyword_is_word keywords.Else = (spelling keywords.Else, refl, (refl, (refl, (refl, (refl, tt)))), refl)
keyword_is_word keywords.Fallthrough = (spelling keywords.Fallthrough, refl, (refl, (refl, (refl, (refl, (refl, (refl, (refl, (refl, (refl, (refl, (refl, tt))))))))))), refl)
keyword_is_word keywords.For = (spelling keywords.For, refl, (refl, (refl, (refl, tt))), refl)
keyword_is_word keywords.Func = (spelling keywords.Func, refl, (refl, (refl, (refl, (refl, tt)))), refl)
keyword_is_word keywords.Go = (spelling keywords.Go, refl, (refl, (refl, tt)), refl)
keyword_is_word keywords.Goto = (spelling keywords.Goto, refl, (refl, (refl, (refl, (refl, tt)))), refl)
keyword_is_word keywords.If = (spelling keywords.If, refl, (refl, (refl, tt)), refl)
keyword_is_word keywords.Import = (spelling keywords.Import, refl, (refl, (refl, (refl, (refl, (refl, (refl, tt)))))), refl)
keyword_is_word keywords.Interface = (spelling keywords.Interface, refl, (refl, (refl, (refl, (refl, (refl, (refl, (refl, (refl, (refl, tt))))))))), refl)
keyword_is_word keywords.Map = (spelling keywords.Map, refl, (refl, (refl, (refl, tt))), refl)
keyword_is_word keywords.Package = (spelling keywords.Package, refl, (refl, (refl, (refl, (refl, (refl, (refl, (refl, tt))))))), refl)
keyword_is_word keywords.Range = (spelling keywords.Range, refl, (refl, (refl, (refl, (refl, (refl, tt))))), refl)
keyword_is_word keywords.Return = (spelling keywords.Return, refl, (refl, (refl, (refl, (refl, (refl, (refl, tt)))))), refl)
keyword_is_word keywords.Select = (spelling keywords.Select, refl, (refl, (refl, (refl, (refl, (refl, (refl, tt)))))), refl)
keyword_is_word keywords.Struct = (spelling keywords.Struct, refl, (refl, (refl, (refl, (refl, (refl, (refl, tt)))))), refl)
keyword_is_word keywords.Switch = (spelling keywords.Switch, refl, (refl, (refl, (refl, (refl, (refl, (refl, tt)))))), refl)
keyword_is_word keywords.Type = (spelling keywords.Type, refl, (refl, (refl, (refl, (refl, tt)))), refl)
keyword_is_word keywords.Var = (spelling keywords.Var, refl, (refl, (refl, (refl, tt))), refl)

-- where a letter is, a word is
pub word_some : (text : List ℕ) → (char_size is_letter text ≡ 0 → ⊥) → word_at text ≡ word_of (strides (char_size is_inside) 0 text) text
word_some text never = by_size (char_size is_letter text) refl
  where
    by_size : (n : ℕ) → char_size is_letter text ≡ n → (elim n [ zero ↦ None | suc k ↦ word_of (strides (char_size is_inside) 0 text) text ]) ≡ word_of (strides (char_size is_inside) 0 text) text
    by_size zero e = absurd (never e)
    by_size (suc n) e = refl
