-- Escapes at the front of a text.
use Rattle.std.proofs.Common.{◌≡◌, ℕ, ◌+◌, ◌*◌, ◌<◌, ◌≤◌, ◌⊎◌, inl, inr, zero, suc, Bool, true, false, cond, nat_eq, List, [], ◌∷◌, ◌++◌, length, take, Option, Some, None, refl, sym, ap, ◌∙◌, subst, arith, length-append, length-take, eqb-true}
use Rattle.std.specs.List.{list_all}
use Rattle.std.specs.Char.{digit_value}
use Rattle.std.proofs.lemmas.Bool.Decides.{nat_tests}
use Rattle.go_scan.specs.declared.escapes.Form.{Form}
use Rattle.go_scan.specs.declared.escapes.Form.TheVariants.{Octal, Two, Four, Eight}
use Rattle.go_scan.specs.declared.escapes.Meaning.{Meaning}
use Rattle.go_scan.specs.declared.escapes.Meaning.TheVariants.{Byte}
use Rattle.go_scan.specs.Numbers.{is_digit_of}
use Rattle.go_scan.specs.Escapes.{letter_escape, escape_prefix, count, escape_base, number_from, means, IsEscape}
use Rattle.go_scan.specs.Fronts.{digits_at, sized, front_meaning, number_escape_at, other_escape_at, escape_at}
use Rattle.go_scan.proofs.Runs.{and_left, and_right, and_both}

-- digits are read
pub digits_read : (base n : ℕ) (ds rest : List ℕ) → list_all (is_digit_of base) ds ≡ true → digits_at base (length ds) n (ds ++ rest) ≡ Some (number_from base n ds)
digits_read base n [] rest a = refl
digits_read base n (d ∷ ds) rest a =
    ap (λ x. cond x (digits_at base (length ds) (n * base + digit_value d) (ds ++ rest)) None) (and_left (is_digit_of base d) (list_all (is_digit_of base) ds) a)
    ∙ digits_read base (n * base + digit_value d) ds rest (and_right (is_digit_of base d) (list_all (is_digit_of base) ds) a)

-- and what is read is digits
pub record Digits (base k n : ℕ) (text : List ℕ) (value : ℕ) : Type 0 where
  pub within : k ≤ length text
  pub digits : list_all (is_digit_of base) (take k text) ≡ true
  pub number : number_from base n (take k text) ≡ value

pub digits_taken : (base k n : ℕ) (text : List ℕ) (value : ℕ) → digits_at base k n text ≡ Some value → Digits base k n text value
digits_taken base zero n text value e = let same : n ≡ value = cc in record { within = omega arith; digits = refl; number = same }
digits_taken base (suc k) n [] value e = cc
digits_taken base (suc k) n (b ∷ bs) value e = by_test (is_digit_of base b) refl e (λ h. digits_taken base k (n * base + digit_value b) bs value h)
  where
    by_test : (c : Bool) → is_digit_of base b ≡ c → cond c (digits_at base k (n * base + digit_value b) bs) None ≡ Some value → (digits_at base k (n * base + digit_value b) bs ≡ Some value → Digits base k (n * base + digit_value b) bs value) → Digits base (suc k) n (b ∷ bs) value
    by_test false t q ih = cc
    by_test true t q ih =
        let d = ih q in
        record { within = omega (arith, d.within); digits = and_both (is_digit_of base b) (list_all (is_digit_of base) (take k bs)) t d.digits; number = d.number }

-- an escape that is found
pub record Found (quote : ℕ) (text : List ℕ) (n : ℕ) (m : Meaning) : Type 0 where
  pub some : 2 ≤ n
  pub within : n ≤ length text
  pub escape : IsEscape quote (take n text) m

abbrev Sound : ℕ → List ℕ → Option (ℕ × Meaning) → Type 0
Sound quote text None = Unit {0}
Sound quote text (Some e) = Found quote text e.0 e.1

sound_if : (quote : ℕ) (text : List ℕ) (c : Bool) (x y : Option (ℕ × Meaning)) → (c ≡ true → Sound quote text x) → (c ≡ false → Sound quote text y) → Sound quote text (cond c x y)
sound_if quote text true x y p q = p refl
sound_if quote text false x y p q = q refl

-- the text behind the backslash, by the form
number_sound : (quote : ℕ) (form : Form) (rest : List ℕ) → Sound quote (92 ∷ escape_prefix form ++ rest) (number_escape_at form rest)
number_sound quote form rest = by_digits (digits_at (escape_base form) (count form) 0 rest) refl
  where
    by_digits : (o : Option ℕ) → digits_at (escape_base form) (count form) 0 rest ≡ o → Sound quote (92 ∷ escape_prefix form ++ rest) (front_meaning form o)
    by_digits None e = tt
    by_digits (Some v) e = by_meaning (means form v) refl
      where
        d : Digits (escape_base form) (count form) 0 rest v
        d = digits_taken (escape_base form) (count form) 0 rest v e

        by_meaning : (o : Option Meaning) → means form v ≡ o → Sound quote (92 ∷ escape_prefix form ++ rest) (sized (1 + length (escape_prefix form) + count form) o)
        by_meaning None f = tt
        by_meaning (Some m) f = record {
          some = some form;
          within = omega (arith, d.within, length-append (escape_prefix form) rest);
          escape = inr (form, take (count form) rest, whole form, omega (arith, d.within, length-take (count form) rest), d.digits, ap (means form) d.number ∙ f);
        }
          where
            some : (form : Form) → 2 ≤ 1 + length (escape_prefix form) + count form
            some Octal = omega arith
            some Two = omega arith
            some Four = omega arith
            some Eight = omega arith

            whole : (form : Form) → take (1 + length (escape_prefix form) + count form) (92 ∷ escape_prefix form ++ rest) ≡ 92 ∷ escape_prefix form ++ take (count form) rest
            whole Octal = refl
            whole Two = refl
            whole Four = refl
            whole Eight = refl

other_sound : (quote b : ℕ) (bs : List ℕ) → Sound quote (92 ∷ b ∷ bs) (other_escape_at b bs)
other_sound quote b bs =
    sound_if quote (92 ∷ b ∷ bs) (nat_eq b 120) _ _ (λ t. at_letter Two 120 t (number_sound quote Two bs)) (λ _.
    sound_if quote (92 ∷ b ∷ bs) (nat_eq b 117) _ _ (λ t. at_letter Four 117 t (number_sound quote Four bs)) (λ _.
    sound_if quote (92 ∷ b ∷ bs) (nat_eq b 85) _ _ (λ t. at_letter Eight 85 t (number_sound quote Eight bs)) (λ _.
    number_sound quote Octal (b ∷ bs))))
  where
    at_letter : (form : Form) (c : ℕ) → nat_eq b c ≡ true → Sound quote (92 ∷ c ∷ bs) (number_escape_at form bs) → Sound quote (92 ∷ b ∷ bs) (number_escape_at form bs)
    at_letter form c t s = subst (λ x. Sound quote (92 ∷ x ∷ bs) (number_escape_at form bs)) (sym (eqb-true b c t)) s

pub escape_sound : (quote : ℕ) (bs : List ℕ) → Sound quote (92 ∷ bs) (escape_at quote bs)
escape_sound quote [] = tt
escape_sound quote (b ∷ bs) = by_letter (letter_escape quote b) refl
  where
    by_letter : (o : Option ℕ) → letter_escape quote b ≡ o → Sound quote (92 ∷ b ∷ bs) (elim o [ None ↦ other_escape_at b bs | Some c ↦ Some (2, Byte c) ])
    by_letter None e = other_sound quote b bs
    by_letter (Some c) e = record { some = omega arith; within = omega arith; escape = inl (b, c, refl, e, refl) }

pub escape_found : (quote : ℕ) (bs : List ℕ) (n : ℕ) (m : Meaning) → escape_at quote bs ≡ Some (n, m) → Found quote (92 ∷ bs) n m
escape_found quote bs n m e = subst (Sound quote (92 ∷ bs)) e (escape_sound quote bs)

-- where an escape is spelled, it is found
pub record Read (quote : ℕ) (xs rest : List ℕ) (m : Meaning) : Type 0 where
  pub tail : List ℕ
  pub whole : xs ++ rest ≡ 92 ∷ tail
  pub found : escape_at quote tail ≡ Some (length xs, m)

-- the quotes of literals
abbrev pub IsQuote : ℕ → Type 0
IsQuote quote = (letter_escape quote 120 ≡ None) × (letter_escape quote 117 ≡ None) × (letter_escape quote 85 ≡ None) × ((b : ℕ) → is_digit_of 8 b ≡ true → letter_escape quote b ≡ None)

no_letter : (quote : ℕ) → 56 ≤ quote ⊎ (quote < 48) → (b : ℕ) → 48 ≤ b → b < 56 → letter_escape quote b ≡ None
no_letter quote (inl q) b low high = grind (arith, nat_tests)
no_letter quote (inr q) b low high = grind (arith, nat_tests)

octal_range : (b : ℕ) → is_digit_of 8 b ≡ true → (48 ≤ b) × (b < 56)
octal_range b e = (grind (arith, nat_tests), grind (arith, nat_tests))

pub single_quote : IsQuote 39
single_quote = (refl, refl, refl, λ b e. no_letter 39 (inr (omega arith)) b (octal_range b e).0 (octal_range b e).1)

pub double_quote : IsQuote 34
double_quote = (refl, refl, refl, λ b e. no_letter 34 (inr (omega arith)) b (octal_range b e).0 (octal_range b e).1)

-- digits that mean something
number_read : (form : Form) (digits rest : List ℕ) (m : Meaning) → length digits ≡ count form → list_all (is_digit_of (escape_base form)) digits ≡ true → means form (number_from (escape_base form) 0 digits) ≡ Some m →
    number_escape_at form (digits ++ rest) ≡ Some (1 + length (escape_prefix form) + count form, m)
number_read form digits rest m size all meaning =
    ap (λ k. front_meaning form (digits_at (escape_base form) k 0 (digits ++ rest))) (sym size)
    ∙ ap (front_meaning form) (digits_read (escape_base form) 0 digits rest all)
    ∙ ap (sized (1 + length (escape_prefix form) + count form)) meaning

by_letter : (quote b : ℕ) (bs : List ℕ) → letter_escape quote b ≡ None → escape_at quote (b ∷ bs) ≡ other_escape_at b bs
by_letter quote b bs e = ap (λ o. elim o [ None ↦ other_escape_at b bs | Some c ↦ Some (2, Byte c) ]) e

octal_other : (b : ℕ) (bs : List ℕ) → is_digit_of 8 b ≡ true → other_escape_at b bs ≡ number_escape_at Octal (b ∷ bs)
octal_other b bs e =
    let r = octal_range b e in
    let x : nat_eq b 120 ≡ false = grind (arith, nat_tests) in
    let u : nat_eq b 117 ≡ false = grind (arith, nat_tests) in
    let v : nat_eq b 85 ≡ false = grind (arith, nat_tests) in
    ap (λ t. cond t (number_escape_at Two bs) (cond (nat_eq b 117) (number_escape_at Four bs) (cond (nat_eq b 85) (number_escape_at Eight bs) (number_escape_at Octal (b ∷ bs))))) x
    ∙ ap (λ t. cond t (number_escape_at Four bs) (cond (nat_eq b 85) (number_escape_at Eight bs) (number_escape_at Octal (b ∷ bs)))) u
    ∙ ap (λ t. cond t (number_escape_at Eight bs) (number_escape_at Octal (b ∷ bs))) v

-- the size of an escape by number
number_size : (form : Form) (xs digits : List ℕ) → xs ≡ 92 ∷ escape_prefix form ++ digits → length digits ≡ count form → 1 + length (escape_prefix form) + count form ≡ length xs
number_size form xs digits e size = omega (arith, ap (λ (ys : List ℕ). length ys) e, length-append (escape_prefix form) digits)

read_number : (quote : ℕ) → IsQuote quote → (xs rest : List ℕ) (m : Meaning) (form : Form) (digits : List ℕ) → xs ≡ 92 ∷ escape_prefix form ++ digits → length digits ≡ count form →
    list_all (is_digit_of (escape_base form)) digits ≡ true → means form (number_from (escape_base form) 0 digits) ≡ Some m → Read quote xs rest m
read_number quote q xs rest m Octal [] e size all meaning = absurd (omega arith)
read_number quote q xs rest m Octal (d ∷ ds) e size all meaning =
    let first = and_left (is_digit_of 8 d) (list_all (is_digit_of 8) ds) all in
    record {
      tail = d ∷ ds ++ rest;
      whole = ap (λ ys. ys ++ rest) e;
      found = by_letter quote d (ds ++ rest) (q.3 d first) ∙ octal_other d (ds ++ rest) first ∙ number_read Octal (d ∷ ds) rest m size all meaning ∙ ap (λ n. Some (n, m)) (number_size Octal xs (d ∷ ds) e size);
    }
read_number quote q xs rest m Two digits e size all meaning = record {
  tail = 120 ∷ digits ++ rest;
  whole = ap (λ ys. ys ++ rest) e;
  found = by_letter quote 120 (digits ++ rest) q.0 ∙ number_read Two digits rest m size all meaning ∙ ap (λ n. Some (n, m)) (number_size Two xs digits e size);
}
read_number quote q xs rest m Four digits e size all meaning = record {
  tail = 117 ∷ digits ++ rest;
  whole = ap (λ ys. ys ++ rest) e;
  found = by_letter quote 117 (digits ++ rest) q.1 ∙ number_read Four digits rest m size all meaning ∙ ap (λ n. Some (n, m)) (number_size Four xs digits e size);
}
read_number quote q xs rest m Eight digits e size all meaning = record {
  tail = 85 ∷ digits ++ rest;
  whole = ap (λ ys. ys ++ rest) e;
  found = by_letter quote 85 (digits ++ rest) q.2 ∙ number_read Eight digits rest m size all meaning ∙ ap (λ n. Some (n, m)) (number_size Eight xs digits e size);
}

pub escape_read : (quote : ℕ) → IsQuote quote → (xs rest : List ℕ) (m : Meaning) → IsEscape quote xs m → Read quote xs rest m
escape_read quote q xs rest m (inl (b, c, e, found, meaning)) = record {
  tail = b ∷ rest;
  whole = ap (λ ys. ys ++ rest) e;
  found = ap (λ o. elim o [ None ↦ other_escape_at b rest | Some c ↦ Some (2, Byte c) ]) found ∙ ap (λ n. Some (n, Byte c)) (let two : 2 ≡ length xs = omega (arith, ap (λ (ys : List ℕ). length ys) e) in two) ∙ ap (λ x. Some (length xs, x)) (sym meaning);
}
escape_read quote q xs rest m (inr (form, digits, e, size, all, meaning)) = read_number quote q xs rest m form digits e size all meaning
