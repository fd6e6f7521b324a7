-- Rune and string literals at the front of a text.
use Rattle.std.proofs.Common.{◌≡◌, ◌↔◌, ℕ, ◌+◌, ◌-◌, ◌<◌, ◌≤◌, inl, inr, zero, suc, Bool, true, false, cond, nat_eq, List, [], ◌∷◌, ◌++◌, length, get_or, take, drop, Option, Some, None, refl, sym, ap, ◌∙◌, subst, arith, append_assoc, append-nil, length-append, length-drop, eqb-true}
use Rattle.std.specs.List.{list_all, prefix_len, flat_map, AllByRecursion, filter}
use Rattle.std.specs.Char.{encode_utf8}
use Rattle.std.proofs.lemmas.Bool.Decides.{nat_tests}
use Rattle.std.proofs.lemmas.Str.{char_from_byte, length-encode, len_utf8_bounds}
use Rattle.std.proofs.lemmas.List.{drop-drop, take_rest}
use Rattle.std.proofs.Math.Seq.{take-append_seam, drop-append_seam, take-add, take-length}
use Rattle.bstr.specs.Utf8.{decoded, Decoded}
use Rattle.bstr.proofs.lemmas.EncodeLemmas.{decoded-encode}
use Rattle.bstr.proofs.lemmas.SoundLemmas.{SpellsChar-decoded}
use Rattle.go_scan.specs.declared.escapes.Meaning.{Meaning}
use Rattle.go_scan.specs.declared.shape.Shape.TheVariants.{Word}
use Rattle.go_scan.specs.declared.token.TokenKind.{TokenKind}
use Rattle.go_scan.specs.declared.token.TokenKind.TheVariants as kinds
use Rattle.go_scan.specs.Escapes.{escape_bytes}
use Rattle.go_scan.specs.Lex.{Spells}
use Rattle.go_scan.specs.Runes.{is_plain_rune, IsRunePart, RuneMeans, IsRune, RuneValue}
use Rattle.go_scan.specs.Strings.{is_plain_byte, Part, IsPart, is_in_raw, is_kept, StringMeans, IsString, StringValue}
use Rattle.go_scan.specs.Fronts.{strides, escape_at, escaped_rune, plain_rune, rune_part_at, closed_at, rune_at, escaped_part, part_at, front_size, part_size, values, string_at, raw_at, is_whole, is_rune, is_string_front, code_or_zero, rune_meaning, rune_value_of, string_meaning, string_value_of}
use Rattle.go_scan.proofs.EscapeFronts.{escape_found, escape_read, single_quote, double_quote}
use Rattle.go_scan.proofs.Runs.{run_all, run_stop, strides_on, strides_stop, Good, Fits}

-- the byte at an index, and the bytes up to it
take_next : (bs : List ℕ) (n b : ℕ) → get_or bs n 0 ≡ suc b → (take (n + 1) bs ≡ take n bs ++ suc b ∷ []) × (n < length bs)
take_next [] n b e = cc
take_next (x ∷ bs) zero b e = (ap (λ y. y ∷ []) e, omega arith)
take_next (x ∷ bs) (suc n) b e =
    let ih = take_next bs n b e in
    let size : suc n + 1 ≡ suc (n + 1) = omega arith in
    (ap (λ k. take k (x ∷ bs)) size ∙ ap (λ ys. x ∷ ys) ih.0, omega (arith, ih.1))

at_seam : (xs ys : List ℕ) (b : ℕ) → get_or (xs ++ b ∷ ys) (length xs) 0 ≡ b
at_seam [] ys b = refl
at_seam (x ∷ xs) ys b = at_seam xs ys b

-- a literal that is closed where its inner bytes end
pub closed_fits : (kind : TokenKind) (quote : ℕ) (inner rest : List ℕ) (n : ℕ) → n ≡ length inner → Fits (Word kind) (length inner + 2) (closed_at kind quote (inner ++ quote ∷ rest) n)
closed_fits kind quote inner rest n e =
    let closes : nat_eq (get_or (inner ++ quote ∷ rest) n 0) quote ≡ true = ap (λ k. nat_eq (get_or (inner ++ quote ∷ rest) k 0) quote) e ∙ ap (λ x. nat_eq x quote) (at_seam inner rest quote) ∙ nat_eq_self quote in
    subst (λ c. Fits (Word kind) (length inner + 2) (cond c (Some (Word kind, n + 2)) None)) (sym closes) (omega (arith, e), λ _. refl)
  where
    nat_eq_self : (q : ℕ) → nat_eq q q ≡ true
    nat_eq_self q = grind (arith, nat_tests)

-- and one that is found is closed
pub closed_good : (kind : TokenKind) (quote : ℕ) (rest : List ℕ) (n : ℕ) →
    (take (n + 2) (suc quote ∷ rest) ≡ suc quote ∷ take n rest ++ suc quote ∷ [] → Spells (Word kind) (take (n + 2) (suc quote ∷ rest))) →
    Good (suc quote ∷ rest) (closed_at kind (suc quote) rest n)
closed_good kind quote rest n spells = by_test (nat_eq (get_or rest n 0) (suc quote)) refl
  where
    by_test : (c : Bool) → nat_eq (get_or rest n 0) (suc quote) ≡ c → Good (suc quote ∷ rest) (cond c (Some (Word kind, n + 2)) None)
    by_test false e = tt
    by_test true e =
        let next = take_next rest n quote (eqb-true (get_or rest n 0) (suc quote) e) in
        let size : n + 2 ≡ suc (n + 1) = omega arith in
        (spells (ap (λ k. take k (suc quote ∷ rest)) size ∙ ap (λ ys. suc quote ∷ ys) next.0), omega arith, omega (arith, next.1))

-- a rune between its quotes
abbrev RuneFound : List ℕ → Option (ℕ × ℕ) → Type 0
RuneFound text None = Unit {0}
RuneFound text (Some p) = IsRunePart (take p.0 text) p.1

rune_escaped : (bs : List ℕ) → RuneFound (92 ∷ bs) (escaped_rune (escape_at 39 bs))
rune_escaped bs = by_found (escape_at 39 bs) refl
  where
    by_found : (o : Option (ℕ × Meaning)) → escape_at 39 bs ≡ o → RuneFound (92 ∷ bs) (escaped_rune o)
    by_found None e = tt
    by_found (Some (n, m)) e = inr (m, (escape_found 39 bs n m e).escape, refl)

rune_plain : (text : List ℕ) → RuneFound text (plain_rune (decoded text).size (decoded text).char)
rune_plain text = by_char (decoded text).char refl
  where
    by_char : (o : Option ℕ) → (decoded text).char ≡ o → RuneFound text (plain_rune (decoded text).size o)
    by_char None e = tt
    by_char (Some c) e = by_test (is_plain_rune c) refl
      where
        by_test : (t : Bool) → is_plain_rune c ≡ t → RuneFound text (cond t (Some ((decoded text).size, c)) None)
        by_test false q = tt
        by_test true q =
            let s = SpellsChar-decoded text c e in
            inl (ap (λ ys. take (decoded text).size ys) s.bytes ∙ ap (λ k. take k (encode_utf8 c ++ drop (decoded text).size text)) (sym s.width) ∙ take-append_seam (encode_utf8 c) (drop (decoded text).size text), s.scalar, q)

rune_found : (text : List ℕ) → RuneFound text (rune_part_at text)
rune_found [] = tt
rune_found (b ∷ bs) = by_test (nat_eq b 92) refl
  where
    by_test : (t : Bool) → nat_eq b 92 ≡ t → RuneFound (b ∷ bs) (cond t (escaped_rune (escape_at 39 bs)) (plain_rune (decoded (b ∷ bs)).size (decoded (b ∷ bs)).char))
    by_test true e = subst (λ x. RuneFound (x ∷ bs) (escaped_rune (escape_at 39 bs))) (sym (eqb-true b 92 e)) (rune_escaped bs)
    by_test false e = rune_plain (b ∷ bs)

pub rune_good : (rest : List ℕ) → Good (39 ∷ rest) (rune_at rest)
rune_good rest = by_part (rune_part_at rest) refl
  where
    by_part : (o : Option (ℕ × ℕ)) → rune_part_at rest ≡ o → Good (39 ∷ rest) (elim o [ None ↦ None | Some part ↦ closed_at kinds.Rune 39 rest part.0 ])
    by_part None e = tt
    by_part (Some (n, code)) e = closed_good kinds.Rune 38 rest n (λ whole. (code, (take n rest, whole, subst (RuneFound rest) e (rune_found rest))))

-- where a part of a rune literal is spelled, it is found
rune_read : (part rest : List ℕ) (code : ℕ) → IsRunePart part code → rune_part_at (part ++ rest) ≡ Some (length part, code)
rune_read part rest code (inl (e, scalar, plain)) = ap (λ ys. rune_part_at (ys ++ rest)) e ∙ plain_read (encode_utf8 code ++ rest) refl (omega (arith, length-append (encode_utf8 code) rest, length-encode code, (len_utf8_bounds code).0)) ∙ ap (λ (ys : List ℕ). Some (length ys, code)) (sym e)
  where
    plain_read : (text : List ℕ) → text ≡ encode_utf8 code ++ rest → 1 ≤ length text → rune_part_at text ≡ Some (length (encode_utf8 code), code)
    plain_read [] e some = absurd (omega arith)
    plain_read (b ∷ bs) e some =
        let other : nat_eq b 92 ≡ false = by_test (nat_eq b 92) refl in
        let found : decoded (b ∷ bs) ≡ record { char = Some code; size = length (encode_utf8 code) } = ap decoded e ∙ decoded-encode code rest scalar in
        ap (λ t. cond t (escaped_rune (escape_at 39 bs)) (plain_rune (decoded (b ∷ bs)).size (decoded (b ∷ bs)).char)) other
        ∙ ap (λ (d : Decoded). plain_rune d.size d.char) found
        ∙ ap (λ t. cond t (Some (length (encode_utf8 code), code)) None) plain
      where
        by_test : (t : Bool) → nat_eq b 92 ≡ t → t ≡ false
        by_test false q = refl
        by_test true q =
            let same : code ≡ b = char_from_byte (b ∷ bs) rest code e (let low : b < 128 = omega (arith, eqb-true b 92 q) in low) (omega arith) in
            let no : false ≡ true = sym (ap is_plain_rune (same ∙ eqb-true b 92 q)) ∙ plain in cc
rune_read part rest code (inr (m, escape, meaning)) =
    let r = escape_read 39 single_quote part rest m escape in
    ap rune_part_at r.whole ∙ ap escaped_rune r.found ∙ ap (λ c. Some (length part, c)) (sym meaning)

pub rune_fits : (part rest : List ℕ) (code : ℕ) → IsRunePart part code → Fits (Word kinds.Rune) (length part + 2) (rune_at (part ++ 39 ∷ rest))
rune_fits part rest code h =
    subst (λ o. Fits (Word kinds.Rune) (length part + 2) (elim o [ None ↦ None | Some p ↦ closed_at kinds.Rune 39 (part ++ 39 ∷ rest) p.0 ])) (sym (rune_read part (39 ∷ rest) code h))
    (closed_fits kinds.Rune 39 part rest (length part) refl)

-- raw strings
pub raw_good : (rest : List ℕ) → Good (96 ∷ rest) (raw_at rest)
raw_good rest =
    closed_good kinds.String 95 rest (prefix_len is_in_raw rest)
    (λ whole. (filter is_kept (take (prefix_len is_in_raw rest) rest), inr (take (prefix_len is_in_raw rest) rest, whole, (run_all is_in_raw rest).0, refl)))

pub raw_fits : (inner rest : List ℕ) → list_all is_in_raw inner ≡ true → Fits (Word kinds.String) (length inner + 2) (raw_at (inner ++ 96 ∷ rest))
raw_fits inner rest all = closed_fits kinds.String 96 inner rest _ (run_stop is_in_raw inner 96 rest all refl)

-- a part of an interpreted string
pub record PartFound (text : List ℕ) (n : ℕ) (value : List ℕ) : Type 0 where
  pub some : 1 ≤ n
  pub within : n ≤ length text
  pub part : IsPart (record { bytes = take n text; value = value })

abbrev PartSound : List ℕ → Option (ℕ × List ℕ) → Type 0
PartSound text None = Unit {0}
PartSound text (Some p) = PartFound text p.0 p.1

part_sound : (text : List ℕ) → PartSound text (part_at text)
part_sound [] = tt
part_sound (b ∷ bs) = by_test (nat_eq b 92) refl
  where
    by_found : (o : Option (ℕ × Meaning)) → escape_at 34 bs ≡ o → PartSound (92 ∷ bs) (escaped_part o)
    by_found None e = tt
    by_found (Some (n, m)) e = let f = escape_found 34 bs n m e in record { some = omega (arith, f.some); within = f.within; part = inr (m, f.escape, refl) }

    by_plain : (t : Bool) → is_plain_byte b ≡ t → PartSound (b ∷ bs) (cond t (Some (1, b ∷ [])) None)
    by_plain false e = tt
    by_plain true e = record { some = omega arith; within = omega arith; part = inl (b, refl, e, refl) }

    by_test : (t : Bool) → nat_eq b 92 ≡ t → PartSound (b ∷ bs) (cond t (escaped_part (escape_at 34 bs)) (cond (is_plain_byte b) (Some (1, b ∷ [])) None))
    by_test true e = subst (λ x. PartSound (x ∷ bs) (escaped_part (escape_at 34 bs))) (sym (eqb-true b 92 e)) (by_found (escape_at 34 bs) refl)
    by_test false e = by_plain (is_plain_byte b) refl

pub part_found : (text : List ℕ) (p : ℕ × List ℕ) → part_at text ≡ Some p → PartFound text p.0 p.1
part_found text p e = subst (PartSound text) e (part_sound text)

pub part_size_le : (text : List ℕ) → part_size text ≤ length text
part_size_le text = by_found (part_at text) refl
  where
    by_found : (o : Option (ℕ × List ℕ)) → part_at text ≡ o → front_size o ≤ length text
    by_found None e = omega arith
    by_found (Some p) e = (part_found text p e).within

pub part_read : (p : Part) (rest : List ℕ) → IsPart p → (part_at (p.bytes ++ rest) ≡ Some (length p.bytes, p.value)) × (1 ≤ length p.bytes)
part_read p rest (inl (b, e, plain, value)) = (
  ap (λ ys. part_at (ys ++ rest)) e ∙ ap (λ t. cond t (escaped_part (escape_at 34 rest)) (cond (is_plain_byte b) (Some (1, b ∷ [])) None)) other ∙ ap (λ t. cond t (Some (1, b ∷ [])) None) plain
      ∙ ap (λ n. Some (n, b ∷ [])) (let one : 1 ≡ length p.bytes = omega (arith, ap (λ (ys : List ℕ). length ys) e) in one) ∙ ap (λ v. Some (length p.bytes, v)) (sym value),
  omega (arith, ap (λ (ys : List ℕ). length ys) e),
)
  where
    other : nat_eq b 92 ≡ false
    other = grind (arith, nat_tests)
part_read p rest (inr (m, escape, value)) =
    let r = escape_read 34 double_quote p.bytes rest m escape in
    let found = ap part_at r.whole ∙ ap escaped_part r.found ∙ ap (λ v. Some (length p.bytes, v)) (sym value) in
    (found, (part_found (p.bytes ++ rest) (length p.bytes, p.value) found).some)

-- what the parts mean, part by part
pub values_skip : (k : ℕ) (xs : List ℕ) → k ≤ length xs → values k xs ≡ values 0 (drop k xs)
values_skip zero xs le = refl
values_skip (suc k) [] le = absurd (omega arith)
values_skip (suc k) (b ∷ bs) le = values_skip k bs (omega arith)

pub values_on : (text : List ℕ) (p : ℕ × List ℕ) → part_at text ≡ Some p → values 0 text ≡ p.1 ++ values 0 (drop p.0 text)
values_on [] p e = cc
values_on (b ∷ bs) p e = by_size p.0 refl
  where
    f : PartFound (b ∷ bs) p.0 p.1
    f = part_found (b ∷ bs) p e

    by_size : (n : ℕ) → p.0 ≡ n → values 0 (b ∷ bs) ≡ p.1 ++ values 0 (drop p.0 (b ∷ bs))
    by_size zero size = absurd (omega (arith, f.some))
    by_size (suc n) size =
        ap (λ o. elim o [ None ↦ [] | Some q ↦ q.1 ++ values (q.0 - 1) bs ]) e
        ∙ ap (λ k. p.1 ++ values k bs) (let less : p.0 - 1 ≡ n = omega arith in less)
        ∙ ap (λ ys. p.1 ++ ys) (values_skip n bs (omega (arith, f.within)))
        ∙ ap (λ k. p.1 ++ values 0 (drop k (b ∷ bs))) (sym size)

-- a row of parts up to a quote
pub record PartsRead (parts : List Part) (rest : List ℕ) : Type 0 where
  pub size : strides part_size 0 (flat_map (λ (p : Part). p.bytes) parts ++ 34 ∷ rest) ≡ length (flat_map (λ (p : Part). p.bytes) parts)
  pub value : values 0 (flat_map (λ (p : Part). p.bytes) parts ++ 34 ∷ rest) ≡ flat_map (λ (p : Part). p.value) parts

pub parts_read : (parts : List Part) (rest : List ℕ) → AllByRecursion IsPart parts → PartsRead parts rest
parts_read [] rest all = record { size = refl; value = refl }
parts_read (p ∷ ps) rest all = by_size (length p.bytes) refl (parts_read ps rest all.1)
  where
    whole : flat_map (λ (q : Part). q.bytes) (p ∷ ps) ++ 34 ∷ rest ≡ p.bytes ++ (flat_map (λ (q : Part). q.bytes) ps ++ 34 ∷ rest)
    whole = append_assoc p.bytes (flat_map (λ (q : Part). q.bytes) ps) (34 ∷ rest)

    by_size : (n : ℕ) → length p.bytes ≡ n → PartsRead ps rest → PartsRead (p ∷ ps) rest
    by_size zero e ih = absurd (omega (arith, (part_read p [] all.0).1))
    by_size (suc n) e ih =
        let more : List ℕ = flat_map (λ (q : Part). q.bytes) ps ++ 34 ∷ rest in
        let read = (part_read p more all.0).0 in
        let behind : drop (length p.bytes) (p.bytes ++ more) ≡ more = drop-append_seam p.bytes more in
        let on = strides_on part_size n (p.bytes ++ more) (ap front_size read ∙ e) (omega (arith, e, length-append p.bytes more)) in
        let same : strides part_size 0 (drop (suc n) (p.bytes ++ more)) ≡ strides part_size 0 more = ap (λ k. strides part_size 0 (drop k (p.bytes ++ more))) (sym e) ∙ ap (strides part_size 0) behind in
        record {
          size = ap (strides part_size 0) whole ∙ omega (arith, on, same, ih.size, e, length-append p.bytes (flat_map (λ (q : Part). q.bytes) ps));
          value = ap (values 0) whole ∙ values_on (p.bytes ++ more) (length p.bytes, p.value) read ∙ ap (λ ys. p.value ++ values 0 ys) behind ∙ ap (λ ys. p.value ++ ys) ih.value;
        }

pub string_fits : (parts : List Part) (rest : List ℕ) → AllByRecursion IsPart parts → Fits (Word kinds.String) (length (flat_map (λ (p : Part). p.bytes) parts) + 2) (string_at (flat_map (λ (p : Part). p.bytes) parts ++ 34 ∷ rest))
string_fits parts rest all = closed_fits kinds.String 34 (flat_map (λ (p : Part). p.bytes) parts) rest _ (parts_read parts rest all).size

-- the parts that stand at the front
abbrev PartsTaken : List ℕ → Type 0
PartsTaken text = (parts : List Part) × AllByRecursion IsPart parts × (take (strides part_size 0 text) text ≡ flat_map (λ (p : Part). p.bytes) parts)

parts_taken : (m : ℕ) (text : List ℕ) → length text ≤ m → PartsTaken text
parts_taken m [] le = ([], tt, refl)
parts_taken zero (b ∷ bs) le = absurd (omega arith)
parts_taken (suc m) (b ∷ bs) le = by_found (part_at (b ∷ bs)) refl (λ ys short. parts_taken m ys short)
  where
    by_size : (p : ℕ × List ℕ) (n : ℕ) → p.0 ≡ n → part_at (b ∷ bs) ≡ Some p → ((ys : List ℕ) → length ys ≤ m → PartsTaken ys) → PartsTaken (b ∷ bs)
    by_size p zero size e rec = absurd (omega (arith, (part_found (b ∷ bs) p e).some))
    by_size p (suc n) size e rec =
        let f = part_found (b ∷ bs) p e in
        let on = strides_on part_size n (b ∷ bs) (ap front_size e ∙ size) (omega (arith, f.within)) in
        let w = rec (drop (suc n) (b ∷ bs)) (omega (arith, length-drop (suc n) (b ∷ bs))) in
        let part : Part = record { bytes = take p.0 (b ∷ bs); value = p.1 } in (
          part ∷ w.0,
          (f.part, w.1),
          ap (λ k. take k (b ∷ bs)) on
              ∙ take-add (suc n) (strides part_size 0 (drop (suc n) (b ∷ bs))) (b ∷ bs)
              ∙ ap (λ ys. take (suc n) (b ∷ bs) ++ ys) w.2
              ∙ ap (λ k. take k (b ∷ bs) ++ flat_map (λ (q : Part). q.bytes) w.0) (sym size),
        )

    by_found : (o : Option (ℕ × List ℕ)) → part_at (b ∷ bs) ≡ o → ((ys : List ℕ) → length ys ≤ m → PartsTaken ys) → PartsTaken (b ∷ bs)
    by_found None e rec = ([], tt, ap (λ k. take k (b ∷ bs)) (strides_stop part_size (b ∷ bs) (ap front_size e)))
    by_found (Some p) e rec = by_size p p.0 refl e rec

pub string_good : (rest : List ℕ) → Good (34 ∷ rest) (string_at rest)
string_good rest =
    let w = parts_taken (length rest) rest (omega arith) in
    closed_good kinds.String 33 rest (strides part_size 0 rest)
    (λ whole. (flat_map (λ (p : Part). p.value) w.0, inl (w.0, w.1, whole ∙ ap (λ ys. 34 ∷ ys ++ 34 ∷ []) w.2, refl)))

-- the value of a rune literal is what is read
rune_is : (bytes : List ℕ) (code : ℕ) → RuneMeans bytes code → rune_meaning bytes ≡ code
rune_is bytes code (part, e, h) = ap (λ (ys : List ℕ). rune_meaning ys) e ∙ ap code_or_zero (rune_read part (39 ∷ []) code h)

-- and so is that of a string literal
string_is : (bytes value : List ℕ) → StringMeans bytes value → string_meaning bytes ≡ value
string_is bytes value (inl (parts, all, e, v)) = ap string_meaning e ∙ (parts_read parts [] all).value ∙ sym v
string_is bytes value (inr (inner, e, all, v)) =
    ap string_meaning e
    ∙ ap (λ k. filter is_kept (take k (inner ++ 96 ∷ []))) (run_stop is_in_raw inner 96 [] all refl)
    ∙ ap (filter is_kept) (take-append_seam inner (96 ∷ []))
    ∙ sym v

pub one_rune : (bytes : List ℕ) (a b : ℕ) → RuneMeans bytes a → RuneMeans bytes b → a ≡ b
one_rune bytes a b p q = sym (rune_is bytes a p) ∙ rune_is bytes b q

pub one_string : (bytes a b : List ℕ) → StringMeans bytes a → StringMeans bytes b → a ≡ b
one_string bytes a b p q = sym (string_is bytes a p) ∙ string_is bytes b q

-- a literal is found whole, and what is found whole is one
whole_closed : (kind : TokenKind) (quote : ℕ) (inner : List ℕ) (n : ℕ) → n ≡ length inner → is_whole (length (inner ++ quote ∷ []) + 1) (closed_at kind quote (inner ++ quote ∷ []) n) ≡ true
whole_closed kind quote inner n e =
    let closes : nat_eq (get_or (inner ++ quote ∷ []) n 0) quote ≡ true = ap (λ k. nat_eq (get_or (inner ++ quote ∷ []) k 0) quote) e ∙ ap (λ x. nat_eq x quote) (at_seam inner [] quote) ∙ eqb-same quote in
    let size : n + 2 ≡ length (inner ++ quote ∷ []) + 1 = omega (arith, e, length-append inner (quote ∷ [])) in
    ap (λ c. is_whole (length (inner ++ quote ∷ []) + 1) (cond c (Some (Word kind, n + 2)) None)) closes ∙ ap (λ k. nat_eq k (length (inner ++ quote ∷ []) + 1)) size ∙ eqb-same (length (inner ++ quote ∷ []) + 1)
  where
    eqb-same : (q : ℕ) → nat_eq q q ≡ true
    eqb-same q = grind (arith, nat_tests)

whole_spells : (kind : TokenKind) (quote : ℕ) (rest : List ℕ) (n : ℕ) → Good (quote ∷ rest) (closed_at kind quote rest n) → is_whole (length rest + 1) (closed_at kind quote rest n) ≡ true → Spells (Word kind) (quote ∷ rest)
whole_spells kind quote rest n = by_test (nat_eq (get_or rest n 0) quote)
  where
    by_test : (c : Bool) → Good (quote ∷ rest) (cond c (Some (Word kind, n + 2)) None) → is_whole (length rest + 1) (cond c (Some (Word kind, n + 2)) None) ≡ true → Spells (Word kind) (quote ∷ rest)
    by_test false g e = cc
    by_test true g e =
        let size : n + 2 ≡ length (quote ∷ rest) = omega (arith, eqb-true (n + 2) (length rest + 1) e) in
        subst (Spells (Word kind)) (ap (λ k. take k (quote ∷ rest)) size ∙ take-length (quote ∷ rest)) g.0

rune_tested : (bytes : List ℕ) → IsRune bytes → is_rune bytes ≡ true
rune_tested bytes (code, (part, e, h)) =
    ap is_rune e
    ∙ ap (λ o. is_whole (length (part ++ 39 ∷ []) + 1) (elim o [ None ↦ None | Some p ↦ closed_at kinds.Rune 39 (part ++ 39 ∷ []) p.0 ])) (rune_read part (39 ∷ []) code h)
    ∙ whole_closed kinds.Rune 39 part (length part) refl

rune_untested : (bytes : List ℕ) → is_rune bytes ≡ true → IsRune bytes
rune_untested [] e = cc
rune_untested (b ∷ bs) e = by_test (nat_eq b 39) refl e
  where
    by_part : (o : Option (ℕ × ℕ)) → Good (39 ∷ bs) (elim o [ None ↦ None | Some p ↦ closed_at kinds.Rune 39 bs p.0 ]) → is_whole (length bs + 1) (elim o [ None ↦ None | Some p ↦ closed_at kinds.Rune 39 bs p.0 ]) ≡ true → IsRune (39 ∷ bs)
    by_part None g w = cc
    by_part (Some p) g w = whole_spells kinds.Rune 39 bs p.0 g w

    by_test : (c : Bool) → nat_eq b 39 ≡ c → is_whole (length bs + 1) (cond c (rune_at bs) None) ≡ true → IsRune (b ∷ bs)
    by_test false t w = cc
    by_test true t w = subst (λ x. IsRune (x ∷ bs)) (sym (eqb-true b 39 t)) (by_part (rune_part_at bs) (rune_good bs) w)

string_tested : (bytes : List ℕ) → IsString bytes → is_string_front bytes ≡ true
string_tested bytes (value, inl (parts, all, e, v)) =
    ap is_string_front e ∙ whole_closed kinds.String 34 (flat_map (λ (p : Part). p.bytes) parts) _ (parts_read parts [] all).size
string_tested bytes (value, inr (inner, e, all, v)) =
    ap is_string_front e ∙ whole_closed kinds.String 96 inner _ (run_stop is_in_raw inner 96 [] all refl)

string_untested : (bytes : List ℕ) → is_string_front bytes ≡ true → IsString bytes
string_untested [] e = cc
string_untested (b ∷ bs) e = by_quote (nat_eq b 34) refl e
  where
    by_raw : (c : Bool) → nat_eq b 96 ≡ c → is_whole (length bs + 1) (cond c (raw_at bs) None) ≡ true → IsString (b ∷ bs)
    by_raw false t w = cc
    by_raw true t w = subst (λ x. IsString (x ∷ bs)) (sym (eqb-true b 96 t)) (whole_spells kinds.String 96 bs (prefix_len is_in_raw bs) (raw_good bs) w)

    by_quote : (c : Bool) → nat_eq b 34 ≡ c → is_whole (length bs + 1) (cond c (string_at bs) (cond (nat_eq b 96) (raw_at bs) None)) ≡ true → IsString (b ∷ bs)
    by_quote true t w = subst (λ x. IsString (x ∷ bs)) (sym (eqb-true b 34 t)) (whole_spells kinds.String 34 bs (strides part_size 0 bs) (string_good bs) w)
    by_quote false t w = by_raw (nat_eq b 96) refl w

-- each text has one value, and it is what is computed
rune_has : (bytes : List ℕ) → RuneValue bytes (rune_value_of bytes)
rune_has bytes = by_test (is_rune bytes) refl
  where
    by_test : (c : Bool) → is_rune bytes ≡ c → RuneValue bytes (cond c (rune_meaning bytes) 0)
    by_test false e = inr ((λ r. let both : false ≡ true = sym e ∙ rune_tested bytes r in cc (both)), refl)
    by_test true e = let r = rune_untested bytes e in inl (subst (RuneMeans bytes) (sym (rune_is bytes r.0 r.1)) r.1)

string_has : (bytes : List ℕ) → StringValue bytes (string_value_of bytes)
string_has bytes = by_test (is_string_front bytes) refl
  where
    by_test : (c : Bool) → is_string_front bytes ≡ c → StringValue bytes (cond c (string_meaning bytes) [])
    by_test false e = inr ((λ r. let both : false ≡ true = sym e ∙ string_tested bytes r in cc (both)), refl)
    by_test true e = let r = string_untested bytes e in inl (subst (StringMeans bytes) (sym (string_is bytes r.0 r.1)) r.1)

one_rune_value : (bytes : List ℕ) (a b : ℕ) → RuneValue bytes a → RuneValue bytes b → a ≡ b
one_rune_value bytes a b (inl p) (inl q) = one_rune bytes a b p q
one_rune_value bytes a b (inl p) (inr q) = absurd (q.0 (a, p))
one_rune_value bytes a b (inr p) (inl q) = absurd (p.0 (b, q))
one_rune_value bytes a b (inr p) (inr q) = p.1 ∙ sym q.1

one_string_value : (bytes a b : List ℕ) → StringValue bytes a → StringValue bytes b → a ≡ b
one_string_value bytes a b (inl p) (inl q) = one_string bytes a b p q
one_string_value bytes a b (inl p) (inr q) = absurd (q.0 (a, p))
one_string_value bytes a b (inr p) (inl q) = absurd (p.0 (b, q))
one_string_value bytes a b (inr p) (inr q) = p.1 ∙ sym q.1

pub rune_valued : (bytes : List ℕ) (code : ℕ) → RuneValue bytes code ↔ (code ≡ rune_value_of bytes)
rune_valued bytes code = ((λ v. one_rune_value bytes code (rune_value_of bytes) v (rune_has bytes)), (λ e. subst (RuneValue bytes) (sym e) (rune_has bytes)))

pub string_valued : (bytes value : List ℕ) → StringValue bytes value ↔ (value ≡ string_value_of bytes)
string_valued bytes value = ((λ v. one_string_value bytes value (string_value_of bytes) v (string_has bytes)), (λ e. subst (StringValue bytes) (sym e) (string_has bytes)))

-- a step of a loop over the parts of a string
pub values_step : (bytes : List ℕ) (at size : ℕ) (m : Meaning) (old new : List ℕ) → Some (size, escape_bytes m) ≡ part_at (take (length bytes - at) (drop at bytes)) → at ≤ length bytes →
    new ≡ old ++ escape_bytes m → old ++ values 0 (drop at bytes) ≡ values 0 bytes → (new ++ values 0 (drop (at + size) bytes) ≡ values 0 bytes) × (at + size ≤ length bytes) × (1 ≤ size)
values_step bytes at size m old new found within added before =
    let here : part_at (drop at bytes) ≡ Some (size, escape_bytes m) = ap part_at (sym (take_rest bytes at)) ∙ sym found in
    let f = part_found (drop at bytes) (size, escape_bytes m) here in
    let on : values 0 (drop at bytes) ≡ escape_bytes m ++ values 0 (drop size (drop at bytes)) = values_on (drop at bytes) (size, escape_bytes m) here in
    let behind : drop size (drop at bytes) ≡ drop (at + size) bytes = drop-drop size at bytes in (
      ap (λ ys. ys ++ values 0 (drop (at + size) bytes)) added
          ∙ append_assoc old (escape_bytes m) (values 0 (drop (at + size) bytes))
          ∙ ap (λ ys. old ++ (escape_bytes m ++ values 0 ys)) (sym behind)
          ∙ ap (λ ys. old ++ ys) (sym on)
          ∙ before,
      omega (arith, f.within, length-drop at bytes),
      f.some,
    )

pub values_end : (bytes : List ℕ) (at : ℕ) (old : List ℕ) → None ≡ part_at (take (length bytes - at) (drop at bytes)) → old ++ values 0 (drop at bytes) ≡ values 0 bytes → old ≡ values 0 bytes
values_end bytes at old none before =
    sym (append-nil old) ∙ ap (λ ys. old ++ ys) (sym (no_values (drop at bytes) (ap part_at (sym (take_rest bytes at)) ∙ sym none))) ∙ before
  where
    no_values : (xs : List ℕ) → part_at xs ≡ None → values 0 xs ≡ []
    no_values [] e = refl
    no_values (b ∷ bs) e = ap (λ o. elim o [ None ↦ [] | Some q ↦ q.1 ++ values (q.0 - 1) bs ]) e
