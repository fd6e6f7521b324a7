-- What a string literal means is a text, where the literal's own bytes are one: it has no more bytes.
use Rattle.std.proofs.Common.{◌≡◌, ℕ, ◌+◌, ◌/◌, ◌%◌, ◌<◌, ◌≤◌, Bool, true, false, ◌&&◌, List, [], ◌∷◌, ◌++◌, length, Option, Some, None, refl, ap, sym, ◌∙◌, subst, arith, inl, inr, length-append, mod-lt}
use Rattle.std.specs.Prelude.{nat_lt, nat_le, nat_eq, pos, if◌then◌else◌}
use Rattle.std.specs.List.{list_all, filter, flat_map, AllByRecursion}
use Rattle.std.specs.Char.{encode_utf8}
use Rattle.std.proofs.lemmas.Bool.{cases_Bool, and_parts, and_from, or_cases, lt-ltb, ltb-true, leb-true}
use Rattle.std.proofs.lemmas.List.Folds.{list_all-append}
use Rattle.std.proofs.lemmas.Str.{length-encode, len_utf8_bounds}
use Rattle.go_const.specs.declared.kind.IntKind.TheVariants as integers
use Rattle.go_const.specs.Constants.{fits}
use Rattle.go_scan.specs.declared.escapes.Form.{Form}
use Rattle.go_scan.specs.declared.escapes.Form.TheVariants.{Octal, Two, Four, Eight}
use Rattle.go_scan.specs.declared.escapes.Meaning.{Meaning}
use Rattle.go_scan.specs.declared.escapes.Meaning.TheVariants.{Byte, Character}
use Rattle.go_scan.specs.Escapes.{letter_escape, escape_prefix, count, escape_base, number_from, is_code, means, IsEscape, escape_bytes}
use Rattle.go_scan.specs.Strings.{Part, IsPart, is_kept, StringMeans, StringValue}
use Rattle.go_meaning_laws.specs.WellTyped.{is_text}

abbrev is_byte : ℕ → Bool
is_byte b = nat_lt b 256

abbrev IsBytes : List ℕ → Type 0
IsBytes bs = list_all is_byte bs ≡ true

-- bytes, no more than others
abbrev Within : List ℕ → ℕ → Type 0
Within value n = IsBytes value × (length value ≤ n)

more_bytes : (x : ℕ) (xs : List ℕ) → x < 256 → IsBytes xs → IsBytes (x ∷ xs)
more_bytes x xs h k = and_from (is_byte x) (list_all is_byte xs) (lt-ltb x 256 h) k

both_bytes : (xs ys : List ℕ) → IsBytes xs → IsBytes ys → IsBytes (xs ++ ys)
both_bytes xs ys h k = list_all-append is_byte xs ys ∙ and_from (list_all is_byte xs) (list_all is_byte ys) h k

parted_bytes : (xs ys : List ℕ) → IsBytes (xs ++ ys) → (list_all is_byte xs ≡ true) × (list_all is_byte ys ≡ true)
parted_bytes xs ys h = and_parts (list_all is_byte xs) (list_all is_byte ys) (sym (list_all-append is_byte xs ys) ∙ h)

-- ---- characters

tail : (bits : ℕ) → 128 + bits % 64 < 256
tail bits = (let h : bits % 64 < 64 = mod-lt bits (omega arith) in omega (arith, h))

-- the last bytes
last_one : (c : ℕ) → IsBytes ((128 + c % 64) ∷ [])
last_one c = more_bytes (128 + c % 64) [] (tail c) refl

last_two : (c : ℕ) → IsBytes ((128 + (c / 64) % 64) ∷ (128 + c % 64) ∷ [])
last_two c = more_bytes (128 + (c / 64) % 64) ((128 + c % 64) ∷ []) (tail (c / 64)) (last_one c)

last_three : (c : ℕ) → IsBytes ((128 + (c / 4096) % 64) ∷ (128 + (c / 64) % 64) ∷ (128 + c % 64) ∷ [])
last_three c = more_bytes (128 + (c / 4096) % 64) ((128 + (c / 64) % 64) ∷ (128 + c % 64) ∷ []) (tail (c / 4096)) (last_two c)

encoded : (c : ℕ) → c < 1114112 → IsBytes (encode_utf8 c)
unfolding encode_utf8
encoded c small = elim (cases_Bool (nat_lt c 128)) [
  | inl one ↦ (let h = ltb-true c 128 one in rw one (more_bytes c [] (omega (arith, h)) refl))
  | inr past ↦ elim (cases_Bool (nat_lt c 2048)) [
    | inl two ↦ (let h = ltb-true c 2048 two in rw (past, two) (more_bytes (192 + c / 64) ((128 + c % 64) ∷ []) (omega (arith, h)) (last_one c)))
    | inr over ↦ elim (cases_Bool (nat_lt c 65536)) [
      | inl three ↦ (
          let h = ltb-true c 65536 three in
          rw (past, over, three) (more_bytes (224 + c / 4096) ((128 + (c / 64) % 64) ∷ (128 + c % 64) ∷ []) (omega (arith, h)) (last_two c)))
      | inr four ↦
          rw (past, over, four) (more_bytes (240 + c / 262144) ((128 + (c / 4096) % 64) ∷ (128 + (c / 64) % 64) ∷ (128 + c % 64) ∷ []) (omega (arith, small)) (last_three c))
    ]
  ]
]

character : (c : ℕ) → c < 1114112 → Within (encode_utf8 c) 4
character c small = (let long = length-encode c in let most = (len_utf8_bounds c).1 in (encoded c small, omega (arith, long, most)))

code_small : (n : ℕ) → is_code n ≡ true → n < 1114112
code_small n h = elim (or_cases (nat_lt n 55296) (nat_le 57344 n && nat_le n 1114111) h) [
  | inl low ↦ (let small = ltb-true n 55296 low in omega (arith, small))
  | inr high ↦ (let small = leb-true n 1114111 (and_parts (nat_le 57344 n) (nat_le n 1114111) high).1 in omega (arith, small))
]

-- ---- escapes

one_of : (test : Bool) (v c : ℕ) (rest : Option ℕ) → v < 256 → (rest ≡ Some c → c < 256) → (if test then Some v else rest) ≡ Some c → c < 256
one_of true v c rest h next at = (let same : v ≡ c = cc in omega (arith, h, same))
one_of false v c rest h next at = next at

no_escape : (c : ℕ) → None ≡ Some c → c < 256
no_escape c at = absurd cc

letter : (b c : ℕ) → letter_escape 34 b ≡ Some c → c < 256
letter b c at =
    one_of (nat_eq b 97) 7 c _ (omega arith) (one_of (nat_eq b 98) 8 c _ (omega arith) (one_of (nat_eq b 102) 12 c _ (omega arith) (one_of (nat_eq b 110) 10 c _ (omega arith)
    (one_of (nat_eq b 114) 13 c _ (omega arith) (one_of (nat_eq b 116) 9 c _ (omega arith) (one_of (nat_eq b 118) 11 c _ (omega arith) (one_of (nat_eq b 92) 92 c _ (omega arith)
    (one_of (nat_eq b 34) 34 c None (omega arith) (no_escape c))))))))) at

byte_of : (n : ℕ) (m : Meaning) (b : Bool) → nat_lt n 256 ≡ b → (if b then Some (Byte n) else None) ≡ Some m → Within (escape_bytes m) 4
byte_of n m true small at = (let same : Byte n ≡ m = cc in subst (λ r. Within (escape_bytes r) 4) same (more_bytes n [] (ltb-true n 256 small) refl, omega arith))
byte_of n m false small at = absurd cc

character_of : (n : ℕ) (m : Meaning) (b : Bool) → is_code n ≡ b → (if b then Some (Character n) else None) ≡ Some m → Within (escape_bytes m) 4
character_of n m true code at = (let same : Character n ≡ m = cc in subst (λ r. Within (escape_bytes r) 4) same (character n (code_small n code)))
character_of n m false code at = absurd cc

meant : (form : Form) (n : ℕ) (m : Meaning) → means form n ≡ Some m → Within (escape_bytes m) 4
meant Octal n m at = byte_of n m (nat_lt n 256) refl at
meant Two n m at = byte_of n m (nat_lt n 256) refl at
meant Four n m at = character_of n m (is_code n) refl at
meant Eight n m at = character_of n m (is_code n) refl at

long_enough : (form : Form) (digits : List ℕ) → length digits ≡ count form → 4 ≤ length (92 ∷ escape_prefix form ++ digits)
long_enough Octal digits h = omega (arith, h)
long_enough Two digits h = omega (arith, h)
long_enough Four digits h = omega (arith, h)
long_enough Eight digits h = omega (arith, h)

escaped : (bytes : List ℕ) (m : Meaning) → IsEscape 34 bytes m → Within (escape_bytes m) (length bytes)
escaped bytes m (inl (b, c, at, is, meaning)) =
    subst (λ r. Within (escape_bytes r) (length bytes)) (sym meaning) (more_bytes c [] (letter b c is) refl, (let long : length bytes ≡ 2 = ap length at in omega (arith, long)))
escaped bytes m (inr (form, digits, at, many, all, is)) =
    let value = meant form (number_from (escape_base form) 0 digits) m is in
    let long = long_enough form digits many in
    let same : length bytes ≡ length (92 ∷ escape_prefix form ++ digits) = ap length at in
    (value.0, (let short = value.1 in omega (arith, short, long, same)))

-- ---- string literals

part_within : (p : Part) → IsPart p → IsBytes p.bytes → Within p.value (length p.bytes)
part_within p (inl (b, at, plain, value)) h =
    (subst IsBytes (sym value) (subst IsBytes at h), (let one : length p.bytes ≡ 1 = ap length at in let also : length p.value ≡ 1 = ap length value in omega (arith, one, also)))
part_within p (inr (m, escape, value)) h = subst (λ (v : List ℕ). Within v (length p.bytes)) (sym value) (escaped p.bytes m escape)

parts_within : (ps : List Part) → AllByRecursion IsPart ps → IsBytes (flat_map (λ (p : Part). p.bytes) ps) → Within (flat_map (λ (p : Part). p.value) ps) (length (flat_map (λ (p : Part). p.bytes) ps))
parts_within [] all h = (refl, omega arith)
parts_within (p ∷ ps) all h =
    let bytes = flat_map (λ (p : Part). p.bytes) ps in
    let values = flat_map (λ (p : Part). p.value) ps in
    let split = parted_bytes p.bytes bytes h in
    let one = part_within p all.0 split.0 in
    let rest = parts_within ps all.1 split.1 in (
      both_bytes p.value values one.0 rest.0,
      (
          let long = length-append p.bytes bytes in
          let short = length-append p.value values in
          let first = one.1 in
          let others = rest.1 in
          omega (arith, long, short, first, others)),
    )

kept_within : (test : ℕ → Bool) (bs : List ℕ) → IsBytes bs → Within (filter test bs) (length bs)
kept_within test [] h = (refl, omega arith)
kept_within test (b ∷ bs) h =
    let split = and_parts (is_byte b) (list_all is_byte bs) h in
    let rest = kept_within test bs split.1 in
    let short = rest.1 in
    elim (cases_Bool (test b)) [
      | inl keeps ↦ rw keeps (more_bytes b (filter test bs) (ltb-true b 256 split.0) rest.0, omega (arith, short))
      | inr drops ↦ rw drops (rest.0, omega (arith, short))
    ]

-- between quotes
inside_within : (q : ℕ) (inner bytes value : List ℕ) → bytes ≡ q ∷ inner ++ q ∷ [] → IsBytes bytes → (IsBytes inner → Within value (length inner)) → Within value (length bytes)
inside_within q inner bytes value at h within =
    let whole = parted_bytes (q ∷ inner) (q ∷ []) (subst IsBytes at h) in
    let value_in = within (and_parts (is_byte q) (list_all is_byte inner) whole.0).1 in (
      value_in.0,
      (
          let same : length bytes ≡ length (q ∷ inner ++ q ∷ []) = ap length at in
          let long = length-append (q ∷ inner) (q ∷ []) in
          let short = value_in.1 in
          omega (arith, same, long, short)),
    )

meaning_within : (bytes value : List ℕ) → StringMeans bytes value → IsBytes bytes → Within value (length bytes)
meaning_within bytes value (inl (parts, all, at, is)) h =
    inside_within 34 (flat_map (λ (p : Part). p.bytes) parts) bytes value at h
    (λ inner. subst (λ (v : List ℕ). Within v (length (flat_map (λ (p : Part). p.bytes) parts))) (sym is) (parts_within parts all inner))
meaning_within bytes value (inr (inner, at, raw, is)) h =
    inside_within 96 inner bytes value at h (λ bs. subst (λ (v : List ℕ). Within v (length inner)) (sym is) (kept_within is_kept inner bs))

value_within : (bytes value : List ℕ) → StringValue bytes value → IsBytes bytes → Within value (length bytes)
value_within bytes value (inl means) h = meaning_within bytes value means h
value_within bytes value (inr (none, is)) h = subst (λ (v : List ℕ). Within v (length bytes)) (sym is) (refl, omega arith)

-- the value of a literal whose bytes are a text is a text
pub string_text : (bytes value : List ℕ) → is_text bytes ≡ true → StringValue bytes value → is_text value ≡ true
string_text bytes value h means =
    let split = and_parts (list_all is_byte bytes) (fits (Some integers.Int) (pos (length bytes))) h in
    let within = value_within bytes value means split.0 in
    let long = ltb-true (length bytes) 9223372036854775808 split.1 in
    let short = within.1 in
    and_from (list_all is_byte value) (fits (Some integers.Int) (pos (length value))) within.0 (lt-ltb (length value) 9223372036854775808 (omega (arith, long, short)))
