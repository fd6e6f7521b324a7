-- A token behind whole ones.
use Rattle.std.proofs.Common.{◌≡◌, ◌∙◌, ℕ, ℤ, pos, List, [], ◌∷◌, ◌++◌, ◌<◌, ◌-◌, ◌+◌, refl, sym, subst, ap, append_assoc, append-nil, arith, true, false, Some, get_or}
use Rattle.std.specs.List.{slice_get}
use Rattle.std.proofs.lemmas.Bool.{lt-ltb, le-ltb}
use Rattle.std.proofs.Math.Dec.{ltb}
use Rattle.std.proofs.lemmas.Option.{slice_get_within, get_or_from_slice_get}
use Rattle.std.proofs.lemmas.List.{get_or_append_left}
use Rattle.go_packed.specs.Tokens.{PackedToken, Number, Integer, Text, Name, Beside, token_at, beside_after, tokens}
use Rattle.go_packed.specs.Whole.{IsPackedForm, appended_beside}

abbrev none : Beside
none = record { shorts = []; sizes = []; integers = []; texts = [] }

pub whole_none : IsPackedForm [] (record { shorts = []; sizes = []; integers = []; texts = [] }) []
whole_none = record { goes_on = λ more next rest. refl }

both_none : (b : Beside) → appended_beside b none ≡ b
both_none b = rw (append-nil b.shorts, append-nil b.sizes, append-nil b.integers, append-nil b.texts) refl

-- whole bytes with a token behind them
pub record Writes (names : List (List ℕ)) (beside : Beside) (bytes : List ℕ) (new_names : List (List ℕ)) (new_beside : Beside) (new_bytes : List ℕ) (t : PackedToken) : Type 0 where
  pub tokens_are : tokens new_names new_beside new_bytes ≡ tokens names beside bytes ++ t ∷ []
  pub whole : IsPackedForm new_names new_beside new_bytes

-- names behind others
abbrev pub Extends : List (List ℕ) → List (List ℕ) → Type 0
Extends names new_names = (added : List (List ℕ)) × (new_names ≡ names ++ added)

-- bytes stand for the same where there are more names
pub same_tokens : (names new_names : List (List ℕ)) (b : Beside) (bytes : List ℕ) → Extends names new_names → IsPackedForm names b bytes → tokens new_names b bytes ≡ tokens names b bytes
same_tokens names new_names b bytes extends h =
    ap (λ n. tokens n b bytes) extends.1
    ∙ ap (λ x. tokens (names ++ extends.0) x bytes) (sym (both_none b))
    ∙ ap (λ l. tokens (names ++ extends.0) (appended_beside b none) l) (sym (append-nil bytes))
    ∙ h.goes_on extends.0 none []
    ∙ append-nil (tokens names b bytes)

pub whole_more : (names new_names : List (List ℕ)) (b : Beside) (bytes : List ℕ) → Extends names new_names → IsPackedForm names b bytes → IsPackedForm new_names b bytes
whole_more names new_names b bytes extends h =
    let regroup : (more : List (List ℕ)) → new_names ++ more ≡ names ++ (extends.0 ++ more) = λ more. ap (λ l. l ++ more) extends.1 ∙ append_assoc names extends.0 more in
    record {
      goes_on = λ more next rest.
          ap (λ n. tokens n (appended_beside b next) (bytes ++ rest)) (regroup more)
          ∙ h.goes_on (extends.0 ++ more) next rest
          ∙ ap (λ n. tokens names b bytes ++ tokens n next rest) (sym (regroup more))
          ∙ ap (λ l. l ++ tokens (new_names ++ more) next rest) (sym (same_tokens names new_names b bytes extends h));
    }

-- a byte behind others, where what lies beside it is in front of what lies beside those that follow
module _ (names new_names : List (List ℕ)) (extends : Extends names new_names) (beside new_beside : Beside) (bytes : List ℕ) (byte : ℕ) (t : PackedToken) (front : Beside → Beside)
    (lies : (next : Beside) → appended_beside new_beside next ≡ appended_beside beside (front next))
    (stands : (more : List (List ℕ)) (next : Beside) → token_at (new_names ++ more) (front next) byte ≡ t)
    (passes : (next : Beside) → beside_after (front next) byte ≡ next)
    (h : IsPackedForm names beside bytes) where
  regrouped : (more : List (List ℕ)) → new_names ++ more ≡ names ++ (extends.0 ++ more)
  regrouped more = ap (λ l. l ++ more) extends.1 ∙ append_assoc names extends.0 more

  goes : (more : List (List ℕ)) (next : Beside) (rest : List ℕ) → tokens (new_names ++ more) (appended_beside new_beside next) ((bytes ++ byte ∷ []) ++ rest) ≡ tokens names beside bytes ++ (t ∷ tokens (new_names ++ more) next rest)
  goes more next rest =
      ap (λ b. tokens (new_names ++ more) b ((bytes ++ byte ∷ []) ++ rest)) (lies next)
      ∙ ap (λ l. tokens (new_names ++ more) (appended_beside beside (front next)) l) (append_assoc bytes (byte ∷ []) rest)
      ∙ ap (λ n. tokens n (appended_beside beside (front next)) (bytes ++ byte ∷ rest)) (regrouped more)
      ∙ h.goes_on (extends.0 ++ more) (front next) (byte ∷ rest)
      ∙ ap (λ n. tokens names beside bytes ++ tokens n (front next) (byte ∷ rest)) (sym (regrouped more))
      ∙ ap (λ x. tokens names beside bytes ++ (x ∷ tokens (new_names ++ more) (beside_after (front next) byte) rest)) (stands more next)
      ∙ ap (λ b. tokens names beside bytes ++ (t ∷ tokens (new_names ++ more) b rest)) (passes next)

  shown : tokens new_names new_beside (bytes ++ byte ∷ []) ≡ tokens names beside bytes ++ t ∷ []
  shown =
      sym (ap (λ n. tokens n new_beside (bytes ++ byte ∷ [])) (append-nil new_names))
      ∙ ap (λ b. tokens (new_names ++ []) b (bytes ++ byte ∷ [])) (sym (both_none new_beside))
      ∙ ap (λ l. tokens (new_names ++ []) (appended_beside new_beside none) l) (sym (append-nil (bytes ++ byte ∷ [])))
      ∙ goes [] none []

  written : Writes names beside bytes new_names new_beside (bytes ++ byte ∷ []) t
  written = record {
    tokens_are = shown;
    whole = record {
      goes_on = λ more next rest.
          goes more next rest
          ∙ sym (append_assoc (tokens names beside bytes) (t ∷ []) (tokens (new_names ++ more) next rest))
          ∙ ap (λ l. l ++ tokens (new_names ++ more) next rest) (sym shown);
    };
  }

-- ---- by what the token is

-- a name that is there is there also with more behind
name_there : (names more : List (List ℕ)) (k : ℕ) (name : List ℕ) → slice_get names k ≡ Some name → get_or (names ++ more) k [] ≡ name
name_there names more k name there = get_or_append_left names more [] k (slice_get_within names k name there) ∙ get_or_from_slice_get names k name [] there

-- what stands for the same: more names, and the room and the vectors as they were
pub kept_whole : {names new_names : List (List ℕ)} (extends : Extends names new_names) {b : Beside} {bytes : List ℕ} (h : IsPackedForm names b bytes) {room shorts sizes : List ℕ}
    → room ≡ bytes → shorts ≡ b.shorts → sizes ≡ b.sizes → IsPackedForm new_names (record b { shorts = shorts; sizes = sizes }) room
kept_whole {names} {new_names} extends {b} {bytes} h {room} {shorts} {sizes} e f g =
    let P : List ℕ → Type 0 = λ l. IsPackedForm new_names b l in
    let Q : List ℕ → Type 0 = λ l. IsPackedForm new_names (record b { shorts = l }) room in
    let R : List ℕ → Type 0 = λ l. IsPackedForm new_names (record b { shorts = shorts; sizes = l }) room in
    subst R (sym g) (subst Q (sym f) (subst P (sym e) (whole_more names new_names b bytes extends h)))

pub same_parts : {names names' : List (List ℕ)} {shorts shorts' sizes sizes' : List ℕ} {integers integers' : List ℤ} {texts texts' : List (List ℕ)} {bytes bytes' : List ℕ}
    → names ≡ names' → shorts ≡ shorts' → sizes ≡ sizes' → integers ≡ integers' → texts ≡ texts' → bytes ≡ bytes'
    → tokens names (record { shorts = shorts; sizes = sizes; integers = integers; texts = texts }) bytes ≡ tokens names' (record { shorts = shorts'; sizes = sizes'; integers = integers'; texts = texts' }) bytes'
same_parts {names} {names'} {shorts} {shorts'} {sizes} {sizes'} {integers} {integers'} {texts} {texts'} {bytes} {bytes'} a b d e f g =
    ap (λ n. tokens n (record { shorts = shorts; sizes = sizes; integers = integers; texts = texts }) bytes) a
    ∙ ap (λ l. tokens names' (record { shorts = l; sizes = sizes; integers = integers; texts = texts }) bytes) b
    ∙ ap (λ l. tokens names' (record { shorts = shorts'; sizes = l; integers = integers; texts = texts }) bytes) d
    ∙ ap (λ l. tokens names' (record { shorts = shorts'; sizes = sizes'; integers = l; texts = texts }) bytes) e
    ∙ ap (λ l. tokens names' (record { shorts = shorts'; sizes = sizes'; integers = integers'; texts = l }) bytes) f
    ∙ ap (λ l. tokens names' (record { shorts = shorts'; sizes = sizes'; integers = integers'; texts = texts' }) l) g

-- no name is added
pub no_more : (names : List (List ℕ)) → Extends names names
no_more names = ([], sym (append-nil names))

-- Vectors are grown first: the bytes that room was made for are those that there were.
module _ {names new_names : List (List ℕ)} (extends : Extends names new_names) {b : Beside} {bytes : List ℕ} (h : IsPackedForm names b bytes) {room : List ℕ} (kept : room ≡ bytes) where
  abbrev Now : Beside → List ℕ → PackedToken → Type 0
  Now new_beside new t = Writes names b bytes new_names new_beside new t

  moved : (new_beside : Beside) (new : List ℕ) (byte : ℕ) (t : PackedToken) → new ≡ room ++ byte ∷ [] → Now new_beside (bytes ++ byte ∷ []) t → Now new_beside new t
  moved new_beside new byte t is w =
      let e : new ≡ bytes ++ byte ∷ [] = is ∙ ap (λ l. l ++ byte ∷ []) kept in
      let P : List ℕ → Type 0 = λ l. Now new_beside l t in
      subst P (sym e) w

  -- a byte alone
  alone : {new : List ℕ} (byte : ℕ) (t : PackedToken) → byte < 248 → ((more : List (List ℕ)) (next : Beside) → token_at (new_names ++ more) next byte ≡ t) → new ≡ room ++ byte ∷ [] → Now b new t
  alone {new} byte t low stands is =
      moved b new byte t is (written names new_names extends b b bytes byte t (λ next. next) (λ next. refl) stands
      (λ next. rw (lt-ltb byte 248 low) refl) h)

  pub small_number : {new : List ℕ} (n : ℕ) → n < 128 → new ≡ room ++ n ∷ [] → Now b new (Number n)
  small_number n low is = alone n (Number n) (omega arith) (λ more next. rw (lt-ltb n 128 low) refl) is

  pub small_integer : {new : List ℕ} (n : ℕ) → n < 56 → new ≡ room ++ (n + 192) ∷ [] → Now b new (Integer (pos n))
  small_integer n low is =
      let not_number : ltb (n + 192) 128 ≡ false = le-ltb (n + 192) 128 (omega arith) in
      let not_name : ltb (n + 192) 192 ≡ false = le-ltb (n + 192) 192 (omega arith) in
      let here : ltb (n + 192) 248 ≡ true = lt-ltb (n + 192) 248 (omega arith) in
      let less : n + 192 - 192 ≡ n = omega arith in
      alone (n + 192) (Integer (pos n)) (omega arith) (λ more next. rw (not_number, not_name, here, less) refl) is

  pub small_name : {new : List ℕ} {name : List ℕ} (k : ℕ) → k < 64 → slice_get new_names k ≡ Some name → new ≡ room ++ (k + 128) ∷ [] → Now b new (Name name)
  small_name {name = name} k low there is =
      let not_number : ltb (k + 128) 128 ≡ false = le-ltb (k + 128) 128 (omega arith) in
      let here : ltb (k + 128) 192 ≡ true = lt-ltb (k + 128) 192 (omega arith) in
      let less : k + 128 - 128 ≡ k = omega arith in
      alone (k + 128) (Name name) (omega arith) (λ more next. rw (not_number, here, less) (ap Name (name_there new_names more k name there))) is

  -- a byte beside which lies a number of two bytes
  short : {new shorts : List ℕ} (byte n : ℕ) (t : PackedToken) → ((more : List (List ℕ)) (next : Beside) → token_at (new_names ++ more) (record next { shorts = n ∷ next.shorts }) byte ≡ t)
      → ((next : Beside) → beside_after (record next { shorts = n ∷ next.shorts }) byte ≡ next) → shorts ≡ b.shorts ++ n ∷ [] → new ≡ room ++ byte ∷ [] → Now (record b { shorts = shorts }) new t
  short {new} {shorts} byte n t stands passes with is =
      moved (record b { shorts = shorts }) new byte t is (written names new_names extends b (record b { shorts = shorts }) bytes byte t (λ next. record next { shorts = n ∷ next.shorts })
      (λ next. let P : List ℕ → Beside = λ l. record { shorts = l; sizes = b.sizes ++ next.sizes; integers = b.integers ++ next.integers; texts = b.texts ++ next.texts } in
      ap P (ap (λ l. l ++ next.shorts) with ∙ append_assoc b.shorts (n ∷ []) next.shorts))
      stands passes h)

  pub short_number : {new shorts : List ℕ} (n : ℕ) → shorts ≡ b.shorts ++ n ∷ [] → new ≡ room ++ 248 ∷ [] → Now (record b { shorts = shorts }) new (Number n)
  short_number n with is = short 248 n (Number n) (λ more next. refl) (λ next. refl) with is

  pub short_name : {new shorts : List ℕ} {name : List ℕ} (k : ℕ) → slice_get new_names k ≡ Some name → shorts ≡ b.shorts ++ k ∷ [] → new ≡ room ++ 250 ∷ [] → Now (record b { shorts = shorts }) new (Name name)
  short_name {name = name} k there with is = short 250 k (Name name) (λ more next. ap Name (name_there new_names more k name there)) (λ next. refl) with is

  pub short_integer : {new shorts : List ℕ} (n : ℕ) → shorts ≡ b.shorts ++ n ∷ [] → new ≡ room ++ 252 ∷ [] → Now (record b { shorts = shorts }) new (Integer (pos n))
  short_integer n with is = short 252 n (Integer (pos n)) (λ more next. refl) (λ next. refl) with is

  -- a byte beside which lies a larger number
  size : {new sizes : List ℕ} (byte n : ℕ) (t : PackedToken) → ((more : List (List ℕ)) (next : Beside) → token_at (new_names ++ more) (record next { sizes = n ∷ next.sizes }) byte ≡ t)
      → ((next : Beside) → beside_after (record next { sizes = n ∷ next.sizes }) byte ≡ next) → sizes ≡ b.sizes ++ n ∷ [] → new ≡ room ++ byte ∷ [] → Now (record b { sizes = sizes }) new t
  size {new} {sizes} byte n t stands passes with is =
      moved (record b { sizes = sizes }) new byte t is (written names new_names extends b (record b { sizes = sizes }) bytes byte t (λ next. record next { sizes = n ∷ next.sizes })
      (λ next. let P : List ℕ → Beside = λ l. record { shorts = b.shorts ++ next.shorts; sizes = l; integers = b.integers ++ next.integers; texts = b.texts ++ next.texts } in
      ap P (ap (λ l. l ++ next.sizes) with ∙ append_assoc b.sizes (n ∷ []) next.sizes))
      stands passes h)

  pub size_number : {new sizes : List ℕ} (n : ℕ) → sizes ≡ b.sizes ++ n ∷ [] → new ≡ room ++ 249 ∷ [] → Now (record b { sizes = sizes }) new (Number n)
  size_number n with is = size 249 n (Number n) (λ more next. refl) (λ next. refl) with is

  pub size_name : {new sizes : List ℕ} {name : List ℕ} (k : ℕ) → slice_get new_names k ≡ Some name → sizes ≡ b.sizes ++ k ∷ [] → new ≡ room ++ 251 ∷ [] → Now (record b { sizes = sizes }) new (Name name)
  size_name {name = name} k there with is = size 251 k (Name name) (λ more next. ap Name (name_there new_names more k name there)) (λ next. refl) with is

  pub wide_integer : {new : List ℕ} {integers : List ℤ} (z : ℤ) → integers ≡ b.integers ++ z ∷ [] → new ≡ room ++ 253 ∷ [] → Now (record b { integers = integers }) new (Integer z)
  wide_integer {new} {integers} z with is =
      moved (record b { integers = integers }) new 253 (Integer z) is (written names new_names extends b (record b { integers = integers }) bytes 253 (Integer z) (λ next. record next { integers = z ∷ next.integers })
      (λ next. let P : List ℤ → Beside = λ l. record { shorts = b.shorts ++ next.shorts; sizes = b.sizes ++ next.sizes; integers = l; texts = b.texts ++ next.texts } in
      ap P (ap (λ l. l ++ next.integers) with ∙ append_assoc b.integers (z ∷ []) next.integers))
      (λ more next. refl) (λ next. refl) h)

  pub some_text : {new : List ℕ} {texts : List (List ℕ)} (t : List ℕ) → texts ≡ b.texts ++ t ∷ [] → new ≡ room ++ 254 ∷ [] → Now (record b { texts = texts }) new (Text t)
  some_text {new} {texts} t with is =
      moved (record b { texts = texts }) new 254 (Text t) is (written names new_names extends b (record b { texts = texts }) bytes 254 (Text t) (λ next. record next { texts = t ∷ next.texts })
      (λ next. let P : List (List ℕ) → Beside = λ l. record { shorts = b.shorts ++ next.shorts; sizes = b.sizes ++ next.sizes; integers = b.integers ++ next.integers; texts = l } in
      ap P (ap (λ l. l ++ next.texts) with ∙ append_assoc b.texts (t ∷ []) next.texts))
      (λ more next. refl) (λ next. refl) h)
