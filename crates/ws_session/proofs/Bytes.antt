-- The bytes of UTF-8 are below 256.
use Rattle.std.proofs.Common.{◌≡◌, ◌<◌, ◌+◌, ◌/◌, ◌%◌, ℕ, List, [], ◌∷◌, true, false, Bool, refl, ◌∙◌, cond, subst, inl, inr, arith}
use Rattle.std.specs.List.{list_all}
use Rattle.std.specs.Str.{is_utf8}
use Rattle.std.proofs.Math.Dec.{ltb}
use Rattle.std.proofs.Math.Utf8.{scalar, scalars, scalar_cases, encode, encodes}
use Rattle.std.proofs.lemmas.Str.{IsUtf8-from_is_utf8}
use Rattle.std.proofs.lemmas.Bool.{and_from, and_parts, lt-ltb, ltb-true}
use Rattle.std.proofs.lemmas.List.Folds.{list_all-append}
use Rattle.ws_version.specs.Writes.{is_byte}

abbrev AreBytes : List ℕ → Type 0
AreBytes bs = list_all is_byte bs ≡ true

more : (b : ℕ) (bs : List ℕ) → b < 256 → AreBytes bs → AreBytes (b ∷ bs)
more b bs small rest = and_from (is_byte b) (list_all is_byte bs) (lt-ltb b 256 small) rest

-- each byte behind the first
next_more : (c : ℕ) (bs : List ℕ) → AreBytes bs → AreBytes ((128 + c % 64) ∷ bs)
next_more c bs rest = more (128 + c % 64) bs (omega arith) rest

abbrev last : ℕ → List ℕ
last c = (128 + c % 64) ∷ []

abbrev last_two : ℕ → List ℕ
last_two c = (128 + c / 64 % 64) ∷ last c

abbrev last_three : ℕ → List ℕ
last_three c = (128 + c / 4096 % 64) ∷ last_two c

are_last : (c : ℕ) → AreBytes (last c)
are_last c = next_more c [] refl

are_last_two : (c : ℕ) → AreBytes (last_two c)
are_last_two c = next_more (c / 64) (last c) (are_last c)

are_last_three : (c : ℕ) → AreBytes (last_three c)
are_last_three c = next_more (c / 4096) (last_two c) (are_last_two c)

two : (c : ℕ) → c < 2048 → AreBytes ((192 + c / 64) ∷ last c)
two c h = more (192 + c / 64) (last c) (omega (arith, h)) (are_last c)

three : (c : ℕ) → c < 65536 → AreBytes ((224 + c / 4096) ∷ last_two c)
three c h = more (224 + c / 4096) (last_two c) (omega (arith, h)) (are_last_two c)

four : (c : ℕ) → c < 1114112 → AreBytes ((240 + c / 262144) ∷ last_three c)
four c h = more (240 + c / 262144) (last_three c) (omega (arith, h)) (are_last_three c)

either : (b : Bool) (xs ys : List ℕ) → (b ≡ true → AreBytes xs) → AreBytes ys → AreBytes (cond b xs ys)
either true xs ys f g = f refl
either false xs ys f g = g

below : (c : ℕ) → scalar c ≡ true → c < 1114112
below c s = elim (scalar_cases c s) [ inl low ↦ omega (arith, low) | inr high ↦ (let h = high.1 in omega (arith, h)) ]

abbrev behind_two : ℕ → List ℕ
behind_two c = cond (ltb c 65536) ((224 + c / 4096) ∷ last_two c) ((240 + c / 262144) ∷ last_three c)

abbrev behind_one : ℕ → List ℕ
behind_one c = cond (ltb c 2048) ((192 + c / 64) ∷ last c) (behind_two c)

of_char : (c : ℕ) → scalar c ≡ true → AreBytes (encode c)
unfolding encode
of_char c s =
    either (ltb c 128) (c ∷ []) (behind_one c) (λ e. more c [] (let h = ltb-true c 128 e in omega (arith, h)) refl)
    (either (ltb c 2048) ((192 + c / 64) ∷ last c) (behind_two c) (λ e. two c (ltb-true c 2048 e))
    (either (ltb c 65536) ((224 + c / 4096) ∷ last_two c) ((240 + c / 262144) ∷ last_three c) (λ e. three c (ltb-true c 65536 e))
    (four c (below c s))))

of_chars : (cs : List ℕ) → scalars cs ≡ true → AreBytes (encodes cs)
of_chars [] s = refl
of_chars (c ∷ cs) s =
    let both = and_parts (scalar c) (scalars cs) s in
    list_all-append is_byte (encode c) (encodes cs) ∙ and_from _ _ (of_char c both.0) (of_chars cs both.1)

pub utf8_bytes : (bs : List ℕ) → is_utf8 bs ≡ true → list_all is_byte bs ≡ true
utf8_bytes bs e =
    let h = IsUtf8-from_is_utf8 bs e in
    subst AreBytes (h.1).1 (of_chars h.0 (h.1).0)
