-- Numbers and fields tell where they end.
use Rattle.std.specs.Prelude.{◌≡◌, ℕ, ◌*◌, ◌<◌, ◌^◌, zero, suc, List, [], ◌∷◌, ◌++◌, length, refl, slice_index}
use Rattle.std.specs.Int.{to_be_bytes, from_be_bytes, w32, w64}
use Rattle.std.proofs.Common.{sym, ap, ◌∙◌, arith}
use Rattle.std.proofs.lemmas.Nat.{from_be_bytes-to_be_bytes_8}
use Rattle.std.proofs.lemmas.List.{length-append, append_assoc}
use Rattle.sha2.specs.Sha256.{sha256, digest_bytes}
use Rattle.go_export.specs.Fields.{be, field}

be-injective : (m n : ℕ) → m < 2 ^ 64 → n < 2 ^ 64 → be m ≡ be n → m ≡ n
be-injective m n p q e = sym (from_be_bytes-to_be_bytes_8 m p) ∙ ap (from_be_bytes w64) e ∙ from_be_bytes-to_be_bytes_8 n q

-- equal rows whose fronts are as long have equal fronts and equal rests
pub split_alike : (a b s t : List ℕ) → length a ≡ length b → a ++ s ≡ b ++ t → (a ≡ b) × (s ≡ t)
split_alike [] [] s t l e = (refl, e)
split_alike [] (y ∷ b) s t l e = absurd (omega (arith, l))
split_alike (x ∷ a) [] s t l e = absurd (omega (arith, l))
split_alike (x ∷ a) (y ∷ b) s t l e =
    let heads : x ≡ y = cc in
    let tails : a ++ s ≡ b ++ t = cc in
    let lengths : length a ≡ length b = omega (arith, l) in
    let both = split_alike a b s t lengths tails in
    (let h = both.0 in cc, both.1)

pub be_parts : (m n : ℕ) (s t : List ℕ) → m < 2 ^ 64 → n < 2 ^ 64 → be m ++ s ≡ be n ++ t → (m ≡ n) × (s ≡ t)
be_parts m n s t p q e =
    let both = split_alike (be m) (be n) s t refl e in
    (be-injective m n p q both.0, both.1)

pub field_parts : (x y s t : List ℕ) → length x < 2 ^ 64 → length y < 2 ^ 64 → field x ++ s ≡ field y ++ t → (x ≡ y) × (s ≡ t)
field_parts x y s t p q e =
    let whole : be (length x) ++ (x ++ s) ≡ be (length y) ++ (y ++ t) = sym (append_assoc (be (length x)) x s) ∙ e ∙ append_assoc (be (length y)) y t in
    let lengths = be_parts (length x) (length y) (x ++ s) (y ++ t) p q whole in
    split_alike x y s t lengths.0 lengths.1

length-digest_bytes : (h : List ℕ) (n : ℕ) → length (digest_bytes h n) ≡ 4 * n
unfolding digest_bytes
length-digest_bytes h zero = refl
length-digest_bytes h (suc n) = omega (arith, length-append (digest_bytes h n) (to_be_bytes w32 (slice_index h n)), length-digest_bytes h n)

pub length-sha256 : (text : List ℕ) → length (sha256 text) ≡ 32
unfolding sha256
length-sha256 text = length-digest_bytes _ 8

pub digest_fits : (text : List ℕ) → length (sha256 text) < 2 ^ 64
digest_fits text = omega (arith, length-sha256 text)
