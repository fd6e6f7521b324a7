-- Texts that begin with a field or a number, in parts.
use Rattle.std.proofs.Common.{◌≡◌, ℕ, ◌+◌, ◌<◌, ◌≤◌, ◌^◌, List, [], ◌∷◌, ◌++◌, length, ap, ◌∙◌, arith}
use Rattle.std.specs.List.{flat_map}
use Rattle.std.proofs.lemmas.List.{length-append, append_assoc}
use Rattle.go_export.specs.Fields.{be, field}
use Rattle.go_export.proofs.Fields.{be_parts, field_parts}

-- a text that a program can hold
pub Short : List ℕ → Type 0
Short s = length s < 2 ^ 64

pub short : (s : List ℕ) → length s < 2 ^ 64 → Short s
unfolding Short
short s h = h

length_field : (x s : List ℕ) → length (field x ++ s) ≡ 8 + (length x + length s)
length_field x s = omega (arith, length-append x s)

length_be : (n : ℕ) (s : List ℕ) → length (be n ++ s) ≡ 8 + length s
length_be n s = omega arith

-- equal texts, split behind their first fields
pub split_field : (x y s t : List ℕ) → Short (field x ++ s) → field x ++ s ≡ field y ++ t → (x ≡ y) × (s ≡ t) × Short s
unfolding Short
split_field x y s t h e =
    let first : length (field x ++ s) ≡ 8 + (length x + length s) = length_field x s in
    let second : length (field y ++ t) ≡ 8 + (length y + length t) = length_field y t in
    let lengths : length (field x ++ s) ≡ length (field y ++ t) = ap length e in
    let one : length x < 2 ^ 64 = omega (arith, h) in
    let two : length y < 2 ^ 64 = omega (arith, h) in
    let parts = field_parts x y s t one two e in
    (parts.0, parts.1, omega (arith, h))

-- equal texts, split behind the numbers that they begin with; what follows has a byte at least for each thing that is counted
pub split_number : (m n : ℕ) (s t : List ℕ) → m ≤ length s → n ≤ length t → Short (be m ++ s) → be m ++ s ≡ be n ++ t → (m ≡ n) × (s ≡ t) × Short s
unfolding Short
split_number m n s t p q h e =
    let first : length (be m ++ s) ≡ 8 + length s = length_be m s in
    let second : length (be n ++ t) ≡ 8 + length t = length_be n t in
    let lengths : length (be m ++ s) ≡ length (be n ++ t) = ap length e in
    let one : m < 2 ^ 64 = omega (arith, h) in
    let two : n < 2 ^ 64 = omega (arith, h) in
    let parts = be_parts m n s t one two e in
    (parts.0, parts.1, omega (arith, h))

-- each thing has a byte at least
pub counted : {X : Type 0} (text : X → List ℕ) → ((x : X) → 0 < length (text x)) → (xs : List X) (s : List ℕ) → length xs ≤ length (flat_map text xs ++ s)
counted text some [] s = omega arith
counted text some (x ∷ xs) s =
    let rest : length xs ≤ length (flat_map text xs ++ s) = counted text some xs s in
    let one : 0 < length (text x) = some x in
    let whole : length ((text x ++ flat_map text xs) ++ s) ≡ length (text x) + length (flat_map text xs ++ s) =
    ap length (append_assoc (text x) (flat_map text xs) s) ∙ length-append (text x) (flat_map text xs ++ s) in
    omega (arith, whole)

pub some_field : (x s : List ℕ) → 0 < length (field x ++ s)
some_field x s = omega (arith, length_field x s)

pub has_byte : (x : List ℕ) → 0 < length (field x)
has_byte x = omega arith
