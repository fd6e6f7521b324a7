-- String literals and their values: go.dev/ref/spec#String_literals.
use Rattle.std.specs.Prelude.{◌≡◌, ℕ, Bool, true, ◌⊎◌, ◌||◌, not, nat_eq, List, [], ◌∷◌, ◌++◌}
use Rattle.std.specs.List.{list_all, filter, flat_map, AllByRecursion}
use Rattle.go_scan.specs.declared.escapes.Meaning.{Meaning}
use Rattle.go_scan.specs.Escapes.{IsEscape, escape_bytes}

-- a byte that stands for itself between double quotes: no newline, double quote or backslash
abbrev pub is_plain_byte : ℕ → Bool
is_plain_byte b = not (nat_eq b 10 || (nat_eq b 34 || nat_eq b 92))

-- a part of an interpreted string: its bytes, and the bytes that it means
pub record Part : Type 0 where
  pub bytes : List ℕ
  pub value : List ℕ

-- a plain byte or an escape
abbrev pub IsPart : Part → Type 0
IsPart p =
    ((b : ℕ) × (p.bytes ≡ b ∷ []) × (is_plain_byte b ≡ true) × (p.value ≡ b ∷ []))
    ⊎ ((m : Meaning) × IsEscape 34 p.bytes m × (p.value ≡ escape_bytes m))

-- parts between double quotes
abbrev pub InterpretedMeans : List ℕ → List ℕ → Type 0
InterpretedMeans bytes value =
    (parts : List Part) × AllByRecursion IsPart parts × (bytes ≡ 34 ∷ flat_map (λ p. p.bytes) parts ++ 34 ∷ []) × (value ≡ flat_map (λ p. p.value) parts)

-- no back quote
abbrev pub is_in_raw : ℕ → Bool
is_in_raw b = not (nat_eq b 96)

-- no carriage return
abbrev pub is_kept : ℕ → Bool
is_kept b = not (nat_eq b 13)

-- bytes between back quotes, of which the carriage returns are dropped
abbrev pub RawMeans : List ℕ → List ℕ → Type 0
RawMeans bytes value = (inner : List ℕ) × (bytes ≡ 96 ∷ inner ++ 96 ∷ []) × (list_all is_in_raw inner ≡ true) × (value ≡ filter is_kept inner)

-- the bytes are a string literal, and these are the bytes that it means
abbrev pub StringMeans : List ℕ → List ℕ → Type 0
StringMeans bytes value = InterpretedMeans bytes value ⊎ RawMeans bytes value

abbrev pub IsString : List ℕ → Type 0
IsString bytes = (value : List ℕ) × StringMeans bytes value

-- what a text means as a string literal: no bytes, where it is none
abbrev pub StringValue : List ℕ → List ℕ → Type 0
StringValue bytes value = StringMeans bytes value ⊎ ((IsString bytes → ⊥) × (value ≡ []))
