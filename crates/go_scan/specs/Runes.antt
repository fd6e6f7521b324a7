-- Rune literals and their values: go.dev/ref/spec#Rune_literals.
use Rattle.std.specs.Prelude.{◌≡◌, ℕ, Bool, true, ◌⊎◌, ◌||◌, not, nat_eq, List, [], ◌∷◌, ◌++◌}
use Rattle.std.specs.Char.{encode_utf8, IsScalar}
use Rattle.go_scan.specs.declared.escapes.Meaning.{Meaning}
use Rattle.go_scan.specs.Escapes.{IsEscape, escape_code}

-- a character that stands for itself: no newline, single quote or backslash
abbrev pub is_plain_rune : ℕ → Bool
is_plain_rune c = not (nat_eq c 10 || (nat_eq c 39 || nat_eq c 92))

-- what stands between the quotes: such a character or an escape
abbrev pub IsRunePart : List ℕ → ℕ → Type 0
IsRunePart bytes code =
    ((bytes ≡ encode_utf8 code) × IsScalar code × (is_plain_rune code ≡ true))
    ⊎ ((m : Meaning) × IsEscape 39 bytes m × (code ≡ escape_code m))

-- the bytes are a rune literal, and this is its code point
abbrev pub RuneMeans : List ℕ → ℕ → Type 0
RuneMeans bytes code = (part : List ℕ) × (bytes ≡ 39 ∷ part ++ 39 ∷ []) × IsRunePart part code

abbrev pub IsRune : List ℕ → Type 0
IsRune bytes = (code : ℕ) × RuneMeans bytes code

-- what a text means as a rune literal: 0, where it is none
abbrev pub RuneValue : List ℕ → ℕ → Type 0
RuneValue bytes code = RuneMeans bytes code ⊎ ((IsRune bytes → ⊥) × (code ≡ 0))
