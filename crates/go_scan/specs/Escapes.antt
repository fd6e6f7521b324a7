-- Escapes in rune and string literals: go.dev/ref/spec#Rune_literals.
use Rattle.std.specs.Prelude.{◌≡◌, ℕ, ◌+◌, ◌*◌, Bool, true, ◌⊎◌, ◌||◌, ◌&&◌, nat_eq, nat_lt, nat_le, List, [], ◌∷◌, ◌++◌, length, Option, Some, None, if◌then◌else◌}
use Rattle.std.specs.List.{list_all}
use Rattle.std.specs.Char.{encode_utf8, digit_value}
use Rattle.go_scan.specs.Numbers.{is_digit_of}
use Rattle.go_scan.specs.declared.escapes.Form.{Form}
use Rattle.go_scan.specs.declared.escapes.Form.TheVariants.{Octal, Two, Four, Eight}
use Rattle.go_scan.specs.declared.escapes.Meaning.{Meaning}
use Rattle.go_scan.specs.declared.escapes.Meaning.TheVariants.{Byte, Character}

-- the escapes of one letter, of the backslash, and of the quote that ends the literal
abbrev pub letter_escape : ℕ → ℕ → Option ℕ
letter_escape quote b =
    if nat_eq b 97 then Some 7
    else (if nat_eq b 98 then Some 8
    else (if nat_eq b 102 then Some 12
    else (if nat_eq b 110 then Some 10
    else (if nat_eq b 114 then Some 13
    else (if nat_eq b 116 then Some 9
    else (if nat_eq b 118 then Some 11
    else (if nat_eq b 92 then Some 92
    else (if nat_eq b quote then Some quote else None))))))))

-- what stands between the backslash and the digits of an escape by number: x before two of them, u before four, U before eight
abbrev pub escape_prefix : Form → List ℕ
escape_prefix Octal = []
escape_prefix Two = 120 ∷ []
escape_prefix Four = 117 ∷ []
escape_prefix Eight = 85 ∷ []

-- how many digits there are
abbrev pub count : Form → ℕ
count Octal = 3
count Two = 2
count Four = 4
count Eight = 8

abbrev pub escape_base : Form → ℕ
escape_base Octal = 8
escape_base Two = 16
escape_base Four = 16
escape_base Eight = 16

-- the number that digits write, behind others of value n
abbrev pub number_from : ℕ → ℕ → List ℕ → ℕ
number_from base n [] = n
number_from base n (d ∷ ds) = number_from base (n * base + digit_value d) ds

-- the number is the code of a character: no surrogate, and not past 10FFFF
abbrev pub is_code : ℕ → Bool
is_code n = nat_lt n 0xD800 || (nat_le 0xE000 n && nat_le n 0x10_FFFF)

-- what a number means: a byte, or a character
abbrev pub means : Form → ℕ → Option Meaning
means Octal n = if nat_lt n 256 then Some (Byte n) else None
means Two n = if nat_lt n 256 then Some (Byte n) else None
means Four n = if is_code n then Some (Character n) else None
means Eight n = if is_code n then Some (Character n) else None

abbrev pub IsLetterEscape : ℕ → List ℕ → Meaning → Type 0
IsLetterEscape quote bytes m = (b : ℕ) × (c : ℕ) × (bytes ≡ 92 ∷ b ∷ []) × (letter_escape quote b ≡ Some c) × (m ≡ Byte c)

abbrev pub IsNumberEscape : List ℕ → Meaning → Type 0
IsNumberEscape bytes m =
    (form : Form) × (digits : List ℕ) × (bytes ≡ 92 ∷ escape_prefix form ++ digits) × (length digits ≡ count form)
    × (list_all (is_digit_of (escape_base form)) digits ≡ true) × (means form (number_from (escape_base form) 0 digits) ≡ Some m)

-- the bytes are an escape in a literal between such quotes, and this is what it means
abbrev pub IsEscape : ℕ → List ℕ → Meaning → Type 0
IsEscape quote bytes m = IsLetterEscape quote bytes m ⊎ IsNumberEscape bytes m

-- a meaning as a code point, and as the bytes of a string
abbrev pub escape_code : Meaning → ℕ
escape_code (Byte b) = b
escape_code (Character c) = c

abbrev pub escape_bytes : Meaning → List ℕ
escape_bytes (Byte b) = b ∷ []
escape_bytes (Character c) = encode_utf8 c
