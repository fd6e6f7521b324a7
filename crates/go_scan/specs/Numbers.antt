-- Numbers: go.dev/ref/spec#Integer_literals. Floating-point and imaginary literals are left out.
use Rattle.std.specs.Prelude.{ℕ, ◌-◌, Bool, true, false, ◌||◌, ◌&&◌, nat_eq, nat_lt, List, [], ◌∷◌, length, slice_index, if◌then◌else◌}
use Rattle.std.specs.List.{list_all, list_any}
use Rattle.std.specs.Char.{is_ascii_digit, is_ascii_alphabetic, digit_value}
use Rattle.go_scan.specs.declared.fault.ScanFault.{ScanFault}
use Rattle.go_scan.specs.declared.fault.ScanFault.TheVariants.{Malformed, LeftOut}

-- a number begins with a digit, or with a dot before one
abbrev pub begins_number : List ℕ → Bool
begins_number [] = false
begins_number (b ∷ []) = is_ascii_digit b
begins_number (b ∷ c ∷ bs) = is_ascii_digit b || (nat_eq b 46 && is_ascii_digit c)

-- and goes on in ASCII letters, digits, underscores and dots
abbrev pub is_in_run : ℕ → Bool
is_in_run b = ((is_ascii_alphabetic b || nat_eq b 95) || is_ascii_digit b) || nat_eq b 46

abbrev pub is_run : List ℕ → Bool
is_run bytes = begins_number bytes && list_all is_in_run bytes

-- the byte is a digit of the base
abbrev pub is_digit_of : ℕ → ℕ → Bool
is_digit_of base b = nat_lt (digit_value b) base

-- the byte is one of two, a letter in either case
abbrev pub is_either : ℕ → ℕ → ℕ → Bool
is_either lower upper b = nat_eq b lower || nat_eq b upper

-- digits, each with at most one underscore before it; one may come first where a digit or a prefix stands before them, and none last
abbrev pub are_spaced_digits : ℕ → Bool → List ℕ → Bool
are_spaced_digits base before [] = before
are_spaced_digits base before (b ∷ bs) =
    if is_digit_of base b then are_spaced_digits base true bs else ((nat_eq b 95 && before) && are_spaced_digits base false bs)

-- some digits behind a prefix
abbrev pub are_prefixed_digits : ℕ → List ℕ → Bool
are_prefixed_digits base [] = false
are_prefixed_digits base (b ∷ bs) = are_spaced_digits base true (b ∷ bs)

-- what stands behind a leading 0: nothing, a base's letter and digits, or the digits of an octal literal
abbrev pub is_behind_zero : List ℕ → Bool
is_behind_zero [] = true
is_behind_zero (b ∷ bs) =
    if is_either 98 66 b then are_prefixed_digits 2 bs
    else (if is_either 111 79 b then are_prefixed_digits 8 bs
    else (if is_either 120 88 b then are_prefixed_digits 16 bs
    else are_spaced_digits 8 true (b ∷ bs)))

-- an integer literal
abbrev pub is_integer_literal : List ℕ → Bool
is_integer_literal [] = false
is_integer_literal (b ∷ bs) = if nat_eq b 48 then is_behind_zero bs else (is_ascii_digit b && are_spaced_digits 10 true bs)

-- a run that begins 0x or 0X
abbrev pub is_hexadecimal : List ℕ → Bool
is_hexadecimal [] = false
is_hexadecimal (b ∷ []) = false
is_hexadecimal (b ∷ c ∷ bs) = nat_eq b 48 && is_either 120 88 c

-- the last byte is i
abbrev pub ends_in_i : List ℕ → Bool
ends_in_i run = nat_eq (slice_index run (length run - 1)) 105

-- the byte begins an exponent
abbrev pub is_exponent : Bool → ℕ → Bool
is_exponent hexadecimal b = if hexadecimal then is_either 112 80 b else is_either 101 69 b

-- a dot, an exponent or an i at the end make a run a literal of a kind that is left out
abbrev pub is_left_out : List ℕ → Bool
is_left_out run = list_any (λ b. nat_eq b 46) run || (list_any (is_exponent (is_hexadecimal run)) run || ends_in_i run)

-- what is wrong with a run that is no integer literal
abbrev pub run_fault : List ℕ → ScanFault
run_fault run = if is_left_out run then LeftOut else Malformed
