-- Lines, words and numbers of a script.
use Rattle.std.specs.Prelude.{ℕ, ◌+◌, ◌-◌, ◌*◌, ◌==◌, ◌&&◌, nat_lt, not, slice_index, if◌then◌else◌, Bool, cond, List, [], ◌∷◌, length, take, Option, None, Some}
use Rattle.std.specs.List.{onto_first, filter, slice_split}

-- A line ends with a newline, or with the script. Behind the last newline no line begins.
abbrev pub lines_of : List ℕ → List (List ℕ)
lines_of [] = []
lines_of (b ∷ bytes) = cond (b == 10) ([] ∷ lines_of bytes) (onto_first b (lines_of bytes))

-- without one carriage return at its end
abbrev pub without_return : List ℕ → List ℕ
without_return line = if slice_index line (length line - 1) == 13 then take (length line - 1) line else line

-- what stands between spaces
abbrev pub words_of : List ℕ → List (List ℕ)
words_of line = filter (λ word. not (length word == 0)) (slice_split (λ b. b == 32) line)

abbrev pub is_decimal : ℕ → Bool
is_decimal b = nat_lt 47 b && nat_lt b 58

-- the number that these digits go on to, behind the digits of n
abbrev pub digits_from : ℕ → List ℕ → Option ℕ
digits_from n [] = Some n
digits_from n (b ∷ bytes) = cond (is_decimal b && nat_lt (n * 10 + (b - 48)) 18446744073709551616) (digits_from (n * 10 + (b - 48)) bytes) None

-- a number is digits, of at most 18446744073709551615
abbrev pub decimal_value : List ℕ → Option ℕ
decimal_value [] = None
decimal_value (b ∷ bytes) = digits_from 0 (b ∷ bytes)
