-- The line of a place, and a caret below it.
use Rattle.std.specs.Prelude.{ℕ, ◌+◌, ◌-◌, Bool, true, false, ◌&&◌, nat_eq, nat_lt, nat_le, List, [], ◌∷◌, ◌++◌, length, take, drop, min, codes, if◌then◌else◌}
use Rattle.std.specs.Fmt.{decimal}
use Rattle.std.specs.List.{flat_map, slice_range}
use Rattle.go_text.specs.declared.place.Place.{Place}
use Rattle.go_text.specs.Places.{mark_size}

-- how many bytes stand before the first newline, or how many there are
abbrev pub line_len : List ℕ → ℕ
line_len [] = 0
line_len (b ∷ bs) = if nat_eq b 10 then 0 else 1 + line_len bs

-- a text from the line on with so many before it
abbrev pub from_line : ℕ → List ℕ → List ℕ
from_line n [] = []
from_line n (b ∷ bs) = if nat_eq n 0 then b ∷ bs else (if nat_eq b 10 then from_line (n - 1) bs else from_line n bs)

-- the line with that number, which counts from 1; a mark at the start is no part of the first
abbrev pub line_at : List ℕ → ℕ → List ℕ
line_at text number = let rest = from_line (number - 1) (drop (mark_size text) text) in take (line_len rest) rest

-- what stands below a byte: a tab below a tab, nothing below a byte inside a character (UTF-8), and else a blank
abbrev pub pad_of : ℕ → List ℕ
pad_of b = if nat_eq b 9 then codes "\t" else (if nat_le 128 b && nat_lt b 192 then [] else codes " ")

abbrev pub padding : List ℕ → List ℕ
padding bytes = flat_map pad_of bytes

-- two dots stand for what isn't shown
abbrev pub dots : Bool → List ℕ
dots true = codes ".."
dots false = []

-- what is shown of a line, behind its number
abbrev pub source_line : List ℕ → List ℕ → ℕ → ℕ → List ℕ
source_line number line start end =
    codes "    " ++ number ++ codes " | " ++ dots (nat_lt 0 start) ++ slice_range line start end ++ dots (nat_lt end (length line)) ++ codes "\n"

-- the caret, below what stands before the place
abbrev pub caret_line : List ℕ → ℕ → List ℕ → List ℕ
caret_line number start before = codes "    " ++ padding number ++ codes " | " ++ padding (dots (nat_lt 0 start)) ++ padding before ++ codes "^\n"

-- where what is shown of a line begins: of a line of more than 100 bytes, 50 before the place
abbrev pub start_of : List ℕ → ℕ → ℕ
start_of line at = if nat_le (length line) 100 then 0 else at - 50

-- and ends: 100 bytes on
abbrev pub end_of : List ℕ → ℕ → ℕ
end_of line start = if nat_le (length line - start) 100 then length line else start + 100

-- a line, and a caret below one of its bytes
abbrev pub pointed : List ℕ → List ℕ → ℕ → List ℕ
pointed number line at =
    let start = start_of line at in
    source_line number line start (end_of line start) ++ caret_line number start (slice_range line start at)

-- the line of a place, and a caret below the place: columns count bytes from 1, and one past the line's end counts as its end
abbrev pub excerpt : List ℕ → Place → List ℕ
excerpt text place = let line = line_at text place.line in pointed (decimal place.line) line (min (place.column - 1) (length line))
