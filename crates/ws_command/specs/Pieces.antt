-- Lines with their newlines.
use Rattle.std.specs.Prelude.{ℕ, ◌-◌, ◌==◌, ◌||◌, slice_index, if◌then◌else◌, List, [], ◌∷◌, ◌++◌, length, take}

-- without one newline at its end
abbrev pub without_newline : List ℕ → List ℕ
without_newline line = if slice_index line (length line - 1) == 10 then take (length line - 1) line else line

-- with a newline at the end of its last line
abbrev pub closed : List ℕ → List ℕ
closed text = if (length text == 0) || (slice_index text (length text - 1) == 10) then text else text ++ 10 ∷ []
