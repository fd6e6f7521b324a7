-- In which order packages are initialized: https://go.dev/ref/spec#Program_initialization
-- A package is a number, its place among all in byte order of their paths; the row at it has the numbers of those that it imports.
use Rattle.std.specs.Prelude.{ℕ, nat_eq, Bool, List, [], length, slice_index_or}
use Rattle.std.specs.List.{list_any, range_with_len}
use Rattle.go_init.specs.Turns.{in_turn}

abbrev pub imports : List (List ℕ) → ℕ → ℕ → Bool
imports rows k j = list_any (nat_eq j) (slice_index_or rows k [])

-- each time the first by path whose imports all stand before
abbrev pub package_order : List (List ℕ) → List ℕ
package_order rows = (in_turn (imports rows) (range_with_len 0 (length rows))).0
