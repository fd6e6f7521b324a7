-- Lines of a table.
use Rattle.std.specs.Prelude.{ℕ, ◌||◌, ◌==◌, nat_eq, codes, Bool, List, length}
use Rattle.std.specs.List.{starts_with}

-- nothing, or a remark: what is passed over
abbrev pub is_passed : List ℕ → Bool
is_passed line = length line == 0 || starts_with nat_eq line (codes "#")
