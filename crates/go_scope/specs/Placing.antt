-- Placing declarations, one after another.
use Rattle.std.specs.Prelude.{◌≡◌, ℕ, List, length, true, false, not, count_by, ◌⊎◌}
use Rattle.ws_reach.specs.Reach.{Edge}
use Rattle.ws_reach.specs.Worklist.{AreMarks, is_marked}
use Rattle.go_scope.specs.declared.order.Placed.{Placed}
use Rattle.go_scope.specs.Order.{Once, Ordered}

-- the marks are those of the order, in which each stands behind all that it needs
pub record Placing (rows : List (List ℕ)) (placed : Placed) : Type 0 where
  pub size : length placed.marks.items ≡ length rows
  pub marks : AreMarks placed.marks.items placed.order.items
  pub ordered : Ordered rows placed.order.items
  pub once : Once placed.order.items

-- how many aren't placed
abbrev pub unplaced_count : Placed → ℕ
unplaced_count placed = count_by not placed.marks.items

-- it is placed, or something that it needs isn't
abbrev pub Settled : List (List ℕ) → Placed → ℕ → Type 0
Settled rows placed i =
    (is_marked placed.marks.items i ≡ true) ⊎ ((j : ℕ) × Edge rows i j × (is_marked placed.marks.items j ≡ false))
