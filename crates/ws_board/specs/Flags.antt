-- A tree over flags.
use Rattle.std.specs.Prelude.{◌≡◌, ℕ, ◌+◌, ◌*◌, ◌^◌, ◌≤◌, ◌<◌, ◌||◌, Bool, false, List, length}
use Rattle.std.specs.List.{slice_index_or}

-- the node says whether one below it stands
abbrev pub SaysBelow : List Bool → ℕ → Type 0
SaysBelow tree node = slice_index_or tree node false ≡ (slice_index_or tree (2 * node) false || slice_index_or tree (2 * node + 1) false)

-- So many numbers, a power of two, are of nodes, the root's 1; flags stand behind them.
pub record IsTree (inner : ℕ) (tree : List Bool) : Type 0 where
  pub height : ℕ
  pub power : inner ≡ 2 ^ height
  pub nodes : inner ≤ length tree
  pub flags : length tree ≤ 2 * inner
  pub each : (node : ℕ) → 0 < node → node < inner → SaysBelow tree node
