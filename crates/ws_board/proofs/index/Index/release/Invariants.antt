use Rattle.std.proofs.Common.{◌≡◌, ℕ, true, length, take}
use Rattle.std.specs.Prelude.{if◌then◌else◌}
use Rattle.ws_board.specs.Indexes.{is_free_in, is_released}
use Rattle.ws_board.proofs.index.Index.release.Given as goal

abbrev pub invariant-loop-one : goal.invariant-loop-one
invariant-loop-one l = record {
  ids : l.self.ids ≡ l.fn.self.ids;
  free : (k : ℕ) → is_free_in l.self k ≡ (if is_released l.fn.self (take l.one-index l.ready) k then true else is_free_in l.fn.self k);
  len : length l.self.free ≡ length l.fn.self.free;
  running : l.self.running ≡ l.fn.self.running;
}
