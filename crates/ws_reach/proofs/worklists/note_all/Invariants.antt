use Rattle.std.proofs.Common.{◌≡◌, ◌<◌, ℕ, length, ◌⊎◌, Some}
use Rattle.std.specs.List.{slice_get, Contains}
use Rattle.ws_reach.specs.Worklist.{AreMarks, Grows}
use Rattle.ws_reach.proofs.worklists.note_all.Given as goal

abbrev pub invariant-loop-i : goal.invariant-loop-i
invariant-loop-i l = record {
  size : length l.marks.items ≡ length l.fn.marks.items;
  marks : AreMarks l.marks.items l.found.items;
  grows : Grows l.fn.found.items l.found.items;
  from : (x : ℕ) → Contains l.found.items x → Contains l.fn.found.items x ⊎ Contains l.nodes x;
  taken : (k x : ℕ) → k < l.i → slice_get l.nodes k ≡ Some x → Contains l.found.items x;
}
