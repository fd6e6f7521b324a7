use Rattle.std.proofs.Common.{◌≡◌, ℕ, ◌+◌, ◌≤◌, List, ◌++◌, take}
use Rattle.go_text.specs.Places.{place_after}
use Rattle.go_text.proofs.place.Place.after.Given as goal

abbrev pub invariant-loop-b : goal.invariant-loop-b
invariant-loop-b l = record {
  value : (before : List ℕ) → l.fn.self ≡ place_after before → l.now ≡ place_after (before ++ take l.b-index l.bytes);
  line : l.now.line ≤ l.fn.self.line + l.b-index;
  column : l.now.column ≤ l.fn.self.column + l.b-index;
}
