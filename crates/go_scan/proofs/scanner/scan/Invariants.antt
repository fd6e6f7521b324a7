use Rattle.std.proofs.Common.{◌≡◌, ◌-◌, ◌≤◌, length}
use Rattle.go_text.specs.Places.{place_at, mark_size}
use Rattle.go_scan.proofs.Steps.{Rowed}
use Rattle.go_scan.proofs.scanner.scan.Given as goal

-- whatever row the rest is, the whole text is one, with the tokens so far in front
abbrev pub invariant-pieces : goal.invariant-pieces
invariant-pieces l = record {
  row : Rowed l.text (mark_size l.text) l.at l.begun l.tokens.items l.due;
  place : l.place ≡ place_at l.text l.at;
  from : mark_size l.text ≤ l.at;
  within : l.at ≤ length l.text;
}

abbrev pub decreases-pieces : goal.decreases-pieces
decreases-pieces l = length l.text - l.at
