use Rattle.std.proofs.Common.{◌≡◌, ◌+◌, drop, false}
use Rattle.go_scan.specs.Fronts.{before_close}
use Rattle.go_scan.proofs.comments.before_close.Given as goal

abbrev pub invariant-loop-byte : goal.invariant-loop-byte
invariant-loop-byte l = record {
  value : l.len + before_close l.star (drop l.byte-index l.bytes) ≡ before_close false l.bytes;
  place : l.len ≡ l.byte-index;
}
