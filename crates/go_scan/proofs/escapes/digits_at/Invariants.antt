use Rattle.std.proofs.Common.{◌≡◌, ◌-◌, ◌<◌, ◌^◌, drop}
use Rattle.go_scan.specs.Fronts.{digits_at}
use Rattle.go_scan.proofs.escapes.digits_at.Given as goal

abbrev pub invariant-loop-i : goal.invariant-loop-i
invariant-loop-i l = record {
  value : digits_at l.base (l.count - l.i) l.number (drop l.i l.bytes) ≡ digits_at l.base l.count 0 l.bytes;
  bound : l.number < 16 ^ l.i;
}
