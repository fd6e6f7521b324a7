use Rattle.std.proofs.Common.{◌≡◌, drop}
use Rattle.go_scan.specs.Numbers.{are_spaced_digits}
use Rattle.go_scan.proofs.numbers.are_spaced_digits.Given as goal

abbrev pub invariant-loop-byte : goal.invariant-loop-byte
invariant-loop-byte l = are_spaced_digits l.base l.before (drop l.byte-index l.bytes) ≡ are_spaced_digits l.base l.fn.before l.bytes
