use Rattle.std.proofs.Common.{◌≡◌, ◌++◌, drop}
use Rattle.std.specs.List.{filter}
use Rattle.go_scan.specs.Strings.{is_kept}
use Rattle.go_scan.proofs.values.raw_value.Given as goal

abbrev pub invariant-loop-byte : goal.invariant-loop-byte
invariant-loop-byte l = l.value.items ++ filter is_kept (drop l.byte-index l.bytes) ≡ filter is_kept l.bytes
