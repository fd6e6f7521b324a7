use Rattle.std.proofs.Common.{◌<◌, length}
use Rattle.go_types.proofs.types.widest.Given as goal

abbrev pub invariant-loop-i : goal.invariant-loop-i
invariant-loop-i l = l.found < length l.fields
