use Rattle.std.proofs.Common.{take}
use Rattle.go_diagnostics.proofs.Nearer.{IsLeast, NoneBelow}
use Rattle.go_diagnostics.proofs.nearest.nearest.Given as goal

abbrev pub invariant-loop-name : goal.invariant-loop-name
invariant-loop-name l = record {
  least : IsLeast l.unknown l.names l.found l.least;
  none : NoneBelow l.unknown l.least (take l.name-index l.names);
}
