use Rattle.std.proofs.Common.{drop}
use Rattle.ws_graph.proofs.PlanFiles.{Leads}
use Rattle.ws_graph.proofs.first_other.Given as goal

abbrev pub invariant-loop-other : goal.invariant-loop-other
invariant-loop-other l = Leads l.name (drop l.other-index l.parsed) l.parsed
