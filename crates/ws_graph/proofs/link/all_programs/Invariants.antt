use Rattle.std.proofs.Common.{◌≡◌, map, take}
use Rattle.ws_graph.proofs.link.all_programs.Given as goal

abbrev pub invariant-loop-found : goal.invariant-loop-found
invariant-loop-found l = l.all.items ≡ map (λ found. found.program) (take l.found-index l.founds)
