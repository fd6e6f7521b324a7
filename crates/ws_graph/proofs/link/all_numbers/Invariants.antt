use Rattle.std.proofs.Common.{take}
use Rattle.std.specs.List.{AllZip}
use Rattle.ws_graph.specs.Discovery.{AreNumbersOf}
use Rattle.ws_graph.proofs.link.all_numbers.Given as goal

abbrev pub invariant-loop-some : goal.invariant-loop-some
invariant-loop-some l = AllZip AreNumbersOf (take l.some-index l.targets) l.rows.items
