use Rattle.std.proofs.Common.{take}
use Rattle.ws_graph.specs.Discovery.{HaveTargets, string_texts}
use Rattle.ws_graph.proofs.target.targets_in.Given as goal

abbrev pub invariant-loop-file : goal.invariant-loop-file
invariant-loop-file l = HaveTargets (string_texts l.all) (take l.file-index l.parsed) l.targets.items
