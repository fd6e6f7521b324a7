use Rattle.std.proofs.Common.{◌≡◌, take}
use Rattle.ws_graph.specs.Discovery.{string_texts}
use Rattle.ws_graph.proofs.planning.copies.Given as goal

abbrev pub invariant-loop-text : goal.invariant-loop-text
invariant-loop-text l = string_texts l.copies.items ≡ string_texts (take l.text-index l.some)
