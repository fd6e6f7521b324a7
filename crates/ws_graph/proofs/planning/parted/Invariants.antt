use Rattle.std.proofs.Common.{◌≡◌, ◌++◌}
use Rattle.std.specs.Map.{keys_of, values_of}
use Rattle.ws_graph.proofs.planning.parted.Given as goal

abbrev pub invariant-loop-path : goal.invariant-loop-path
invariant-loop-path l = record {
  paths : l.paths.items ++ keys_of l.path-iterator ≡ keys_of l.fn.met.entries;
  founds : l.founds.items ++ values_of l.path-iterator ≡ values_of l.fn.met.entries;
}
