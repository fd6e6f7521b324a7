use Rattle.std.proofs.Common.{◌≡◌, ◌++◌, length}
use Rattle.ws_register.specs.Listed.{all_writes}
use Rattle.ws_register.specs.Nodes.{all_nodes}
use Rattle.ws_register.proofs.merge.nodes_of.Given as goal

-- what is in nodes, and what is left
abbrev pub invariant-cut : goal.invariant-cut
invariant-cut l = all_nodes l.nodes.items ++ all_writes l.rest ≡ all_writes l.fn.pages

abbrev pub decreases-cut : goal.decreases-cut
decreases-cut l = length l.rest
