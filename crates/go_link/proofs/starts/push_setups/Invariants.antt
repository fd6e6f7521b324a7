use Rattle.std.proofs.Common.{◌≡◌, ◌++◌, map, take}
use Rattle.go_link.specs.Links.{linked_setup}
use Rattle.go_link.proofs.starts.push_setups.Given as goal

abbrev pub invariant-loop-setup : goal.invariant-loop-setup
invariant-loop-setup l = l.starts.items ≡ l.fn.starts.items ++ map (linked_setup l.names l.places) (take l.setup-index l.setups)
