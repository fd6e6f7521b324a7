use Rattle.std.proofs.Common.{◌≡◌, ◌++◌, map}
use Rattle.std.specs.Vec.Iter.{into_iter_items}
use Rattle.ws_graph.specs.Node.{directory_of}
use Rattle.ws_replica.specs.Jobs.{shared_of}
use Rattle.ws_replica.proofs.reached.all_shared.Given as goal

-- those so far, and those of what is left
abbrev pub invariant-loop-directory : goal.invariant-loop-directory
invariant-loop-directory l = map shared_of l.all.items ++ map directory_of (into_iter_items l.directory-iterator) ≡ map directory_of l.fn.directories.items
