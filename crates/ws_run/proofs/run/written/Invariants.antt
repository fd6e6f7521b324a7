use Rattle.std.proofs.Common.{◌≡◌, List, [], ◌++◌}
use Rattle.std.specs.Vec.Iter.{into_iter_items}
use Rattle.ws_version.specs.Writes.{Write}
use Rattle.ws_replica.specs.Holdings.{ReplicaStandsFor}
use Rattle.ws_run.specs.Files.{writes_of}
use Rattle.ws_run.proofs.run.written.Given as goal

-- it stands for the writes so far, which those of what is left complete
abbrev pub invariant-loop-path : goal.invariant-loop-path
invariant-loop-path l =
    (so_far : List Write) × ReplicaStandsFor l.replica so_far [] × (so_far ++ writes_of (into_iter_items l.path-iterator) ≡ writes_of l.fn.files.items)
