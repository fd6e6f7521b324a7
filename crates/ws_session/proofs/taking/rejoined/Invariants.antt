use Rattle.std.proofs.Common.{◌≡◌, ◌++◌, length}
use Rattle.std.specs.Vec.Iter.{into_iter_items}
use Rattle.ws_session.specs.Representation.{labels_of, replicas_of}
use Rattle.ws_session.proofs.taking.rejoined.Given as goal

-- those so far, and those that are left, of which there are as many
abbrev pub invariant-loop-replica : goal.invariant-loop-replica
invariant-loop-replica l =
    (labels_of l.named.items ++ into_iter_items l.labels ≡ l.fn.labels.items)
    × (replicas_of l.named.items ++ into_iter_items l.replica-iterator ≡ l.fn.replicas.items)
    × (length (into_iter_items l.labels) ≡ length (into_iter_items l.replica-iterator))
