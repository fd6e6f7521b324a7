use Rattle.std.proofs.Common.{◌≡◌, ◌++◌}
use Rattle.std.specs.Vec.Iter.{into_iter_items}
use Rattle.ws_session.specs.Representation.{labels_of, replicas_of}
use Rattle.ws_session.proofs.taking.parted.Given as goal

-- those so far, and those of what is left
abbrev pub invariant-loop-one : goal.invariant-loop-one
invariant-loop-one l =
    (l.labels.items ++ labels_of (into_iter_items l.one-iterator) ≡ labels_of l.fn.named.items)
    × (l.replicas.items ++ replicas_of (into_iter_items l.one-iterator) ≡ replicas_of l.fn.named.items)
