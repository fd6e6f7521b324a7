use Rattle.std.proofs.Common.{◌≡◌, ◌+◌, vec_len}
use Rattle.ws_shared.specs.Counts.{none_made}
use Rattle.ws_shared.specs.Workers.{new_workers}
use Rattle.ws_shared.proofs.worker.workers_of.Given as goal

abbrev pub invariant-loop-number : goal.invariant-loop-number
invariant-loop-number g l =
    (vec_len l.hands + 1 ≡ l.number) × (l.all.parts + l.number ≡ l.count + 1) × (l.all.made ≡ none_made) × (l.hands.items ≡ new_workers (vec_len l.hands))
