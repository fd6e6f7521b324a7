use Rattle.std.proofs.Common.{◌-◌, length}
use Rattle.ws_reach.specs.Reach.{rows_of}
use Rattle.go_init.specs.Queues.{AreQueued}
use Rattle.go_init.proofs.Steps.{SoFar}
use Rattle.go_init.proofs.packages.package_order.Given as goal

abbrev pub invariant-loop : goal.invariant-loop
invariant-loop l = record {
  queued : AreQueued (rows_of l.rows) l.queue (λ k. ⊥);
  so_far : SoFar (rows_of l.rows) l.queue.listed.items l.order.items (length l.rows - l.counter);
}
