use Rattle.std.proofs.Common.{◌≡◌, ℕ, Some, true, slice_set}
use Rattle.std.specs.List.{slice_get}
use Rattle.ws_reach.specs.Reach.{rows_of}
use Rattle.go_init.specs.declared.queue.Waiter.{Waiter}
use Rattle.go_init.specs.Queues.{AreQueued}
use Rattle.go_init.proofs.Queued.{AreToPut, IsFreed}
use Rattle.go_init.proofs.queue.Queue.list.Given as goal

abbrev pub invariant-loop-i : goal.invariant-loop-i
invariant-loop-i l = record {
  listed : l.self.listed.items ≡ slice_set l.fn.self.listed.items l.number true;
  freed : (n : ℕ) (w : Waiter) → slice_get l.waiters.items n ≡ Some w → IsFreed (rows_of l.rows) l.self.listed.items l.number w;
  queued : AreQueued (rows_of l.rows) l.self (AreToPut l.waiters.items l.i);
}
