use Rattle.std.proofs.Common.{◌≡◌, ◌≤◌, false, length, replicate}
use Rattle.ws_reach.specs.Reach.{rows_of}
use Rattle.go_init.specs.Queues.{AreQueued}
use Rattle.go_init.proofs.queue.Queue.new.Given as goal

abbrev pub invariant-loop-number : goal.invariant-loop-number
invariant-loop-number l = record {
  listed : l.queue.listed.items ≡ replicate (length l.rows) false;
  queued : AreQueued (rows_of l.rows) l.queue (λ k. l.number ≤ k);
}
