use Rattle.std.proofs.Common.{◌≡◌, ℕ, length}
use Rattle.go_init.specs.declared.queue.Waiter.{Waiter}
use Rattle.go_init.specs.Queues.{IsAt}
use Rattle.go_init.proofs.queue.no_waiters.Given as goal

abbrev pub invariant-loop : goal.invariant-loop
invariant-loop l = record {
  count : length l.lists.items ≡ l.counter;
  none : (j : ℕ) (waiter : Waiter) → ¬ (IsAt l.lists.items j waiter);
}
