use Rattle.go_init.specs.Queues.{NoneLeft}
use Rattle.go_init.proofs.queue.missing_from.Given as goal

abbrev pub invariant-loop-place : goal.invariant-loop-place
invariant-loop-place l = NoneLeft l.listed l.row l.from l.place
