use Rattle.ws_session.proofs.KnownWrites.{HoldsFirst}
use Rattle.ws_session.proofs.taking.with_writes.Given as goal

abbrev pub invariant-loop-writer : goal.invariant-loop-writer
invariant-loop-writer l = HoldsFirst l.named l.wrote l.results l.first l.writers l.writer-index l.joined l.taken
