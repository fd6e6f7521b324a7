use Rattle.std.proofs.Common.{[], sym, subst}
use Rattle.ws_shared.specs.Work.{Seen}
use Rattle.ws_shared.specs.Ends.{HasResults}
use Rattle.ws_pool.proofs.workers.run_jobs.Goals as goal

pub returns-clause-ends : goal.returns-clause-ends
returns-clause-ends g c = subst (λ (b : Seen). HasResults b []) (sym c.built.ensures.same) (c.built.ensures.own c.close-board.ensures.own)
