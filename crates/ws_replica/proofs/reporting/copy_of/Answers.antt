use Rattle.ws_replica.proofs.reporting.copy_of.Goals as goal

pub returns : goal.returns
returns c = λ i. (c.in_ok-path.ensures i, c.in_ok-verdict.ensures i)
