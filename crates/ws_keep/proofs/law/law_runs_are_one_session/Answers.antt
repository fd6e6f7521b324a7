use Rattle.ws_keep.proofs.Many.{runs_are_one}
use Rattle.ws_keep.proofs.law.law_runs_are_one_session.Goals as goal

pub returns : goal.returns
returns c = runs_are_one
