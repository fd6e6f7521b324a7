use Rattle.ws_register.proofs.Greatest.{removal_below}
use Rattle.ws_register.proofs.law_removal_stays.Goals as goal

pub returns : goal.returns
returns c = removal_below
