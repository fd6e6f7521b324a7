use Rattle.ws_action.proofs.OneAction.{one_action}
use Rattle.ws_action.proofs.law_one_action.Goals as goal

pub returns : goal.returns
returns c = one_action
