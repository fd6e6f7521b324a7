use Rattle.std.proofs.Common.{rules}
use Rattle.ws_action.specs.Actions.{action_id}
use Rattle.ws_action.proofs.Action.id.Goals as goal

pub returns : goal.returns
unfolding action_id
returns c = search rules
