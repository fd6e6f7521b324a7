use Rattle.ws_replica.proofs.Membership.{same_members}
use Rattle.ws_replica.proofs.law_same_members.Goals as goal

pub returns : goal.returns
returns c = same_members
