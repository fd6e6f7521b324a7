use Rattle.ws_replica.proofs.Plans.{told_editions}
use Rattle.ws_replica.proofs.plan.Plan.is_in.Goals as goal

pub returns : goal.returns
returns c = told_editions c.eq.result c.args.self.now.edition c.args.edition c.eq.ensures
