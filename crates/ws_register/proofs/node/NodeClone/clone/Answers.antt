use Rattle.ws_register.proofs.Shared.{same_values}
use Rattle.ws_register.proofs.node.NodeClone.clone.Goals as goal

pub returns : goal.returns
returns c = record { cases = same_values c.args.self.now.pages.items c.in_ok-pages.pages.items c.in_ok-pages.ensures.cases.0 }
