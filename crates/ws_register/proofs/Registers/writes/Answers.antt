use Rattle.std.proofs.Common.{ap, ◌∙◌}
use Rattle.std.specs.FinMap.{entries}
use Rattle.ws_register.proofs.Registers.writes.Goals as goal

pub returns-clause-stands : goal.returns-clause-stands
returns-clause-stands c W h = (c.args.self.now, h, c.in_ok-writes.ensures ∙ c.iter.ensures ∙ ap entries c.self.view_is)
