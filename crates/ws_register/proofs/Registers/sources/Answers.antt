use Rattle.std.proofs.Common.{ap, ◌∙◌}
use Rattle.std.specs.FinMap.{entries}
use Rattle.ws_register.specs.Sources.{texts_of}
use Rattle.ws_register.proofs.Registers.sources.Goals as goal

pub returns-clause-stands : goal.returns-clause-stands
returns-clause-stands c W h = (c.args.self.now, h, c.in_ok-sources.ensures ∙ ap texts_of (c.iter.ensures ∙ ap entries c.self.view_is))
