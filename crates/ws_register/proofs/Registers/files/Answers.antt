use Rattle.std.proofs.Common.{ap, refl, ◌∙◌}
use Rattle.std.specs.FinMap.{entries}
use Rattle.ws_register.specs.Sources.{texts_of, files_in}
use Rattle.ws_register.specs.Edits.{Contents}
use Rattle.ws_register.proofs.Registers.files.Goals as goal

pub returns-clause-ok : goal.returns-clause-ok
returns-clause-ok c = c.in_ok-files.ensures ∙ ap (λ (m : Contents). files_in c.args.directory.now (texts_of (entries m))) c.self.view_is

pub returns-clause-stands : goal.returns-clause-stands
returns-clause-stands c W h = (texts_of (entries c.args.self.now), (c.args.self.now, h, refl), returns-clause-ok c)
