use Rattle.std.proofs.Common.{sym, ap, ◌∙◌}
use Rattle.ws_register.specs.Listed.{writes_of}
use Rattle.ws_register.proofs.Edited.{first_write}
use Rattle.ws_register.proofs.node.Node.first.Goals as goal

pub returns : goal.returns
returns c =
    first_write writes_of c.args.self.now.pages.items c.index.result.now c.first.result.now c.args.self.now.some c.index.ensures
    (c.first.ensures.0, ap writes_of (sym c.deref.ensures) ∙ c.first.ensures.1)
