use Rattle.ws_action.proofs.Naming.{not_named}
use Rattle.ws_action.proofs.is_named.Goals as goal

pub returns-clause-other : goal.returns-clause-other
returns-clause-other c =
    not_named c.args.file.now.edition c.args.name.now c.args.file.now.text c.text.result.now c.package.result.now c.eq.result c.package.ensures c.text.ensures c.eq.ensures
