use Rattle.ws_replica.proofs.SameFiles.{one_edition}
use Rattle.ws_replica.proofs.previous.are_of_one_edition.Goals as goal

pub returns : goal.returns
returns c = one_edition c.eq.result c.args.one.now.edition c.args.other.now.edition c.edition.result c.edition-2.result c.edition.ensures c.edition-2.ensures c.eq.ensures
