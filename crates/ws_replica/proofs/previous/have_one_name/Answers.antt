use Rattle.ws_replica.proofs.SameFiles.{one_text}
use Rattle.ws_replica.proofs.previous.have_one_name.Goals as goal

pub returns : goal.returns
returns c = one_text c.eq.result c.args.one.now.name c.args.other.now.name c.name.result.now c.name-2.result.now c.name.ensures c.name-2.ensures c.eq.ensures
