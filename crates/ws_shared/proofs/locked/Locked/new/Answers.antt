use Rattle.ws_shared.proofs.Keeping.{kept_first}
use Rattle.ws_shared.proofs.locked.Locked.new.Goals as goal

pub invariant_of-result : goal.invariant_of-result
invariant_of-result g c = kept_first g.L.Desk.opening c.args.books c.args.board c.requires.opening c.requires.fresh c.requires.books
