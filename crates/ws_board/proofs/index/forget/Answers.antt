use Rattle.std.proofs.Common.{None}
use Rattle.ws_board.proofs.Ids.{id_after}
use Rattle.ws_board.proofs.index.forget.Goals as goal

pub returns : goal.returns
returns c = id_after c.args.ids.now c.remove.new.self c.args.id.now None c.remove.ensures.updates
