use Rattle.std.proofs.Common.{map, sym, subst, rules}
use Rattle.ws_replica.specs.Jobs.{reached_of}
use Rattle.ws_replica.specs.Stopped.{IsOpened}
use Rattle.ws_replica.proofs.stopped.stopped_board.Goals as goal

pub returns-clause-board : goal.returns-clause-board
returns-clause-board c = subst (IsOpened (map reached_of c.args.reached.items) c.args.cache) (sym c.stopped.ensures) (record { opening = search rules; shows = c.in_ok-board.ensures.shows })
