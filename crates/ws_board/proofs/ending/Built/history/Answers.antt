use Rattle.ws_board.specs.Rows.{seen_of}
use Rattle.ws_board.proofs.Alone.{history_settled, history_once}
use Rattle.ws_board.proofs.ending.Built.history.Goals as goal

pub returns-clause-settled : goal.returns-clause-settled
returns-clause-settled c = rw (← c.self.view_is) (history_settled (seen_of c.self.inside.parts) c.self.invariant.0 c.self.invariant.1)

pub returns-clause-once : goal.returns-clause-once
returns-clause-once c = rw (← c.self.view_is) (history_once (seen_of c.self.inside.parts) c.self.invariant.0)
