use Rattle.ws_board.proofs.Finished.{finished}
use Rattle.ws_board.proofs.Endings.{comes_to}
use Rattle.ws_board.proofs.Own.{own_ends}
use Rattle.ws_board.proofs.Board.built.Goals as goal

pub returns-clause-finished : goal.returns-clause-finished
returns-clause-finished c = finished c.args.self c.into_parts.ensures.legal

pub returns-clause-ends : goal.returns-clause-ends
returns-clause-ends c = comes_to c.args.self c.into_parts.ensures.legal c.requires.idled

pub returns-clause-own : goal.returns-clause-own
returns-clause-own c = λ own. own_ends c.args.self own (comes_to c.args.self c.into_parts.ensures.legal c.requires.idled)
