use Rattle.ws_board.proofs.OneEnd.{one_end}
use Rattle.ws_board.proofs.law_one_end.Goals as goal

pub returns : goal.returns
returns c = one_end
