use Rattle.ws_register.proofs.Laws.{one_contents}
use Rattle.ws_register.proofs.law_same_writes.Goals as goal

pub returns : goal.returns
returns c = one_contents
