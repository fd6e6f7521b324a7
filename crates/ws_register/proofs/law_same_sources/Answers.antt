use Rattle.ws_register.proofs.Laws.{one_sources, same_sources}
use Rattle.ws_register.proofs.law_same_sources.Goals as goal

pub returns : goal.returns
returns c = record { one = one_sources; members = same_sources }
