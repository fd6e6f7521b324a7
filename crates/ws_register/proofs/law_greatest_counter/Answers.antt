use Rattle.ws_register.proofs.Counters.{greatest_counter-top, top-same}
use Rattle.ws_register.proofs.law_greatest_counter.Goals as goal

pub returns : goal.returns
returns c = record { taken = greatest_counter-top; members = top-same }
