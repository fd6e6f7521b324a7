use Rattle.ws_register.proofs.Greatest.{greatest_at-held, greatest_at-same}
use Rattle.ws_register.proofs.law_greatest_at.Goals as goal

pub returns : goal.returns
returns c = record { held = greatest_at-held; members = greatest_at-same }
