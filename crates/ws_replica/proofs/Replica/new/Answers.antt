use Rattle.ws_replica.proofs.Opening.{nothing_stands}
use Rattle.ws_replica.proofs.Replica.new.Goals as goal

pub returns : goal.returns
returns c = record { stands = record { registers = nothing_stands c.new.result c.new.ensures; cache = c.new-2.ensures.stands } }
