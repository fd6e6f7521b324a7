use denote.Param.Send.{sendable}
use Rattle.ws_replica.proofs.Crossing.{replica_send, replica_sync}
use Rattle.ws_replica.proofs.SettledReplicas.{settled_ok}
use Rattle.ws_replica.proofs.join.settle.Goals as goal

pub settle_all-requires-send-J : goal.settle_all-requires-send-J
settle_all-requires-send-J g c κs within = search (replica_send, sendable) depth 20

pub settle_all-requires-sync-J : goal.settle_all-requires-sync-J
settle_all-requires-sync-J g c κs within = search (replica_sync, sendable) depth 20

pub returns-clause-stands : goal.returns-clause-stands
returns-clause-stands g c = settled_ok c.settle_all.result c.args.replicas.now c.settle_all.new.all c.settle_all.ensures.ok
