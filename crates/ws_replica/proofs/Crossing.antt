-- A replica and a snapshot may go to another thread, and be read by several: so may what they hold, the plan of the last build and its files too.
use denote.Param.Send.{IsSend, IsSync, recorded_send, recorded_sync, sendable}
use Rattle.std.proofs.Crossing.{crosses}
use Rattle.std.proofs.MapsCrossing as maps
use Rattle.go_text.proofs.fault.Fault.TheSendSync as faults
use Rattle.ws_action.proofs.Crossing.{action_send, action_sync, files_send, files_sync}
use Rattle.ws_register.proofs.Registers.TheSendSync as registers
use Rattle.ws_cache.proofs.Crossing.{cache_send, cache_sync}
use Rattle.ws_replica.specs.contracts.reached.SharedNode as node
use Rattle.ws_replica.specs.contracts.reached.Shared as shared
use Rattle.ws_replica.specs.contracts.plan.Plan as plan
use Rattle.ws_replica.specs.contracts.previous.PreviousDirectory as past_files
use Rattle.ws_replica.specs.contracts.previous.PreviousBuild as past
use Rattle.ws_replica.specs.contracts.Replica as replica
use Rattle.ws_replica.specs.contracts.snapshot.Snapshot as snapshot

node_field_send : IsSend (node.the_field).row
node_field_send = search (files_send, files_sync, faults.the_send, crosses, maps.crosses, sendable) depth 20

node_field_sync : IsSync (node.the_field).row
node_field_sync = search (files_send, files_sync, faults.the_sync, crosses, maps.crosses, sendable) depth 20

node_send : IsSend node.the_row
node_send = recorded_send (node.the_field).row _ _ (node.the_type).to_one node_field_send

node_sync : IsSync node.the_row
node_sync = recorded_sync (node.the_field).row _ _ (node.the_type).to_one node_field_sync

shared_send : IsSend shared.the_row
shared_send = search (node_field_send, node_send, crosses, maps.crosses, sendable) depth 20

shared_sync : IsSync shared.the_row
shared_sync = search (node_field_sync, node_sync, crosses, maps.crosses, sendable) depth 20

plan_send : IsSend plan.the_row
plan_send = search (shared_send, crosses, maps.crosses, sendable) depth 20

plan_sync : IsSync plan.the_row
plan_sync = search (shared_sync, crosses, maps.crosses, sendable) depth 20

past_files_send : IsSend past_files.the_row
past_files_send = search (files_send, files_sync, crosses, maps.crosses, sendable) depth 20

past_files_sync : IsSync past_files.the_row
past_files_sync = search (files_send, files_sync, crosses, maps.crosses, sendable) depth 20

past_send : IsSend past.the_row
past_send = search (past_files_send, past_files_sync, action_send, action_sync, crosses, maps.crosses, sendable) depth 20

past_sync : IsSync past.the_row
past_sync = search (past_files_send, past_files_sync, action_send, action_sync, crosses, maps.crosses, sendable) depth 20

pub replica_send : IsSend replica.the_row
replica_send = search (registers.the_send, cache_send, plan_send, past_send, crosses, maps.crosses, sendable) depth 20

pub replica_sync : IsSync replica.the_row
replica_sync = search (registers.the_sync, cache_sync, plan_sync, past_sync, crosses, maps.crosses, sendable) depth 20

pub snapshot_send : IsSend snapshot.the_row
snapshot_send = search (replica_send, sendable) depth 20

pub snapshot_sync : IsSync snapshot.the_row
snapshot_sync = search (replica_sync, sendable) depth 20
