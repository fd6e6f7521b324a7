-- A cache may go to another thread, and be read by several: so may what it holds, type by type.
use denote.Param.Send.{IsSend, IsSync, recorded_send, recorded_sync, sendable}
use Rattle.std.proofs.Crossing.{crosses}
use Rattle.std.proofs.MapsCrossing as maps
use Rattle.go_text.proofs.fault.Fault.TheSendSync as faults
use Rattle.go_packed.proofs.packed.Packed.TheSendSync as packed
use Rattle.go_export.proofs.Crossing.{summary_send, summary_sync}
use Rattle.ws_action.proofs.Crossing.{origin_send, origin_sync}
use Rattle.ws_cache.proofs.layers.Layers.TheSendSync as layers
use Rattle.ws_cache.specs.contracts.Outcome as outcome
use Rattle.ws_cache.specs.contracts.Entry as entry
use Rattle.ws_cache.specs.contracts.Cache as cache

outcome_field_send : IsSend (outcome.the_field).row
outcome_field_send = search (summary_send, summary_sync, packed.the_send, packed.the_sync, faults.the_send, crosses, maps.crosses, sendable) depth 20

outcome_field_sync : IsSync (outcome.the_field).row
outcome_field_sync = search (summary_send, summary_sync, packed.the_send, packed.the_sync, faults.the_sync, crosses, maps.crosses, sendable) depth 20

outcome_send : IsSend outcome.the_row
outcome_send = recorded_send (outcome.the_field).row _ _ (outcome.the_type).to_one outcome_field_send

outcome_sync : IsSync outcome.the_row
outcome_sync = recorded_sync (outcome.the_field).row _ _ (outcome.the_type).to_one outcome_field_sync

pub entry_send : IsSend entry.the_row
entry_send = search (origin_send, origin_sync, outcome_field_send, outcome_send, crosses, maps.crosses, sendable) depth 20

pub entry_sync : IsSync entry.the_row
entry_sync = search (origin_send, origin_sync, outcome_field_sync, outcome_sync, crosses, maps.crosses, sendable) depth 20

-- what owners share has to be both
pub cache_send : IsSend cache.the_row
cache_send = search (layers.the_send, entry_send, entry_sync, crosses, maps.crosses, sendable) depth 20

pub cache_sync : IsSync cache.the_row
cache_sync = search (layers.the_sync, entry_send, entry_sync, crosses, maps.crosses, sendable) depth 20
