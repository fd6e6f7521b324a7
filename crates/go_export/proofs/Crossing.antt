-- A summary may go to another thread, and be read by several: so may what it holds.
use denote.Param.Send.{IsSend, IsSync, recorded_send, recorded_sync, sendable}
use Rattle.std.proofs.Crossing.{crosses}
use Rattle.std.proofs.MapsCrossing as maps
use Rattle.go_const.proofs.constant.Const.TheSendSync as constants
use Rattle.go_types.proofs.Crossing.{type_field_send, type_field_sync, type_send, type_sync}
use Rattle.go_export.specs.contracts.export.Export as export
use Rattle.go_export.specs.contracts.summary.Summary as summary

export_field_send : IsSend (export.the_field).row
export_field_send = search (type_field_send, type_send, constants.the_field_send, crosses, sendable) depth 30 fits 30000

export_field_sync : IsSync (export.the_field).row
export_field_sync = search (type_field_sync, type_sync, constants.the_field_sync, crosses, sendable) depth 30 fits 30000

export_send : IsSend export.the_row
export_send = recorded_send (export.the_field).row _ _ (export.the_type).to_one export_field_send

export_sync : IsSync export.the_row
export_sync = recorded_sync (export.the_field).row _ _ (export.the_type).to_one export_field_sync

pub summary_send : IsSend summary.the_row
summary_send = search (export_send, crosses, maps.crosses, sendable) depth 30 fits 30000

pub summary_sync : IsSync summary.the_row
summary_sync = search (export_sync, crosses, maps.crosses, sendable) depth 30 fits 30000
