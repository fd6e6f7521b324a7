-- An action may go to another thread, and be read by several, and so may what is kept of it.
use denote.Param.Send.{IsSend, IsSync, sendable}
use Rattle.std.proofs.Crossing.{crosses}
use Rattle.std.proofs.MapsCrossing as maps
use Rattle.go_text.proofs.source.Source.TheSendSync as sources
use Rattle.go_ast.proofs.Crossing.{parsed_send, parsed_sync}
use Rattle.go_export.proofs.Crossing.{summary_send, summary_sync}
use Rattle.ws_action.specs.contracts.Action as action
use Rattle.ws_action.specs.contracts.files.Files as files
use Rattle.ws_action.specs.contracts.origin.Origin as origin

pub files_send : IsSend files.the_row
files_send = search (parsed_send, crosses, maps.crosses, sendable) depth 20

pub files_sync : IsSync files.the_row
files_sync = search (parsed_sync, crosses, maps.crosses, sendable) depth 20

pub action_send : IsSend action.the_row
action_send = search (files_send, files_sync, summary_send, summary_sync, crosses, maps.crosses, sendable) depth 20

pub action_sync : IsSync action.the_row
action_sync = search (files_send, files_sync, summary_send, summary_sync, crosses, maps.crosses, sendable) depth 20

pub origin_send : IsSend origin.the_row
origin_send = search (sources.the_send, sources.the_sync, summary_send, summary_sync, crosses, maps.crosses, sendable) depth 20

pub origin_sync : IsSync origin.the_row
origin_sync = search (sources.the_send, sources.the_sync, summary_send, summary_sync, crosses, maps.crosses, sendable) depth 20
