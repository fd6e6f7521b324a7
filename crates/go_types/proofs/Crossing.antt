-- A type may go to another thread, and be read by several: so may what it holds, part by part.
use denote.Param.Send.{IsSend, IsSync, recorded_send, recorded_sync, sendable}
use Rattle.std.proofs.Crossing.{crosses}
use Rattle.go_types.proofs.types.Basic.TheSendSync as basics
use Rattle.go_types.proofs.types.Size.TheSendSync as sizes
use Rattle.go_types.proofs.types.Element.TheLaws.TheKnot as laws
use Rattle.go_types.specs.contracts.types.Element.TheKnot as knot
use Rattle.go_types.specs.contracts.types.GoType as go_type

element_send : IsSend knot.hole-Element
element_send = search (laws.crosses, basics.the_send, sizes.the_send, crosses, sendable) depth 30 fits 30000

fields_send : IsSend knot.hole-Fields
fields_send = search (laws.crosses, basics.the_send, sizes.the_send, crosses, sendable) depth 30 fits 30000

named_send : IsSend knot.hole-Named
named_send = search (laws.crosses, basics.the_send, sizes.the_send, crosses, sendable) depth 30 fits 30000

element_sync : IsSync knot.hole-Element
element_sync = search (laws.crosses, basics.the_send, sizes.the_send, basics.the_sync, sizes.the_sync, crosses, sendable) depth 30 fits 30000

fields_sync : IsSync knot.hole-Fields
fields_sync = search (laws.crosses, basics.the_send, sizes.the_send, basics.the_sync, sizes.the_sync, crosses, sendable) depth 30 fits 30000

named_sync : IsSync knot.hole-Named
named_sync = search (laws.crosses, basics.the_send, sizes.the_send, basics.the_sync, sizes.the_sync, crosses, sendable) depth 30 fits 30000

pub type_field_send : IsSend (go_type.the_field).row
type_field_send = search (element_send, fields_send, named_send, element_sync, fields_sync, named_sync, basics.the_field_send, crosses, sendable) depth 30 fits 30000

pub type_field_sync : IsSync (go_type.the_field).row
type_field_sync = search (element_send, fields_send, named_send, element_sync, fields_sync, named_sync, basics.the_field_sync, crosses, sendable) depth 30 fits 30000

pub type_send : IsSend go_type.the_row
type_send = recorded_send (go_type.the_field).row _ _ (go_type.the_type).to_one type_field_send

pub type_sync : IsSync go_type.the_row
type_sync = recorded_sync (go_type.the_field).row _ _ (go_type.the_type).to_one type_field_sync
