-- Several threads may use a shared board, and a worker may go to another thread: so may what they hold, type by type.
use denote.RattleType.{RattleType}
use denote.Struct.Declared as declared
use denote.Param.Send.{IsSend, IsSync, struct_sync, recorded_sync, sendable}
use Rattle.std.proofs.Crossing.{crosses}
use Rattle.std.specs.contracts.sync.Condvar as condvar
use Rattle.std.specs.contracts.sync.Mutex as mutex
use Rattle.ws_board.proofs.Crossing.{board_send}
use Rattle.ws_shared.specs.declared.tally.Desk.{Ghosts}
use Rattle.ws_shared.proofs.tally.Totals.TheSendSync as totals
use Rattle.ws_shared.proofs.tally.Shares.TheSendSync as shares
use Rattle.ws_shared.specs.contracts.locked.Locked as locked
use Rattle.ws_shared.specs.contracts.worker.Worker as hand
use Rattle.ws_shared.specs.contracts.board.SharedBoard as shared

locked_send : (L : RattleType) (g : Ghosts L.Denot) → IsSend (locked.the_row L g)
locked_send L g = search (board_send, totals.the_field_send, crosses, sendable) depth 30

mutex_sync : (R : RattleType) → IsSend R → IsSync (mutex.the_row R)
mutex_sync R s = search (crosses, sendable) depth 20

condvar_sync : IsSync (condvar.the_field).row
condvar_sync = search (crosses, sendable) depth 20

shared_field_sync : (L : RattleType) (g : Ghosts L.Denot) → IsSync (shared.the_field L g).row
shared_field_sync L g = struct_sync (declared.shape (shared.the_type L g)) (mutex_sync (locked.the_row L g) (locked_send L g), (condvar_sync, tt))

pub shared_sync : (L : RattleType) (g : Ghosts L.Denot) → IsSync (shared.the_row L g)
shared_sync L g = recorded_sync (shared.the_field L g).row _ _ (shared.the_type L g).to_one (shared_field_sync L g)

pub hand_send : (L : RattleType) (g : Ghosts L.Denot) → IsSend (hand.the_row L g)
hand_send L g = search (shares.the_field_send, crosses, sendable) depth 30
