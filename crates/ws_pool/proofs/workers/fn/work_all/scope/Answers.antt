use mir.Syntax.{named}
use denote.Exit as exit
use denote.Param.{param}
use denote.Param.Send.{param_send, arg_send, shr_send, mut_send, sendable}
use Rattle.std.proofs.Common.{◌≡◌, None}
use Rattle.ws_shared.proofs.Crossing.{shared_sync, hand_send}
use Rattle.ws_pool.proofs.Captures.{four_send}
use Rattle.ws_pool.proofs.Rest.{All-behind}
use Rattle.ws_pool.proofs.workers.fn.work_all.scope.Goals as goal

-- the closure captures the runtime, the board, the worker and the gate
pub spawn_scoped-thread-requires-send-F : goal.spawn_scoped-thread-requires-send-F
spawn_scoped-thread-requires-send-F g c κs within =
    let L = param 0 g.row.L in
    let sync_G = c.requires-raw.1.1.1.1.1.0 in
    let sync_R = c.requires-raw.1.1.1.1.1.1.0 in
    param_send _ _ (arg_send _ exit.no _ (four_send _ _ _ _ _
    (shr_send (named 5) _ _ sync_R) (shr_send (named 6) _ _ (shared_sync L g.L.Desk)) (mut_send (named 7) _ _ (hand_send L g.L.Desk)) (shr_send (named 8) _ _ sync_G)))

-- the worker runs nothing, and what its thread shares with the others may go there
pub spawn_scoped-thread-requires-after_bounds : goal.spawn_scoped-thread-requires-after_bounds
spawn_scoped-thread-requires-after_bounds g c κs within =
    let send_L = c.requires-raw.1.1.1.0 in
    let sync_L = c.requires-raw.1.1.1.1.0 in
    let sync_G = c.requires-raw.1.1.1.1.1.0 in
    let sync_R = c.requires-raw.1.1.1.1.1.1.0 in (
      All-behind (λ hand. hand.runs ≡ None) c.captures.hands.now c.in-Some.others.now c.in-Some.first.now c.others-item.result c.loop-hand.hand-index
          c.requires c.in-Some.ensures.cases.0 c.loop-hand-test.true c.others-item.is,
      (search sendable, search sendable, search sendable, search sendable),
    )
