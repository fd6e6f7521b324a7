use denote.Exit as exit
use denote.Param.Send.{param_send, arg_send, shr_send, array_sync}
use Rattle.std.proofs.Crossing.{sync}
use Rattle.ws_replica.proofs.Crossing.{snapshot_sync}
use Rattle.workspace_tests.proofs.Captures.{four_send}
use Rattle.workspace_tests.proofs.snapshots.Held.TheSendSync as held
use Rattle.workspace_tests.proofs.snapshots.builds_beside_edit.Goals as goal

-- the closure captures the runtime, the allocator, the snapshots and the gate
pub join-requires-send-F : goal.join-requires-send-F
join-requires-send-F g c κs within =
    param_send _ _ (arg_send _ exit.no _ (four_send _ _ _ _ _
    (shr_send _ _ _ c.type_bounds.sync-R) (shr_send _ _ _ sync) (shr_send _ _ _ (array_sync _ _ snapshot_sync)) (shr_send _ _ _ held.the_sync)))
