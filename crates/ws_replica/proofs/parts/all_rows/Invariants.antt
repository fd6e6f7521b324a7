use Rattle.std.proofs.Common.{◌≡◌, map, take}
use Rattle.ws_replica.specs.Jobs.{all_reached_of}
use Rattle.ws_replica.specs.Parts.{reached_rows, all_rows_of}
use Rattle.ws_replica.proofs.parts.all_rows.Given as goal

abbrev pub invariant-loop-reached : goal.invariant-loop-reached
invariant-loop-reached l = all_rows_of l.rows.items ≡ map reached_rows (all_reached_of (take l.reached-index l.all))
