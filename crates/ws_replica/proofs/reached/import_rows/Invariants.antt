use Rattle.std.proofs.Common.{◌≡◌, map, take}
use Rattle.ws_reach.specs.Reach.{rows_of}
use Rattle.ws_replica.specs.Jobs.{reached_of}
use Rattle.ws_replica.proofs.reached.import_rows.Given as goal

abbrev pub invariant-loop-one : goal.invariant-loop-one
invariant-loop-one l = rows_of l.rows.items ≡ map (λ r. r.imports) (map reached_of (take l.one-index l.reached))
