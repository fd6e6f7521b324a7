use Rattle.std.proofs.Common.{◌≡◌, ◌<◌, take}
use Rattle.std.specs.Prelude.{◌^◌}
use Rattle.ws_board.specs.Rows.{import_count}
use Rattle.ws_board.proofs.rows.count_imports.Given as goal

abbrev pub invariant-loop-job : goal.invariant-loop-job
invariant-loop-job l = record { is : l.count ≡ import_count (take l.job-index l.jobs); fits : l.count < 2 ^ 64 }
