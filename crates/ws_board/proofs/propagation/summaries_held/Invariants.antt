use Rattle.std.proofs.Common.{◌+◌, ◌*◌, ◌≤◌, take, map}
use Rattle.std.specs.Arc.{arc_value}
use Rattle.std.specs.List.{All, AllZip}
use Rattle.go_export.specs.Writable.{IsWritten}
use Rattle.ws_board.specs.Machine.{JobHasSummary}
use Rattle.ws_board.specs.Propagation.{held_by}
use Rattle.ws_board.specs.Ends.{job_imports_at}
use Rattle.ws_board.specs.Table.{job_states_of}
use Rattle.ws_board.proofs.propagation.summaries_held.Given as goal

-- those of the imports so far
abbrev pub invariant-loop-number : goal.invariant-loop-number
invariant-loop-number l = record {
  are : AllZip (JobHasSummary (held_by l.holds) (job_states_of l.rows.rows)) (take l.number (job_imports_at l.rows.jobs.items l.job)) (map arc_value l.found.items);
  written : All IsWritten (map arc_value l.found.items);
  paid : l.looks ≤ l.fn.looks + 2 * l.number;
  more : l.fn.looks ≤ l.looks;
}
