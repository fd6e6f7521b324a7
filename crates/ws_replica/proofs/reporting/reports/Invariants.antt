use Rattle.std.proofs.Common.{◌≡◌, ℕ, List, ◌++◌, map}
use Rattle.std.specs.List.{All, count_by}
use Rattle.std.specs.Vec.Iter.{into_iter_items}
use Rattle.ws_board.specs.Calls.{result_at}
use Rattle.ws_board.specs.Machine.{is_finish}
use Rattle.ws_report.specs.Reports.{DirectoryVerdict}
use Rattle.ws_replica.specs.Jobs.{all_places_of, report_rows, AllAreVerdicts}
use Rattle.ws_replica.proofs.reporting.reports.Given as goal

-- what is said of the plans that are left completes what was said, and each report has the count
abbrev pub invariant-loop-places : goal.invariant-loop-places
invariant-loop-places l =
    ((tail : List (List (List ℕ × DirectoryVerdict))) → AllAreVerdicts (result_at l.built) l.before (all_places_of (into_iter_items l.places-iterator)) tail
    → AllAreVerdicts (result_at l.built) 0 (all_places_of l.fn.all.items) (map report_rows l.reports.items ++ tail))
    × All (λ r. r.compiled ≡ count_by is_finish l.built.history) l.reports.items
