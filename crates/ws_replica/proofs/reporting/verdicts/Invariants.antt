use Rattle.std.proofs.Common.{ℕ, ◌+◌, List, ◌++◌, map, length}
use Rattle.std.specs.Vec.Iter.{into_iter_items}
use Rattle.ws_board.specs.Calls.{result_at}
use Rattle.ws_report.specs.Reports.{DirectoryVerdict, verdict_rows}
use Rattle.ws_replica.specs.Jobs.{place_seen, AreVerdicts}
use Rattle.ws_replica.proofs.reporting.verdicts.Given as goal

-- what is said of what is left completes what was said
abbrev pub invariant-loop-place : goal.invariant-loop-place
invariant-loop-place l =
    (tail : List (List ℕ × DirectoryVerdict)) → AreVerdicts (result_at l.built) (l.before + length l.directories.items) (map place_seen (into_iter_items l.place-iterator)) tail
    → AreVerdicts (result_at l.built) l.before (map place_seen l.fn.places.items) (verdict_rows l.directories.items ++ tail)
