use Rattle.std.proofs.Common.{◌≡◌, ◌++◌, map, length}
use Rattle.std.specs.Vec.Iter.{into_iter_items}
use Rattle.ws_report.specs.Reports.{id_row}
use Rattle.ws_replica.specs.Jobs.{place_seen}
use Rattle.ws_replica.specs.Stopped.{rows_from}
use Rattle.ws_replica.proofs.id_lines.lines.Given as goal

-- those so far, and those of what is left
abbrev pub invariant-loop-place : goal.invariant-loop-place
invariant-loop-place l =
    map id_row l.lines.items ++ rows_from l.board.state (length l.lines.items) (map place_seen (into_iter_items l.place-iterator)) ≡ rows_from l.board.state 0 (map place_seen l.fn.places.items)
