use Rattle.std.proofs.Common.{◌≡◌, ◌+◌, [], map, length, ap, arith}
use Rattle.std.proofs.lemmas.Grind.{common_steps}
use Rattle.std.specs.Vec.Iter.{into_iter_items}
use Rattle.ws_board.specs.Calls.{result_at}
use Rattle.ws_report.specs.Reports.{verdict_rows}
use Rattle.ws_replica.specs.Jobs.{place_seen}
use Rattle.ws_replica.proofs.Steps.{told_whole}
use Rattle.ws_replica.proofs.reporting.verdicts.Goals as goal

pub returns : goal.returns
returns c =
    let empty : into_iter_items c.loop-place.place-iterator ≡ [] = grind (arith, common_steps) in
    told_whole (result_at c.args.built.now) c.args.before (c.args.before + length c.loop-place.directories.items) (map place_seen (into_iter_items c.loop-place.place-iterator)) (map place_seen c.args.places.items) (verdict_rows c.loop-place.directories.items) (ap (map place_seen) empty) c.loop-place.invariant
