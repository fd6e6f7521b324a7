use Rattle.std.proofs.Common.{◌≡◌, [], map, ap, arith}
use Rattle.std.proofs.lemmas.Grind.{common_steps}
use Rattle.std.specs.Vec.Iter.{into_iter_items}
use Rattle.ws_board.specs.Calls.{result_at}
use Rattle.ws_replica.specs.Jobs.{all_places_of, report_rows}
use Rattle.ws_replica.proofs.TargetSteps.{all_told_whole}
use Rattle.ws_replica.proofs.reporting.reports.Goals as goal

pub returns-clause-verdicts : goal.returns-clause-verdicts
returns-clause-verdicts c =
    let empty : into_iter_items c.loop-places.places-iterator ≡ [] = grind (arith, common_steps) in
    all_told_whole (result_at c.args.built.now) c.loop-places.before (all_places_of (into_iter_items c.loop-places.places-iterator)) (all_places_of c.args.all.items) (map report_rows c.loop-places.reports.items) (ap all_places_of empty) c.loop-places.invariant.0
