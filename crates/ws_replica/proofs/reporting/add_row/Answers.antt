use Rattle.std.proofs.Common.{◌≡◌, ◌≤◌, ◌∙◌, ◌++◌, ◌∷◌, [], Some, length, sym, ap, arith}
use Rattle.std.proofs.lemmas.List.{map-append}
use Rattle.std.specs.List.{slice_get}
use Rattle.ws_graph.proofs.Linked.{map_right}
use Rattle.ws_report.specs.Reports.{row, verdict_rows}
use Rattle.ws_replica.proofs.PartSteps.{row_none, row_some, rows_past}
use Rattle.ws_replica.proofs.reporting.add_row.Goals as goal

pub returns-then-number-count : goal.returns-then-number-count
returns-then-number-count c =
    let past : length c.args.told.now ≤ c.args.number = omega (arith, c.if-number-count.true) in
    row_none (slice_get (verdict_rows c.args.told.now)) c.args.number (verdict_rows c.args.picked.now.items) (rows_past c.args.told.now c.args.number past)

pub returns : goal.returns
returns c =
    let more : verdict_rows c.push.new.self.items ≡ verdict_rows c.args.picked.now.items ++ row c.in_ok-copy.copy ∷ [] = ap verdict_rows c.in_ok-push.ensures.items ∙ map-append row c.args.picked.now.items (c.in_ok-copy.copy ∷ []) in
    row_some (slice_get (verdict_rows c.args.told.now)) c.args.number (row c.in_ok-copy.copy) (verdict_rows c.args.picked.now.items) (verdict_rows c.push.new.self.items)
    (map_right row c.args.told.now c.args.number c.row_at.result.now c.row_at.ensures ∙ ap Some (sym c.in_ok-copy.ensures)) more
