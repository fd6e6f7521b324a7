use Rattle.std.proofs.Common.{rules, ◌<◌, ◌≤◌, length, arith}
use Rattle.std.specs.Arc.{arc_value}
use Rattle.go_export.specs.Summaries.{Summary}
use Rattle.go_export.specs.Writable.{IsWritten}
use Rattle.ws_action.proofs.Mapped.{All-mapped}
use Rattle.ws_action.proofs.Walks.{one_more, of_all}
use Rattle.ws_action.proofs.see_written.Goals as goal

pub loop-summary-preserved : goal.loop-summary-preserved
loop-summary-preserved c =
    let within : c.loop-summary.summary-index < length c.args.imports.now = omega arith in
    let here : IsWritten (arc_value {X = Summary} c.summary-item.result) = search rules in
    one_more (λ s. IsWritten (arc_value {X = Summary} s)) c.args.imports.now c.loop-summary.summary-index c.summary-item.result within c.summary-item.is c.loop-summary.invariant here

pub returns : goal.returns
returns c =
    let over : length c.args.imports.now ≤ c.loop-summary.summary-index = omega arith in
    All-mapped IsWritten arc_value c.args.imports.now
    (of_all (λ s. IsWritten (arc_value {X = Summary} s)) c.args.imports.now c.loop-summary.summary-index over c.loop-summary.invariant)
