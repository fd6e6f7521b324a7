use Rattle.std.proofs.Common.{rules, ◌≡◌, ◌≢◌, ◌<◌, ◌≤◌, length, arith}
use Rattle.std.specs.Arc.{arc_value}
use Rattle.std.specs.List.{Contains}
use Rattle.std.proofs.lemmas.List.Elements.{All-contains}
use Rattle.go_export.specs.Summaries.{Summary}
use Rattle.ws_action.proofs.Mapped.{All-mapped, Contains-mapped}
use Rattle.ws_action.proofs.Walks.{one_more, of_all}
use Rattle.ws_action.proofs.same_edition.are_told_in.Goals as goal

pub returns-then-ne-clause-other : goal.returns-then-ne-clause-other
returns-then-ne-clause-other c = λ all.
    let among : Contains c.args.summaries.now c.summary-item.result = search rules in
    let other : (arc_value {X = Summary} c.summary-item.result).edition ≢ c.args.edition = search rules in
    other (All-contains (λ (s : Summary). s.edition ≡ c.args.edition) _ (arc_value c.summary-item.result) all (Contains-mapped arc_value c.args.summaries.now c.summary-item.result among))

pub loop-summary-preserved : goal.loop-summary-preserved
loop-summary-preserved c =
    let within : c.loop-summary.summary-index < length c.args.summaries.now = omega arith in
    let here : (arc_value {X = Summary} c.summary-item.result).edition ≡ c.args.edition = search rules in
    one_more (λ s. (arc_value {X = Summary} s).edition ≡ c.args.edition) c.args.summaries.now c.loop-summary.summary-index c.summary-item.result within c.summary-item.is c.loop-summary.invariant here

pub returns-clause-are : goal.returns-clause-are
returns-clause-are c =
    let over : length c.args.summaries.now ≤ c.loop-summary.summary-index = omega arith in
    All-mapped (λ (s : Summary). s.edition ≡ c.args.edition) arc_value c.args.summaries.now
    (of_all (λ s. (arc_value {X = Summary} s).edition ≡ c.args.edition) c.args.summaries.now c.loop-summary.summary-index over c.loop-summary.invariant)
