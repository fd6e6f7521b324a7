use Rattle.std.proofs.Common.{rules, ◌≡◌, ◌≢◌, ◌<◌, ◌≤◌, length, arith, sym, ◌∙◌}
use Rattle.std.specs.Arc.{arc_value}
use Rattle.go_export.specs.Summaries.{Summary}
use Rattle.ws_action.proofs.ImportPaths.{shared_paths}
use Rattle.ws_action.proofs.Walks.{same_more, same_all, other_at}
use Rattle.ws_action.proofs.import.are_paths.Goals as goal

pub returns-then-ne-clause-other : goal.returns-then-ne-clause-other
returns-then-ne-clause-other c = λ e.
    let summaries = c.args.summaries.now in
    let paths = c.args.paths.now in
    let within : c.loop-i.i < length summaries = omega arith in
    let within_paths : c.loop-i.i < length paths = omega arith in
    let other : (arc_value {X = Summary} c.index-summaries-i.result).path ≢ c.index-paths-i.result.items = search rules in
    other_at (λ s. (arc_value {X = Summary} s).path) (λ p. p.items) summaries paths c.loop-i.i c.index-summaries-i.result c.index-paths-i.result within within_paths c.index-summaries-i.is c.index-paths-i.is other
    (sym (shared_paths summaries) ∙ e)

pub loop-i-preserved : goal.loop-i-preserved
loop-i-preserved c =
    let summaries = c.args.summaries.now in
    let paths = c.args.paths.now in
    let within : c.loop-i.i < length summaries = omega arith in
    let within_paths : c.loop-i.i < length paths = omega arith in
    let same : (arc_value {X = Summary} c.index-summaries-i.result).path ≡ c.index-paths-i.result.items = search rules in
    same_more (λ s. (arc_value {X = Summary} s).path) (λ p. p.items) summaries paths c.loop-i.i c.index-summaries-i.result c.index-paths-i.result within within_paths c.index-summaries-i.is c.index-paths-i.is same c.loop-i.invariant

pub returns-clause-same : goal.returns-clause-same
returns-clause-same c =
    let summaries = c.args.summaries.now in
    let paths = c.args.paths.now in
    let over : length summaries ≤ c.loop-i.i = omega arith in
    let over_paths : length paths ≤ c.loop-i.i = omega arith in
    shared_paths summaries ∙ same_all (λ s. (arc_value {X = Summary} s).path) (λ p. p.items) summaries paths c.loop-i.i over over_paths c.loop-i.invariant
