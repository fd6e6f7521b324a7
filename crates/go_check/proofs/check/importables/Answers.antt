use Rattle.std.proofs.Common.{rules, ◌≡◌, ◌∷◌, map, take, length, sym, ap, ◌∙◌}
use Rattle.std.proofs.lemmas.List.{length_push}
use Rattle.std.proofs.lemmas.Slice.Zip.{zip_turn}
use Rattle.std.specs.Arc.{arc_value}
use Rattle.std.specs.Iterator.Adapters.{zip_first, zip_second}
use Rattle.std.specs.Slice.Iter.{iter_rest}
use Rattle.go_expr.specs.Views.{names_of}
use Rattle.go_export.specs.Summaries.{Summary}
use Rattle.go_check.specs.Names.{importable_by}
use Rattle.go_package.specs.declared.import.Importable.{Importable}
use Rattle.go_check.specs.Checked.{fmt}
use Rattle.go_check.proofs.Importables.{named_at, seen, pushed, next_of}
use Rattle.go_check.proofs.check.importables.Goals as goal

pub loop-summary-preserved : goal.loop-summary-preserved
loop-summary-preserved c =
    let summaries = c.args.imports.now in
    let exports = c.args.exports.now in
    let k = length c.loop-summary.yielded in
    let first : iter_rest (zip_first c.into_iter-summary-iterator.result) ≡ summaries =
    ap (λ z. iter_rest (zip_first z)) c.into_iter-summary-iterator.ensures.into_iter_gives ∙ (ap iter_rest c.zip-summary-items.ensures.first ∙ c.iter.ensures.rest) in
    let second : iter_rest (zip_second c.into_iter-summary-iterator.result) ≡ exports =
    ap (λ z. iter_rest (zip_second z)) c.into_iter-summary-iterator.ensures.into_iter_gives ∙ c.zip-summary-items.ensures.second.0 in
    let turn = zip_turn summaries exports c.loop-summary.yielded c.into_iter-summary-iterator.result c.loop-summary.summary-iterator c.next.new.self c.next.result first second c.loop-summary.yielded_by (c.in-Some.summary, c.in-Some.exports) c.in-Some.is c.next.ensures.steps in
    let summary : Summary = arc_value c.in-Some.summary.now in
    let x : Importable = record { path = c.path.result; name = c.package.result; exports = c.in-Some.exports } in
    let path : c.path.result.now ≡ summary.path = search rules in
    let name : c.package.result.now ≡ summary.«package» = search rules in
    let named = named_at names_of summaries exports c.requires.exports k c.in-Some.exports.now c.in-Some.summary.now turn.1 turn.0 (turn.3 _) (turn.2 _) in
    pushed c.loop-summary.all.items c.push-in-loop-summary.new.self.items x (importable_by summary) _ _ c.in_ok-push-2.ensures.items (seen x summary path name named) c.loop-summary.invariant
    (next_of summaries k c.in-Some.summary.now turn.0 (turn.2 _)
    ∙ ap (λ i. fmt ∷ map importable_by (map arc_value (take i summaries))) (sym (length_push c.loop-summary.yielded (c.in-Some.summary, c.in-Some.exports))))
