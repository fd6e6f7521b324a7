use Rattle.std.proofs.Common.{rules, ◌≡◌, ◌+◌, ◌∷◌, ◌++◌, map, drop, get_or, sym, ap, ◌∙◌, arith}
use Rattle.std.proofs.lemmas.Grind.{common_steps}
use Rattle.std.proofs.lemmas.List.{drop_more}
use Rattle.std.specs.Arc.{arc_value}
use Rattle.go_link.specs.Links.{variables}
use Rattle.go_link.specs.Named.{held_at}
use Rattle.go_link.proofs.Firsts.{variables_more}
use Rattle.go_link.proofs.places.collect_places.Goals as goal

pub loop-object-preserved : goal.loop-object-preserved
loop-object-preserved c =
    let i = c.loop-object.object-index in
    let same : c.deref.result.now ≡ arc_value (get_or c.args.packages.now i c.object-item.result) = search rules in
    let step = drop_more c.args.packages.now i c.object-item.result c.loop-object-test.true in
    variables_more (map held_at c.loop-object.all.items) (map held_at c.push_variables.new.found.items) c.deref.result.now (map arc_value (drop (i + 1) c.args.packages.now)) (map arc_value c.args.packages.now)
    c.in_ok-push_variables.ensures
    (ap (λ o. map held_at c.loop-object.all.items ++ variables (o ∷ map arc_value (drop (i + 1) c.args.packages.now))) same
    ∙ ap (λ l. map held_at c.loop-object.all.items ++ variables (map arc_value l)) (sym step)
    ∙ c.loop-object.invariant)

pub returns : goal.returns
returns c = grind (arith, common_steps)
