use Rattle.std.proofs.Common.{◌≡◌, true, List, [], ◌∷◌, Option, map, refl, sym, ap, ◌∙◌}
use Rattle.std.specs.List.{zip, list_all}
use Rattle.std.specs.Option.{option_map}
use Rattle.std.proofs.lemmas.List.{drop_all}
use Rattle.go_types.specs.Types.{Type'}
use Rattle.go_types.specs.Views.{go_type}
use Rattle.go_stmt.specs.Rules.{takes}
use Rattle.go_stmt.proofs.values.all_take.Goals as goal

none_left : (due : List (Option Type')) → list_all takes (zip due []) ≡ true
none_left [] = refl
none_left (t ∷ ts) = refl

pub returns : goal.returns
returns c =
    let due = map (option_map go_type) c.loop-of.rest.now in
    sym (ap (λ l. list_all takes (zip due (map go_type l))) (drop_all c.loop-of.of-index c.args.results.now c.loop-of-test.false) ∙ none_left due) ∙ c.loop-of.invariant
