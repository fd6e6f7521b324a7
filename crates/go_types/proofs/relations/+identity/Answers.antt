use Rattle.std.proofs.Common.{◌≡◌, List, [], ◌∷◌, length, refl, ap, sym, rules, ◌∙◌}
use Rattle.std.specs.Prelude.{◌==◌}
use Rattle.std.proofs.lemmas.List.{drop_all}
use Rattle.go_types.specs.declared.types.Field.{Field}
use Rattle.go_types.specs.Types.{no_fields}
use Rattle.go_types.specs.Views.{fields_in}
use Rattle.go_types.specs.Relations.{all_identical}
use Rattle.go_types.proofs.relations.+identity.Goals as goal

none_left : (others : List Field) → (length others == 0) ≡ all_identical no_fields (fields_in others)
none_left [] = refl
none_left (f ∷ others) = search rules

pub all_identical-returns : goal.all_identical-returns
all_identical-returns t c =
    let others = c.loop-field.others.now in
    c.is_empty.ensures ∙ none_left others ∙ ap (λ (l : List Field). all_identical (fields_in l) (fields_in others)) (sym (drop_all c.loop-field.field-index c.args.a.now c.loop-field-test.false)) ∙ c.loop-field.invariant
