use Rattle.std.proofs.Common.{rules, ◌≡◌, ℕ, List, ◌++◌, map, ap, subst, ◌∙◌}
use Rattle.std.specs.Prelude.{codes}
use Rattle.std.specs.Arc.{arc_value}
use Rattle.std.specs.Fmt.{decimal}
use Rattle.go_text.specs.Editions.{edition_number}
use Rattle.go_export.specs.Fields.{field}
use Rattle.ws_action.specs.Actions.{Action, named_summary, list_text, action_text}
use Rattle.ws_action.proofs.Imports.{named_imports}
use Rattle.ws_action.proofs.Action.text.Goals as goal

-- the text part by part
in_parts : (a : Action) (t u v w x : List ℕ) → t ≡ field (codes "goset action") → u ≡ t ++ field (decimal (edition_number a.edition)) → v ≡ u ++ field a.path → w ≡ v ++ list_text a.files → x ≡ w ++ list_text a.imports → x ≡ action_text a
unfolding action_text
in_parts a t u v w x first second third fourth fifth =
    fifth ∙ ap (λ s. s ++ list_text a.imports) (fourth ∙ ap (λ s. s ++ list_text a.files) (third ∙ ap (λ s. s ++ field a.path) (second ∙ ap (λ s. s ++ field (decimal (edition_number a.edition))) first)))

pub returns : goal.returns
returns c =
    let before = c.push.new.text.items in
    let own = c.self.inside.imports.items in
    let fifth : c.push_parts.new.text.items ≡ before ++ list_text (map (λ s. named_summary (arc_value s)) own) = search rules in
    subst (λ a. c.push_parts.new.text.items ≡ action_text a) c.self.view_is
    (in_parts _ c.push_field.new.text.items c.push_field-2.new.text.items c.push_field-3.new.text.items before c.push_parts.new.text.items
    (search rules) (search rules) (search rules) (search rules) (fifth ∙ ap (λ ns. before ++ list_text ns) (named_imports own)))
