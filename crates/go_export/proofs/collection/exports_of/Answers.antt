use Rattle.std.proofs.Common.{◌≡◌, ◌++◌, map, IfOk, ap, ◌∙◌, subst}
use Rattle.go_typed.specs.Views.{constant_of, as_name, variable_of, as_function}
use Rattle.go_export.specs.Exports.{Exports, only_exported, named_constant, exported_type, named_variable, named_function, sorted_by_name, exports_of}
use Rattle.go_export.specs.Views.{all_exports}
use Rattle.go_export.proofs.Ordered.{gathered}
use Rattle.go_export.proofs.collection.exports_of.Goals as goal

pub returns : goal.returns
unfolding exports_of
returns c =
    let none = c.new-exports.result.items in
    let first = c.push_constants.new.exports.items in
    let second = c.push_types.new.exports.items in
    let third = c.push_variables.new.exports.items in
    let result = c.ordered.result in
    subst (λ (all : Exports). IfOk result (λ m. all_exports m.entries ≡ sorted_by_name all))
    (gathered _ _ _ _ (all_exports none) (all_exports first) (all_exports second) (all_exports third) (all_exports c.push_functions.new.exports.items) (ap all_exports c.new-exports.ensures.items)
    (c.in_ok-push_constants.ensures ∙ ap (λ l. all_exports none ++ only_exported (map named_constant (map constant_of l))) c.deref.ensures.value)
    (c.in_ok-push_types.ensures ∙ ap (λ l. all_exports first ++ only_exported (map exported_type (map as_name l))) c.deref-2.ensures.value)
    (c.in_ok-push_variables.ensures ∙ ap (λ l. all_exports second ++ only_exported (map named_variable (map variable_of l))) c.deref-3.ensures.value)
    (c.in_ok-push_functions.ensures ∙ ap (λ l. all_exports third ++ only_exported (map named_function (map as_function l))) c.deref-4.ensures.value))
    c.ordered.ensures
