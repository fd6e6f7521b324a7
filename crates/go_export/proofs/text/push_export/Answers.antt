use Rattle.std.proofs.Common.{◌≡◌, ℕ, List, ◌++◌, map, codes, OnOk, ap, sym, ◌∙◌, subst}
use Rattle.go_export.specs.Fields.{field}
use Rattle.go_types.specs.Texts.{type_text}
use Rattle.go_types.specs.Views.{go_type}
use Rattle.go_export.specs.Summaries.{value_text, types_text, export_text}
use Rattle.go_export.specs.Views.{export_of}
use Rattle.go_export.proofs.Behind.{two, three}
use Rattle.go_export.proofs.text.push_export.Goals as goal

pub returns-in_ok-push_type-in-Constant : goal.returns-in_ok-push_type-in-Constant
returns-in_ok-push_type-in-Constant c =
    let result = c.push_value.result in
    let text = c.push_value.new.text.items in
    let of = field (type_text (go_type c.in-Constant.of)) in
    let value = field (value_text c.in-Constant.value) in
    subst (λ (l : List ℕ). OnOk result (text ≡ l))
    (three c.args.text.now.items c.push_field.new.text.items c.push_type.new.text.items (field (codes "C")) of value c.in_ok-push_field-in-Constant.ensures c.in_ok-push_type-in-Constant.ensures
    ∙ ap (λ e. c.args.text.now.items ++ export_text (export_of e)) (sym c.in-Constant.is))
    c.push_value.ensures

pub returns-in_ok-push_field-in-Variable : goal.returns-in_ok-push_field-in-Variable
returns-in_ok-push_field-in-Variable c =
    let result = c.push_type-in-Variable.result in
    let text = c.push_type-in-Variable.new.text.items in
    let of = field (type_text (go_type c.in-Variable.of)) in
    subst (λ (l : List ℕ). OnOk result (text ≡ l))
    (two c.args.text.now.items c.push_field-in-Variable.new.text.items (field (codes "V")) of c.in_ok-push_field-in-Variable.ensures
    ∙ ap (λ e. c.args.text.now.items ++ export_text (export_of e)) (sym c.in-Variable.is))
    c.push_type-in-Variable.ensures

pub returns-in_ok-push_types-in-Function : goal.returns-in_ok-push_types-in-Function
returns-in_ok-push_types-in-Function c =
    let result = c.push_types-in-Function.result in
    let text = c.push_types-in-Function.new.text.items in
    let before = c.push_field-in-Function.new.text.items in
    let given = c.deref.result.now in
    let given_back = c.deref-in-Function.result.now in
    let parameters = c.in-Function.parameters.items in
    let letter = field (codes "F") in
    subst (λ (l : List ℕ). OnOk result (text ≡ l))
    (three c.args.text.now.items before c.push_types.new.text.items letter (types_text (map go_type given)) (types_text (map go_type given_back))
    c.in_ok-push_field-in-Function.ensures c.in_ok-push_types-in-Function.ensures
    ∙ ap (λ l. c.args.text.now.items ++ ((letter ++ types_text (map go_type l)) ++ types_text (map go_type given_back))) c.deref.ensures.value
    ∙ ap (λ l. c.args.text.now.items ++ ((letter ++ types_text (map go_type parameters)) ++ types_text (map go_type l))) c.deref-in-Function.ensures.value
    ∙ ap (λ e. c.args.text.now.items ++ export_text (export_of e)) (sym c.in-Function.is))
    c.push_types-in-Function.ensures

pub returns-in_ok-push_field-in-Type : goal.returns-in_ok-push_field-in-Type
returns-in_ok-push_field-in-Type c =
    let result = c.push_type-in-Type.result in
    let text = c.push_type-in-Type.new.text.items in
    let of = field (type_text (go_type c.in-Type.of)) in
    subst (λ (l : List ℕ). OnOk result (text ≡ l))
    (two c.args.text.now.items c.push_field-in-Type.new.text.items (field (codes "T")) of c.in_ok-push_field-in-Type.ensures
    ∙ ap (λ e. c.args.text.now.items ++ export_text (export_of e)) (sym c.in-Type.is))
    c.push_type-in-Type.ensures
