use Rattle.std.proofs.Common.{◌≡◌, Some, None, length, map, refl, sym, ap, ◌∙◌}
use Rattle.std.specs.Prelude.{position}
use Rattle.std.specs.List.{slice_get}
use Rattle.std.specs.Option.{option_map}
use Rattle.std.specs.Str.{bytes_eq}
use Rattle.std.proofs.lemmas.Option.{slice_get-map, slice_get_past, slice_get_read}
use Rattle.go_expr.specs.Fields.{typed_field}
use Rattle.go_expr.specs.Rules.{field_names}
use Rattle.go_expr.proofs.Named.{none_named, one_named, past_named}
use Rattle.go_expr.proofs.fields.field_by.Goals as goal

pub returns-in_default : goal.returns-in_default
returns-in_default c =
    let x = c.args.name.now in
    let fs = map typed_field c.args.fields.now in
    let none : position (bytes_eq x) (field_names fs) ≡ None = ap (position (bytes_eq x)) (sym c.requires) ∙ sym c.get.ensures ∙ c.in_default.is in
    sym (none_named x fs none)

pub returns-in-Some-get : goal.returns-in-Some-get
returns-in-Some-get c =
    let x = c.args.name.now in
    let fs = map typed_field c.args.fields.now in
    let n = c.in-Some.number in
    let is : position (bytes_eq x) (field_names fs) ≡ Some n = ap (position (bytes_eq x)) (sym c.requires) ∙ sym c.get.ensures ∙ c.in-Some.is in
    let f = c.in-Some-get.field.now in
    let at : slice_get c.args.fields.now n ≡ Some f =
    slice_get_read c.args.fields.now (length c.args.fields.now) n f refl c.in-Some-get.ensures.lookup.3.0 c.in-Some-get.ensures.lookup.1 in
    sym (one_named x fs n (typed_field f) is (slice_get-map typed_field c.args.fields.now n ∙ ap (option_map typed_field) at))

pub returns-in-None : goal.returns-in-None
returns-in-None c =
    let x = c.args.name.now in
    let fs = map typed_field c.args.fields.now in
    let n = c.in-Some.number in
    let is : position (bytes_eq x) (field_names fs) ≡ Some n = ap (position (bytes_eq x)) (sym c.requires) ∙ sym c.get.ensures ∙ c.in-Some.is in
    let past : slice_get c.args.fields.now n ≡ None = slice_get_past c.args.fields.now n c.in-None.ensures.lookup.3 in
    sym (past_named x fs n is (slice_get-map typed_field c.args.fields.now n ∙ ap (option_map typed_field) past))
