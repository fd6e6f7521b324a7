use Rattle.std.proofs.Common.{◌≡◌, [], sym, ap, ◌∙◌}
use Rattle.go_types.specs.Types.{Type', struct}
use Rattle.go_types.specs.Relations.{underlying}
use Rattle.go_types.specs.Views.{go_type, fields_in}
use Rattle.go_expr.specs.Rules.{FieldList, listed}
use Rattle.go_expr.proofs.Nodes.{fields_listed}
use Rattle.go_expr.proofs.selector.fields_of.Goals as goal

abbrev in_struct : Type' → FieldList
in_struct u = elim u [ struct fs ↦ listed fs | _ ↦ [] ]

pub returns-in-Struct : goal.returns-in-Struct
returns-in-Struct c =
    let fields = c.in-Struct.fields in
    let seen : underlying (go_type c.args.of.now) ≡ struct fields.value = sym c.underlying.ensures ∙ ap go_type c.in-Struct.is in
    let same : fields_in c.deref-in-Struct.result.now ≡ fields.value = ap fields_in c.deref-in-Struct.ensures.value ∙ c.behind-fields.view_is ∙ c.deref.ensures in
    sym (fields_listed c.deref-in-Struct.result.now) ∙ ap listed same ∙ ap in_struct (sym seen)
