use Rattle.std.proofs.Common.{◌≡◌, ℕ, Option, List, sym, ap, ◌∙◌}
use Rattle.std.specs.Option.{option_map}
use Rattle.go_types.specs.Types.{Type', array, slice, struct}
use Rattle.go_types.specs.Relations.{underlying}
use Rattle.go_types.specs.Views.{go_type, fields_in}
use Rattle.go_expr.specs.Rules.{FieldList, Due, taken, written, nothing, field_slot, listed}
use Rattle.go_expr.proofs.Nodes.{fields_listed}
use Rattle.go_expr.proofs.composite.element_due.Goals as goal

abbrev of_field : ℕ → Option (List ℕ) → FieldList → Due
of_field n key fs = written (option_map (λ p. p.1) (field_slot fs n key))

abbrev of_type : ℕ → Option (List ℕ) → Type' → Due
of_type n key u = elim u [ array m of ↦ taken of | slice of ↦ taken of | struct fs ↦ of_field n key (listed fs) | _ ↦ nothing ]

pub returns-in-Struct : goal.returns-in-Struct
returns-in-Struct c =
    let fields = c.in-Struct.fields in
    let n = c.args.number in
    let key = option_map (λ k. k.now) c.args.key in
    let seen : underlying (go_type c.in-Some.of.now) ≡ struct fields.value = sym c.underlying.ensures ∙ ap go_type c.in-Struct.is in
    let same : fields_in c.deref-in-Struct-2.result.now ≡ fields.value = ap fields_in c.deref-in-Struct-2.ensures.value ∙ c.behind-fields.view_is ∙ c.deref-in-Struct.ensures in
    let whole = ap (of_type n key) seen ∙ ap (of_field n key) (ap listed (sym same) ∙ fields_listed c.deref-in-Struct-2.result.now) in
    rw c.in-Some.is (ap written c.field_type.ensures ∙ sym whole)
