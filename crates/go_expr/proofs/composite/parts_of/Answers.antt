use Rattle.std.proofs.Common.{◌≡◌, List, ℕ, map, sym, ap, ◌∙◌, subst}
use Rattle.go_types.specs.Types.{Type', array, struct}
use Rattle.go_types.specs.Relations.{underlying}
use Rattle.go_types.specs.Views.{go_type, fields_in}
use Rattle.go_text.specs.declared.fault.FaultKind.TheVariants.{Mismatch}
use Rattle.go_typed.specs.Trees.{Expr}
use Rattle.go_typed.specs.Views.{part_view}
use Rattle.go_expr.specs.Known.{Verdict, Breaks}
use Rattle.go_expr.specs.Rules.{ElementList, listed, array_parts, struct_parts}
use Rattle.go_expr.specs.Views.{all_of, keyed_part, Gives}
use Rattle.go_expr.proofs.Nodes.{fields_listed}
use Rattle.go_expr.proofs.composite.parts_of.Goals as goal

abbrev of_type : List ℕ → ElementList → Type' → Verdict (List (ℕ × Expr))
of_type path es u = elim u [ array n of ↦ array_parts n of es | struct fs ↦ struct_parts path (listed fs) es | _ ↦ Breaks Mismatch ]

pub returns-in-Struct : goal.returns-in-Struct
returns-in-Struct c =
    let fields = c.in-Struct.fields in
    let path = c.args.path.now in
    let es = map keyed_part c.args.elements.items in
    let seen : underlying (go_type c.args.of.now) ≡ struct fields.value = sym c.underlying.ensures ∙ ap go_type c.in-Struct.is in
    let same : fields_in c.deref-in-Struct-2.result.now ≡ fields.value = ap fields_in c.deref-in-Struct-2.ensures.value ∙ c.behind-fields.view_is ∙ c.deref-in-Struct.ensures in
    let whole = ap (of_type path es) seen ∙ ap (λ fs. struct_parts path fs es) (ap listed (sym same) ∙ fields_listed c.deref-in-Struct-2.result.now) in
    subst (λ (v : Verdict (List (ℕ × Expr))). Gives (all_of part_view) c.struct_parts.result v) (sym whole) c.struct_parts.ensures
