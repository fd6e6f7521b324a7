use Rattle.std.proofs.Common.{◌≡◌, ℕ, Option, Some, None, Result, Ok, Err, sym, ap, ◌∙◌, subst}
use Rattle.std.specs.Option.{option_map}
use Rattle.std.specs.Result.{OnOk}
use Rattle.go_types.specs.Types.{Type'}
use Rattle.go_types.specs.Views.{go_type}
use Rattle.go_typed.specs.Trees.{Expr}
use Rattle.go_typed.specs.Views.{as_expr, part_view}
use Rattle.go_expr.specs.Known.{Verdict, Fine, Passed}
use Rattle.go_expr.specs.Rules.{assigned, checked}
use Rattle.go_expr.specs.Views.{Gives, keyed_part, slots_of}
use Rattle.go_expr.proofs.Gathering.{gathers}
use Rattle.go_expr.proofs.composite.add_element.Goals as goal

under : {E P Q R S : Type 0} (r : Result (Unit {0}) E) → OnOk r P → OnOk r Q → OnOk r R → (P → Q → R → S) → OnOk r S
under (Ok u) p q r f = f p q r
under (Err e) p q r f = tt

abbrev part_in : Expr → Option (ℕ × Type') → Verdict (ℕ × Expr)
part_in e o = elim o [ None ↦ Passed | Some p ↦ checked (λ x. Fine (p.0, x)) (assigned p.1 e) ]

pub returns : goal.returns
returns c =
    let e = as_expr c.args.element.value in
    let s = c.in-Some.slot in
    let there : slots_of c.args.slots.now c.args.number (keyed_part c.args.element).0 ≡ Some (s.0, go_type s.1.now) =
    sym c.slot.ensures ∙ ap (option_map (λ p. (p.0, go_type p.1.now))) c.in-Some.is in
    let given = subst (λ (t : Type'). Gives as_expr c.assigned.result (assigned t e)) c.in_ok-of.ensures c.assigned.ensures in
    let told = subst (λ (v : Verdict (ℕ × Expr)). Gives part_view c.part.result v) (sym (ap (part_in e) there)) (c.part.ensures.answer (assigned (go_type s.1.now) e) given) in
    under c.add.result c.add.ensures.given c.add.ensures.values c.add.ensures.fault (λ some m f. gathers part_view c.args.all.now c.add.new.self _ c.part.result m f told some)
