use Rattle.std.proofs.Common.{◌≡◌, ℕ, ◌++◌, Some, None, List, map, refl, sym, ap, ◌∙◌, subst}
use Rattle.std.specs.Prelude.{bytes_eq}
use Rattle.std.specs.Map.{lookup}
use Rattle.std.specs.Option.{option_map}
use Rattle.go_text.specs.declared.edition.Edition.{Edition}
use Rattle.go_text.specs.declared.fault.FaultKind.TheVariants.{Undeclared, LeftOut}
use Rattle.go_types.specs.Types.{basic}
use Rattle.go_expr.specs.Known.{Known, declared, type', Verdict, Fine, Breaks, basic_types, left_out, slice_functions, others, universe}
use Rattle.go_expr.specs.Views.{known_of, AnswersAt}
use Rattle.go_expr.proofs.Lookups.{found_seen, found_first_or, found_later_or}
use Rattle.go_expr.proofs.universe.predeclared.Goals as goal

abbrev types : List (List ℕ × Verdict Known)
types = map (λ t. (t.0, Fine (declared (type' (basic t.1))))) basic_types

abbrev behind : Edition → List (List ℕ × Verdict Known)
behind e = map (λ x. (x, Breaks LeftOut)) left_out ++ (slice_functions e ++ others)

pub returns-in-Some : goal.returns-in-Some
unfolding universe
returns-in-Some c =
    let x = c.args.name.now in
    let here : lookup (bytes_eq x) types ≡ Some (Fine (declared (type' (basic c.in-Some.basic)))) =
    found_seen (bytes_eq x) (λ k. k) (λ b. Fine (declared (type' (basic b)))) basic_types ∙ ap (option_map (λ b. Fine (declared (type' (basic b))))) (sym c.basic_named.ensures ∙ c.in-Some.is) in
    rw (found_first_or (bytes_eq x) types (behind c.args.edition) (Fine (declared (type' (basic c.in-Some.basic)))) (Breaks Undeclared) here) (refl, refl)

pub returns-in-None : goal.returns-in-None
unfolding universe
returns-in-None c =
    let x = c.args.name.now in
    let none : lookup (bytes_eq x) types ≡ None =
    found_seen (bytes_eq x) (λ k. k) (λ b. Fine (declared (type' (basic b)))) basic_types ∙ ap (option_map (λ b. Fine (declared (type' (basic b))))) (sym c.basic_named.ensures ∙ c.in-None.is) in
    subst (λ (v : Verdict Known). AnswersAt known_of c.left_out_or_other.result c.args.place v) (sym (found_later_or (bytes_eq x) types (behind c.args.edition) (Breaks Undeclared) none)) c.left_out_or_other.ensures
