use Rattle.std.proofs.Common.{◌≡◌, ◌++◌, Some, None, map, refl, sym, ap, ◌∙◌, subst}
use Rattle.std.specs.Prelude.{bytes_eq}
use Rattle.std.specs.Map.{lookup}
use Rattle.std.specs.Option.{option_map}
use Rattle.go_text.specs.declared.fault.FaultKind.TheVariants.{Undeclared}
use Rattle.go_expr.specs.Known.{Known, Verdict, Fine, Breaks, universe}
use Rattle.go_expr.specs.Views.{known_of, imported_view, package_names, iota_of, names_in, AnswersAt}
use Rattle.go_expr.proofs.Lookups.{found_first_or, found_later_or}
use Rattle.go_expr.proofs.scope.Scope.look_up_outside.Goals as goal

pub returns-in-Some : goal.returns-in-Some
unfolding names_in
returns-in-Some c =
    let s = c.args.self.now in
    let here : lookup (bytes_eq c.args.name.now) (map imported_view s.imports.now) ≡ Some (Fine (known_of c.in-Some.known)) =
    sym c.imported.ensures ∙ ap (option_map (λ k. Fine (known_of k))) c.in-Some.is in
    rw (found_first_or (bytes_eq c.args.name.now) (map imported_view s.imports.now) (package_names s.declared.now ++ (iota_of s.iota ++ universe s.edition)) (Fine (known_of c.in-Some.known)) (Breaks Undeclared) here) (refl, refl)

pub returns-in-None : goal.returns-in-None
unfolding names_in
returns-in-None c =
    let s = c.args.self.now in
    let none : lookup (bytes_eq c.args.name.now) (map imported_view s.imports.now) ≡ None =
    sym c.imported.ensures ∙ ap (option_map (λ k. Fine (known_of k))) c.in-None.is in
    subst (λ (v : Verdict Known). AnswersAt known_of c.declared_or_other.result c.args.place v)
    (sym (found_later_or (bytes_eq c.args.name.now) (map imported_view s.imports.now) (package_names s.declared.now ++ (iota_of s.iota ++ universe s.edition)) (Breaks Undeclared) none))
    c.declared_or_other.ensures
