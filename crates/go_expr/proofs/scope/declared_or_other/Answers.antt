use Rattle.std.proofs.Common.{◌≡◌, ◌++◌, Some, None, sym, ap, ◌∙◌, subst, string_bytes}
use Rattle.std.specs.Prelude.{bytes_eq, option_copied}
use Rattle.std.specs.Map.{lookup}
use Rattle.std.specs.Option.{option_map}
use Rattle.go_text.specs.declared.fault.FaultKind.TheVariants.{Undeclared}
use Rattle.go_expr.specs.Known.{Known, Verdict, Breaks, named, universe}
use Rattle.go_expr.specs.Views.{declared_of, known_of, package_names, iota_of, AnswersAt}
use Rattle.go_expr.proofs.Lookups.{found_first_or, found_later_or, package_has}
use Rattle.go_expr.proofs.scope.declared_or_other.Goals as goal

pub returns-in-Some : goal.returns-in-Some
returns-in-Some c =
    let x = c.args.name.now in
    let here : lookup (bytes_eq x) (package_names c.args.declared.now) ≡ Some (named (option_map declared_of c.in-Some.declared.now)) =
    package_has (bytes_eq x) string_bytes declared_of named c.args.declared.now.entries ∙ ap (λ o. option_map named (option_map (option_map declared_of) o)) (sym c.get.ensures.value ∙ ap option_copied c.in-Some.is) in
    subst (λ (v : Verdict Known). AnswersAt known_of c.named.result c.args.place v)
    (sym (found_first_or (bytes_eq x) (package_names c.args.declared.now) (iota_of c.args.iota ++ universe c.args.edition) (named (option_map declared_of c.in-Some.declared.now)) (Breaks Undeclared) here))
    c.named.ensures

pub returns-in-None : goal.returns-in-None
returns-in-None c =
    let x = c.args.name.now in
    let none : lookup (bytes_eq x) (package_names c.args.declared.now) ≡ None =
    package_has (bytes_eq x) string_bytes declared_of named c.args.declared.now.entries ∙ ap (λ o. option_map named (option_map (option_map declared_of) o)) (sym c.get.ensures.value ∙ ap option_copied c.in-None.is) in
    subst (λ (v : Verdict Known). AnswersAt known_of c.iota_or_other.result c.args.place v)
    (sym (found_later_or (bytes_eq x) (package_names c.args.declared.now) (iota_of c.args.iota ++ universe c.args.edition) (Breaks Undeclared) none))
    c.iota_or_other.ensures
