use Rattle.std.proofs.Common.{◌≡◌, Some, None, sym, ap, ◌∙◌, subst}
use Rattle.std.specs.Prelude.{bytes_eq}
use Rattle.std.specs.Map.{lookup}
use Rattle.std.specs.Option.{option_map}
use Rattle.go_text.specs.declared.fault.FaultKind.TheVariants.{Undeclared}
use Rattle.go_expr.specs.Known.{Known, Verdict, Breaks, named}
use Rattle.go_expr.specs.Views.{known_of, declared_of, names_in, local_names, scope_of, AnswersAt}
use Rattle.go_expr.proofs.Lookups.{found_first_or, found_later_or}
use Rattle.go_expr.proofs.scope.Scope.look_up.Goals as goal

pub returns-in-Some : goal.returns-in-Some
unfolding scope_of
returns-in-Some c =
    let s = c.args.self.now in
    let locals = local_names (option_map (λ e. e.now) s.locals) in
    let found = named (option_map declared_of c.in-Some.declared.now) in
    let here : lookup (bytes_eq c.args.name.now) locals ≡ Some found =
    sym c.local.ensures ∙ ap (option_map (λ o. named (option_map declared_of o.now))) c.in-Some.is in
    subst (λ (v : Verdict Known). AnswersAt known_of c.named.result c.args.place v)
    (sym (found_first_or (bytes_eq c.args.name.now) locals (names_in s.edition s.imports.now s.declared.now s.iota) found (Breaks Undeclared) here))
    c.named.ensures

pub returns-in-None : goal.returns-in-None
unfolding scope_of
returns-in-None c =
    let s = c.args.self.now in
    let locals = local_names (option_map (λ e. e.now) s.locals) in
    let none : lookup (bytes_eq c.args.name.now) locals ≡ None =
    sym c.local.ensures ∙ ap (option_map (λ o. named (option_map declared_of o.now))) c.in-None.is in
    subst (λ (v : Verdict Known). AnswersAt known_of c.look_up_outside.result c.args.place v)
    (sym (found_later_or (bytes_eq c.args.name.now) locals (names_in s.edition s.imports.now s.declared.now s.iota) (Breaks Undeclared) none))
    c.look_up_outside.ensures
