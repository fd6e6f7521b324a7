use Rattle.std.proofs.Common.{◌≡◌, true, Some, None, [], refl, sym, ap, ◌∙◌, string_bytes}
use Rattle.std.specs.Prelude.{bytes_eq, option_copied}
use Rattle.std.specs.Map.{lookup}
use Rattle.std.specs.Option.{option_map}
use Rattle.go_expr.specs.Rules.{is_exported}
use Rattle.go_expr.specs.Views.{declared_of, names_of}
use Rattle.go_expr.proofs.Lookups.{found_seen}
use Rattle.go_expr.proofs.selector.exported.Goals as goal

pub returns-in-Some : goal.returns-in-Some
returns-in-Some c =
    let x = c.args.name.now in
    let exported : is_exported x ≡ true = cc in
    let here : lookup (bytes_eq x) (names_of c.args.names.now) ≡ Some (option_map declared_of c.in-Some.declared.now) =
    found_seen (bytes_eq x) string_bytes (option_map declared_of) c.args.names.now.entries ∙ ap (option_map (option_map declared_of)) (sym c.get.ensures.value ∙ ap option_copied c.in-Some.is) in
    rw (exported, here) c.named.ensures

pub returns-in-None : goal.returns-in-None
returns-in-None c =
    let x = c.args.name.now in
    let exported : is_exported x ≡ true = cc in
    let none : lookup (bytes_eq x) (names_of c.args.names.now) ≡ None =
    found_seen (bytes_eq x) string_bytes (option_map declared_of) c.args.names.now.entries ∙ ap (option_map (option_map declared_of)) (sym c.get.ensures.value ∙ ap option_copied c.in-None.is) in
    rw (exported, none) ([], refl)
