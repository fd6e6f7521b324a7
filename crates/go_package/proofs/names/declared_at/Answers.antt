use Rattle.std.proofs.Common.{◌≡◌, Option, Some, None, Bor, refl, sym, ap, ◌∙◌, string_bytes}
use Rattle.std.specs.Prelude.{bytes_eq, option_copied, unwrap_or}
use Rattle.std.specs.Map.{lookup}
use Rattle.std.specs.Option.{option_map}
use Rattle.go_expr.specs.Known.{Declared}
use Rattle.go_expr.specs.Views.{declared_of, names_of}
use Rattle.go_expr.proofs.Lookups.{found_seen}
use Rattle.go_package.proofs.names.declared_at.Goals as goal

copied : {X Y : Type 0} (f : X → Y) (r : Option (Bor X)) → option_map (λ d. f d.now) r ≡ option_map f (option_copied r)
copied f None = refl
copied f (Some d) = refl

pub returns-in-Some : goal.returns-in-Some
returns-in-Some c =
    let x = c.args.name.now in
    let here : lookup (bytes_eq x) (names_of c.args.known.now) ≡ Some (option_map declared_of c.in-Some.declared.now) =
    found_seen (bytes_eq x) string_bytes (option_map declared_of) c.args.known.now.entries ∙ ap (option_map (option_map declared_of)) (sym c.get.ensures.value ∙ ap option_copied c.in-Some.is) in
    copied declared_of c.as_ref.result ∙ ap (option_map declared_of) c.as_ref.ensures.value ∙ sym (ap (λ (o : Option (Option Declared)). unwrap_or o None) here)

pub returns-in-None : goal.returns-in-None
returns-in-None c =
    let x = c.args.name.now in
    let none : lookup (bytes_eq x) (names_of c.args.known.now) ≡ None =
    found_seen (bytes_eq x) string_bytes (option_map declared_of) c.args.known.now.entries ∙ ap (option_map (option_map declared_of)) (sym c.get.ensures.value ∙ ap option_copied c.in-None.is) in
    sym (ap (λ (o : Option (Option Declared)). unwrap_or o None) none)
