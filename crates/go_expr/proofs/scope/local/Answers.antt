use Rattle.std.proofs.Common.{◌∷◌, Option, sym, ap, ◌∙◌}
use Rattle.std.specs.Prelude.{bytes_eq}
use Rattle.std.specs.List.{flat_map}
use Rattle.std.specs.Map.{lookup}
use Rattle.std.specs.Option.{option_map}
use Rattle.go_expr.specs.declared.known.Declared.{Declared}
use Rattle.go_expr.specs.Known.{named}
use Rattle.go_expr.specs.Views.{declared_of, local_names}
use Rattle.go_expr.proofs.Lists.{copied}
use Rattle.go_expr.proofs.Lookups.{found_seen}
use Rattle.go_expr.proofs.scope.local.Goals as goal

pub returns-in-Some : goal.returns-in-Some
returns-in-Some c =
    let env = c.in-Some.locals.now in
    let x = c.args.name.now in
    let found = λ (o : Option Declared). named (option_map declared_of o) in
    copied found c.look_up.result ∙ ap (option_map found) c.look_up.ensures
    ∙ sym (found_seen (bytes_eq x) (λ k. k) found (flat_map (λ block. block) (env.inner ∷ env.outer)))
    ∙ ap (λ o. lookup (bytes_eq x) (local_names (option_map (λ e. e.now) o))) (sym c.in-Some.is)
