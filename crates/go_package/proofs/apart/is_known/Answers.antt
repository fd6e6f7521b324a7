use Rattle.std.proofs.Common.{◌≡◌, Bool, false, Option, Some, None, String, List, ℕ, is_some, string_bytes, refl, sym, ap, ◌∙◌}
use Rattle.std.specs.Option.{option_map}
use Rattle.std.specs.Global.{Global}
use Rattle.std.proofs.lemmas.Option.{slice_get-map}
use Rattle.go_expr.specs.Known as known
use Rattle.go_expr.specs.declared.known.Declared.{Declared}
use Rattle.go_expr.specs.Views.{declared_of}
use Rattle.go_package.proofs.apart.is_known.Goals as goal

abbrev seen : String Global × Option Declared → List ℕ × Option known.Declared
seen e = (string_bytes e.0, option_map declared_of e.1)

abbrev told : Option (List ℕ × Option known.Declared) → Bool
told o = elim o [ None ↦ false | Some n ↦ is_some n.1 ]

some_seen : (o : Option Declared) → is_some o ≡ is_some (option_map declared_of o)
some_seen None = refl
some_seen (Some d) = refl

pub returns-in-Some : goal.returns-in-Some
returns-in-Some c =
    let entry = rw c.in-Some.is at c.get_index.ensures.entry in
    c.is_some.ensures ∙ some_seen c.in-Some.declared.now ∙ sym (ap told (slice_get-map seen c.args.known.now.entries c.args.number ∙ ap (option_map seen) (sym entry)))

pub returns-in-None : goal.returns-in-None
returns-in-None c =
    let entry = rw c.in-None.is at c.get_index.ensures.entry in
    sym (ap told (slice_get-map seen c.args.known.now.entries c.args.number ∙ ap (option_map seen) (sym entry)))
