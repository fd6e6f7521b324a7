use Rattle.std.proofs.Common.{◌≡◌, ◌∙◌, Some, length, refl, sym, ap}
use Rattle.std.specs.List.{slice_get}
use Rattle.std.specs.Option.{option_map}
use Rattle.std.proofs.lemmas.Bool.{ltb-true}
use Rattle.std.proofs.lemmas.Option.{slice_get-map, slice_get_read}
use Rattle.std.proofs.lemmas.Slice.Eq.{bytes_eq-Decides}
use Rattle.go_packed.proofs.Listed.{text_in}
use Rattle.go_packed.proofs.names.Names.is_at.Goals as goal

pub returns-in-Some : goal.returns-in-Some
returns-in-Some c = λ yes.
    let xs = c.deref.result.now in
    let there : slice_get xs c.args.number ≡ Some c.in-Some.held.now =
    slice_get_read xs (length xs) c.args.number c.in-Some.held.now refl (ltb-true c.args.number (length xs) (sym c.in-Some.ensures.lookup.0)) c.in-Some.ensures.lookup.1 in
    ap (λ l. slice_get l c.args.number) (sym c.self.view_is)
    ∙ slice_get-map text_in c.self.inside.all.items c.args.number
    ∙ ap (λ l. option_map text_in (slice_get l c.args.number)) (sym c.deref.ensures.value)
    ∙ ap (option_map text_in) there
    ∙ ap Some ((bytes_eq-Decides c.in-Some.held.now.now c.args.name.now).0 (sym c.eq.ensures ∙ yes))
