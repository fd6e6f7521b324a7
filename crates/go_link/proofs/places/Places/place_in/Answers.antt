use Rattle.std.proofs.Common.{◌∙◌, ap, sym}
use Rattle.go_link.specs.Named.{cell_count}
use Rattle.go_link.proofs.Firsts.{its_place, no_place}
use Rattle.go_link.proofs.places.Places.place_in.Goals as goal

pub returns-in-Some : goal.returns-in-Some
returns-in-Some c =
    its_place c.args.self.now (record { path = c.args.path.now; name = c.args.name.now }) c.in-Some.first
    (sym c.place.ensures ∙ c.in-Some.is)

pub returns-in-None : goal.returns-in-None
returns-in-None c =
    no_place c.args.self.now (record { path = c.args.path.now; name = c.args.name.now }) c.self.inside.cells
    (c.self.invariant.1 ∙ ap cell_count c.self.view_is)
    (sym c.place.ensures ∙ c.in-None.is)
