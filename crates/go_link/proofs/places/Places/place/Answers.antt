use Rattle.std.proofs.Common.{ap, ◌∙◌}
use Rattle.go_link.specs.Named.{place}
use Rattle.go_link.proofs.places.Places.place.Goals as goal

pub returns : goal.returns
returns c =
    c.copied.ensures ∙ c.get.ensures.value ∙ c.self.invariant.0 (c.args.path, c.args.name)
    ∙ ap (place (record { path = c.args.path.now; name = c.args.name.now })) c.self.view_is
