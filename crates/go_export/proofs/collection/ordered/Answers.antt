use Rattle.std.proofs.Common.{◌∙◌}
use Rattle.go_export.proofs.Ordered.{taken}
use Rattle.go_export.proofs.collection.ordered.Goals as goal

pub loop-name-preserved : goal.loop-name-preserved
loop-name-preserved c =
    taken c.loop-name.all.entries c.insert.new.self.entries c.pop.new.self.items c.loop-name.rest.items c.in-Some.name c.in-Some.export c.in_ok-insert.ensures.entries c.in-Some.ensures.items
    ∙ c.loop-name.invariant
