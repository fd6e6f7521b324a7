use Rattle.std.specs.Prelude.{None}
use Rattle.go_init.proofs.Named.{updated_else}
use Rattle.go_init.proofs.edges.taken.Goals as goal

pub returns-in-Some-clause-others : goal.returns-in-Some-clause-others
returns-in-Some-clause-others c = updated_else c.args.named.now c.remove.new.self c.args.name None c.in-Some.ensures.updates
