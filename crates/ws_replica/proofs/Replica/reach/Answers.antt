use Rattle.std.proofs.Common.{ap, map, refl}
use Rattle.ws_graph.specs.Discovery.{string_texts}
use Rattle.ws_replica.specs.Holdings.{Replica}
use Rattle.ws_replica.specs.Jobs.{reached_of}
use Rattle.ws_replica.proofs.Plans.{reached_by_plan}
use Rattle.ws_replica.proofs.Replica.reach.Goals as goal

pub returns-clause-ok : goal.returns-clause-ok
returns-clause-ok g c =
    reached_by_plan c.args.edition c.self.inside.registers c.args.self.now.registers (string_texts c.args.targets.items) (string_texts c.args.targets.items) c.in_ok-plan.plan c.as_slice.result.now (map reached_of c.in_ok-reached.reached.items)
    (ap (λ (r : Replica). r.registers) c.self.view_is) refl c.as_slice.ensures.value c.in_ok-plan.ensures.ok c.in_ok-reached.ensures
