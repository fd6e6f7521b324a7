use Rattle.std.proofs.Common.{rules, ◌≡◌, ap}
use Rattle.ws_graph.specs.Discovery.{string_texts}
use Rattle.ws_replica.specs.Holdings.{Replica}
use Rattle.ws_replica.proofs.Plans.{kept_plan}
use Rattle.ws_replica.proofs.Replica.plan_of.Goals as goal

pub returns-then-is_of : goal.returns-then-is_of
returns-then-is_of c =
    let plan = c.in_ok-plan.plan.now in
    let is_in : plan.edition ≡ c.args.edition = search rules in
    let fits : string_texts plan.targets.items ≡ string_texts c.args.targets.now = search rules in
    kept_plan c.self.inside.registers c.args.self.now.registers c.self.inside.plan plan c.args.edition (string_texts c.args.targets.now) (ap (λ (r : Replica). r.registers) c.self.view_is) c.in_ok-plan.ensures.value is_in fits c.self.invariant
