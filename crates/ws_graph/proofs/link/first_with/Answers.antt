use Rattle.std.proofs.Common.{take, drop, suc, length, sym, subst, arith, ◌≤◌, List}
use Rattle.std.specs.List.{Contains}
use Rattle.ws_graph.specs.declared.target.Target.{Target}
use Rattle.ws_graph.proofs.Places.{whole_at, take_all}
use Rattle.ws_graph.proofs.link.first_with.Goals as goal

pub returns-then-has_fault-clause-some : goal.returns-then-has_fault-clause-some
returns-then-has_fault-clause-some c = record {
  front = take c.loop-target.target-index c.args.targets.now;
  rest = drop (suc c.loop-target.target-index) c.args.targets.now;
  whole = whole_at c.args.targets.now c.loop-target.target-index c.target-item.result c.target-item.is (omega arith);
  before = c.loop-target.invariant;
  holds = c.has_fault.ensures.0 c.if-has_fault.true;
}

pub returns-clause-none : goal.returns-clause-none
returns-clause-none c = λ t k.
    let end : length c.args.targets.now ≤ c.loop-target.target-index = omega arith in
    c.loop-target.invariant t (subst (λ (l : List Target). Contains l t) (sym (take_all c.args.targets.now c.loop-target.target-index end)) k)
