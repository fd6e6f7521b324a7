use Rattle.std.proofs.Common.{◌<◌, [], length, map, refl, arith}
use Rattle.ws_replica.specs.Jobs.{reached_of, all_reached_of}
use Rattle.ws_replica.specs.declared.parts.Part.{Part}
use Rattle.ws_replica.proofs.PlannedTargets.{parts_next, within_next, rows_found}
use Rattle.ws_replica.proofs.TargetSteps.{target_at}
use Rattle.ws_replica.proofs.parts.all_parts.Goals as goal

pub numbers_from-requires-clause-order : goal.numbers_from-requires-clause-order
numbers_from-requires-clause-order c = c.requires.order (target_at c.args.targets.now c.loop-target.target-index).replica (map reached_of c.reached_at-reached.result.now) c.reached_at-reached.ensures

pub numbers_from-requires-clause-rows : goal.numbers_from-requires-clause-rows
numbers_from-requires-clause-rows c =
    rows_found c.in_ok-rows.rows.items c.as_slice.result.now (all_reached_of c.args.all.now) (target_at c.args.targets.now c.loop-target.target-index).replica c.rows_at-rows.result.now (map reached_of c.reached_at-reached.result.now) c.as_slice.ensures.value c.in_ok-rows.ensures c.rows_at-rows.ensures c.reached_at-reached.ensures

pub loop-target-preserved : goal.loop-target-preserved
loop-target-preserved c =
    let targets = c.args.targets.now in
    let i = c.loop-target.target-index in
    let within : i < length targets = omega arith in
    let x : Part = record { replica = (target_at targets i).replica; numbers = c.in_ok-numbers.numbers } in
    let lt : x.replica < length c.args.all.now = c.requires.named i (record { replica = 0; directory = record { ref_ptr = (0, 0); now = [] } }) within in
    record {
      are = parts_next (all_reached_of c.args.all.now) targets i c.loop-target.parts.items c.push.new.self.items x (map reached_of c.reached_at-reached.result.now) within c.in_ok-push.ensures.items refl c.reached_at-reached.ensures c.in_ok-numbers.ensures c.loop-target.invariant.are;
      within = within_next (length c.args.all.now) c.loop-target.parts.items c.push.new.self.items x c.in_ok-push.ensures.items lt c.loop-target.invariant.within;
    }
