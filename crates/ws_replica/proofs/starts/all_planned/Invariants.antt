use Rattle.std.proofs.Common.{◌≡◌, length, map}
use Rattle.ws_replica.specs.Builds.{target_of}
use Rattle.ws_replica.specs.Jobs.{all_reached_of}
use Rattle.ws_replica.specs.Targets.{AreReachedOf}
use Rattle.ws_replica.proofs.starts.all_planned.Given as goal

abbrev pub invariant-loop-number : goal.invariant-loop-number
invariant-loop-number g l = record {
  same : l.replicas ≡ l.fn.replicas;
  size : length (all_reached_of l.all.items) ≡ l.number;
  are : AreReachedOf l.edition l.fn.replicas (map target_of l.targets) (all_reached_of l.all.items);
}
