use Rattle.std.proofs.Common.{map}
use Rattle.std.specs.Arc.{arc_value}
use Rattle.ws_replica.specs.Stopped.{AreObjects}
use Rattle.ws_replica.proofs.linking.objects_held.Given as goal

abbrev pub invariant-loop-job : goal.invariant-loop-job
invariant-loop-job l = AreObjects l.board l.job (map arc_value l.objects.items)
