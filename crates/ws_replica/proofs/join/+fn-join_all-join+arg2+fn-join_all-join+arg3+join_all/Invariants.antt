use Rattle.std.proofs.Common.{length}
use Rattle.ws_replica.proofs.join.+fn-join_all-join+arg2+fn-join_all-join+arg3+join_all.Given as goal

abbrev pub decreases-join+arg2 : goal.decreases-join+arg2
decreases-join+arg2 g l = length l.front.now

abbrev pub decreases-join+arg3 : goal.decreases-join+arg3
decreases-join+arg3 g l = length l.back.now

abbrev pub decreases-join_all : goal.decreases-join_all
decreases-join_all g l = length l.all.now
