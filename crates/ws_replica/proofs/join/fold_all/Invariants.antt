use Rattle.std.proofs.Common.{◌≡◌, drop}
use Rattle.ws_replica.specs.Joins.{joined_from}
use Rattle.ws_replica.proofs.join.fold_all.Given as goal

abbrev pub invariant-loop-other : goal.invariant-loop-other
invariant-loop-other g l = joined_from g.J.Join.joined l.all (drop l.other-index l.others) ≡ joined_from g.J.Join.joined l.first l.others
