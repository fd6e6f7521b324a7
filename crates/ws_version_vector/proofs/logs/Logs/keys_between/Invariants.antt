use Rattle.std.proofs.Common.{map}
use Rattle.ws_version_vector.proofs.Logged.{AreKeysFirst}
use Rattle.ws_version_vector.proofs.logs.Logs.keys_between.Given as goal

abbrev pub invariant-loop-at : goal.invariant-loop-at
invariant-loop-at l = AreKeysFirst l.self l.mine l.theirs l.at (map (λ k. k.now) l.keys.items)
