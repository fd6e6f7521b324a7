use Rattle.std.proofs.Common.{◌≡◌, ◌+◌, map, take}
use Rattle.ws_replica.proofs.building.numbers_after.Given as goal

abbrev pub invariant-loop-import : goal.invariant-loop-import
invariant-loop-import l = l.numbers.items ≡ map (λ k. l.before + k) (take l.import-index l.imports)
