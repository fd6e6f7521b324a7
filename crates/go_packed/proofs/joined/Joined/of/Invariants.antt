use Rattle.std.proofs.Common.{◌≡◌, map, take}
use Rattle.go_packed.proofs.joined.Joined.of.Given as goal

abbrev pub invariant-loop-name : goal.invariant-loop-name
invariant-loop-name l = l.joined ≡ map (λ n. n.now) (take l.name-index l.names)
