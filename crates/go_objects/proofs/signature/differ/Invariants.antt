use Rattle.std.proofs.Common.{drop, map}
use Rattle.go_objects.proofs.Signatures.{Differing}
use Rattle.go_objects.proofs.signature.differ.Given as goal

abbrev pub invariant-loop-name : goal.invariant-loop-name
invariant-loop-name l = Differing l.seen.keys (map (λ n. n.now) (drop l.name-index l.names)) (map (λ n. n.now) l.names)
