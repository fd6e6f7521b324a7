use Rattle.std.proofs.Common.{◌≡◌, length, map}
use Rattle.go_diagnostics.specs.Unknown.{unknown_name}
use Rattle.go_diagnostics.proofs.unknown.unknown_name.Given as goal

abbrev pub invariant-loop-rest : goal.invariant-loop-rest
invariant-loop-rest l = unknown_name (map (λ name. name.now) l.names) l.text l.rest ≡ unknown_name (map (λ name. name.now) l.names) l.text l.from

abbrev pub decreases-loop-rest : goal.decreases-loop-rest
decreases-loop-rest l = length l.rest
