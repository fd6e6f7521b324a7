use Rattle.std.proofs.Common.{◌≡◌, drop, map}
use Rattle.go_diagnostics.specs.Unknown.{is_known}
use Rattle.go_diagnostics.proofs.unknown.is_known.Given as goal

abbrev pub invariant-loop-known : goal.invariant-loop-known
invariant-loop-known l = is_known (map (λ name. name.now) (drop l.known-index l.names)) l.name ≡ is_known (map (λ name. name.now) l.names) l.name
