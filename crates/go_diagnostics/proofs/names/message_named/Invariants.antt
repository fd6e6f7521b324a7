use Rattle.std.proofs.Common.{◌≡◌, drop, map}
use Rattle.go_diagnostics.specs.Names.{message_named}
use Rattle.go_diagnostics.proofs.names.message_named.Given as goal

abbrev pub invariant-loop-spelling : goal.invariant-loop-spelling
invariant-loop-spelling l =
    message_named (map (λ r. (r.0.now, r.1)) (drop l.spelling-index l.names)) l.name ≡ message_named (map (λ r. (r.0.now, r.1)) l.names) l.name
