use Rattle.std.proofs.Common.{◌≡◌, map, take}
use Rattle.ws_session.proofs.clock.paths_at.Given as goal

abbrev pub invariant-loop-key : goal.invariant-loop-key
invariant-loop-key l = l.paths.items ≡ map (λ key. key.now) (take l.key-index l.keys)
