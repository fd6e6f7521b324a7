use Rattle.std.proofs.Common.{◌≡◌, map, take}
use Rattle.ws_action.proofs.import.copies.Given as goal

-- the paths so far are copied
abbrev pub invariant-loop-path : goal.invariant-loop-path
invariant-loop-path l = map (λ p. p.items) l.copies.items ≡ map (λ p. p.now) (take l.path-index l.paths)
