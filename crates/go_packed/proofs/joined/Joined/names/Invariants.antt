use denote.Shadow.{shadow}
use denote.Text.{Utf8}
use Rattle.std.proofs.Common.{map, drop}
use Rattle.go_packed.proofs.Cuts.{Left}
use Rattle.go_packed.proofs.joined.Joined.names.Given as goal

abbrev pub invariant-loop-length : goal.invariant-loop-length
invariant-loop-length l = Left l.self (map (λ n. n.now) l.names.items) (drop l.length-index l.length-items) l.rest × shadow (Utf8 l.rest)
