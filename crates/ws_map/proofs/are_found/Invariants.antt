use Rattle.std.proofs.Common.{◌≡◌}
use Rattle.ws_map.specs.Greater.{greater}
use Rattle.ws_map.specs.Kept.{gathered}
use Rattle.ws_map.specs.Keyed.{keyed, by_key}
use Rattle.ws_map.proofs.are_found.Given as goal

-- what is left to see would give what all of it gives
abbrev pub invariant-loop-key : goal.invariant-loop-key
invariant-loop-key g l = gathered (greater g.V.Ranked.rank) (by_key g.K.Key.bytes l.others.entries) (keyed g.K.Key.bytes l.key-iterator) ≡ gathered (greater g.V.Ranked.rank) (by_key g.K.Key.bytes l.others.entries) (keyed g.K.Key.bytes l.entries.entries)
