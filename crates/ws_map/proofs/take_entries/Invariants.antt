use Rattle.std.proofs.Common.{◌≡◌, map}
use Rattle.ws_map.specs.Greater.{greater}
use Rattle.ws_map.specs.Kept.{gathered}
use Rattle.ws_map.specs.Keyed.{keyed, by_key}
use Rattle.ws_map.specs.Undone.{undone}
use Rattle.ws_map.proofs.take_entries.Given as goal

-- what is left to take would give what all of it gives, and what was done can be undone
abbrev pub invariant-loop-key : goal.invariant-loop-key
invariant-loop-key g l = record {
  taken : gathered (greater g.V.Ranked.rank) (by_key g.K.Key.bytes l.mine.entries) (keyed g.K.Key.bytes l.key-iterator) ≡ gathered (greater g.V.Ranked.rank) (by_key g.K.Key.bytes l.fn.mine.entries) (keyed g.K.Key.bytes l.entries.entries);
  undone : undone g.K.Ord.cmp (map (λ put. (put.key.now, put.before)) l.done.items) l.mine.entries ≡ undone g.K.Ord.cmp (map (λ put. (put.key.now, put.before)) l.fn.done.items) l.fn.mine.entries;
}
