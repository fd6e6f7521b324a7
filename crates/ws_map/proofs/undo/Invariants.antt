use Rattle.std.proofs.Common.{◌≡◌, length, map}
use Rattle.ws_map.specs.Undone.{undone}
use Rattle.ws_map.proofs.undo.Given as goal

-- to undo the rest gives what to undo all gives
abbrev pub invariant-loop-put : goal.invariant-loop-put
invariant-loop-put g l = undone g.K.Ord.cmp (map (λ put. (put.key.now, put.before)) l.rest.items) l.mine.entries ≡ undone g.K.Ord.cmp (map (λ put. (put.key.now, put.before)) l.fn.done.items) l.fn.mine.entries

abbrev pub decreases-loop-put : goal.decreases-loop-put
decreases-loop-put g l = length l.rest.items
