use Rattle.std.proofs.Common.{◌≡◌, ◌+◌, vec_len}
use Rattle.std.specs.List.{sum_by}
use Rattle.ws_shared.proofs.worker.merged.Given as goal

abbrev pub invariant-loop-hand : goal.invariant-loop-hand
invariant-loop-hand g l =
    (l.all.parts + vec_len l.hands ≡ 1 + vec_len l.fn.hands)
    × (l.all.made.takes + sum_by (λ h. h.made.takes) l.hands.items ≡ l.fn.first.made.takes + sum_by (λ h. h.made.takes) l.fn.hands.items)
    × (l.all.made.finishes + sum_by (λ h. h.made.finishes) l.hands.items ≡ l.fn.first.made.finishes + sum_by (λ h. h.made.finishes) l.fn.hands.items)
    × (l.all.made.backs + sum_by (λ h. h.made.backs) l.hands.items ≡ l.fn.first.made.backs + sum_by (λ h. h.made.backs) l.fn.hands.items)
    × (l.all.made.idles + sum_by (λ h. h.made.idles) l.hands.items ≡ l.fn.first.made.idles + sum_by (λ h. h.made.idles) l.fn.hands.items)

abbrev pub decreases-loop-hand : goal.decreases-loop-hand
decreases-loop-hand g l = vec_len l.hands
