use Rattle.std.proofs.Common.{◌≡◌, suc, ◌+◌, ◌-◌, refl, ap, ◌∙◌, take, drop, length, arith}
use Rattle.std.proofs.lemmas.List.{take_rest}
use Rattle.ws_register.proofs.Places.{put-there-slices, put-between-slices}
use Rattle.ws_register.proofs.search.around.Goals as goal

pub returns-in-Ok-clause-put : goal.returns-in-Ok-clause-put
returns-in-Ok-clause-put c new =
    let ws = c.args.writes.now in
    let at = c.in-Ok.at in
    let found = c.in-Ok.ensures.found in
    let next : at + 1 ≡ suc at = omega arith in
    put-there-slices ws (take at ws) (take (length ws - (at + 1)) (drop (at + 1) ws)) at c.args.path.now found.0 new c.requires found.1
    refl (take_rest ws (at + 1) ∙ ap (λ i. drop i ws) next)

pub returns-in-Err-clause-put : goal.returns-in-Err-clause-put
returns-in-Err-clause-put c new =
    put-between-slices c.args.writes.now c.split_at.result.0.now c.split_at.result.1.now c.in-Err.at c.args.path.now new
    c.in-Err.ensures.below c.in-Err.ensures.above c.split_at.ensures.front c.split_at.ensures.back
