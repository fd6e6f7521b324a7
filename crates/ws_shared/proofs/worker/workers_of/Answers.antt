use Rattle.std.proofs.Common.{◌≡◌, ◌∙◌, ◌+◌, List, [], ◌∷◌, ◌++◌, ap, arith, rules, vec_len}
use Rattle.ws_shared.specs.Workers.{WorkerState, new_workers}
use Rattle.ws_shared.proofs.HandFacts.{new_hands_last}
use Rattle.ws_shared.proofs.worker.workers_of.Goals as goal

pub returns : goal.returns
returns g c =
    let held = c.loop-number.invariant in
    let n = vec_len c.loop-number.hands in
    let last : c.loop-number.number ≡ c.args.count = search rules in
    c.in_ok-push-2.ensures.items ∙ ap (λ (l : List WorkerState). l ++ c.new-2.result ∷ []) held.3 ∙ ap (λ (h : WorkerState). new_workers n ++ h ∷ []) c.new-2.ensures
    ∙ new_hands_last n c.args.count (omega (arith, held.0, last))
