use Rattle.std.proofs.Common.{◌+◌, ◌<◌, ◌≤◌, take, get_or, length, sym, subst, ◌∙◌, List, ℕ, arith}
use Rattle.std.specs.FinMap.{FinMap}
use Rattle.std.proofs.lemmas.List.{take_all, take_more}
use Rattle.ws_action.specs.Actions.{Action}
use Rattle.ws_cache.specs.Held.{id_cmp, CacheStandsFor}
use Rattle.ws_replica.proofs.TargetSteps.{first_number, IsOpenedBy, opened_first, opened_more, opened_same, opened_whole}
use Rattle.ws_replica.proofs.starts.opening_of.Goals as goal
use Rattle.ws_replica.proofs.starts.opening_of.Goals.{then-number-first+in_ok-merge, else-number-first}

pub loop-number-init : goal.loop-number-init
loop-number-init c =
    opened_first c.args.replicas.now c.in-Some.first.now c.replica_at.result.now c.in_ok-opening.opening c.replica_at.ensures (c.in_ok-opening.ensures ∙ c.cache.ensures)

pub loop-number-preserved : goal.loop-number-preserved
loop-number-preserved c =
    let i = c.loop-number.number-index in
    let within : i < length c.args.numbers.now = c.loop-number-test.true in
    let next = take_more c.args.numbers.now i 0 within in
    let k : ℕ = get_or c.args.numbers.now i 0 in
    let done = take i c.args.numbers.now in
    let more = take (i + 1) c.args.numbers.now in
    elim c.if-number-first.branch [
      | then-number-first+in_ok-merge w ↦
          subst (IsOpenedBy c.args.replicas.now c.in-Some.first.now more) (sym w.opening-is)
          (opened_more c.args.replicas.now c.in-Some.first.now done more k w.replica_at-then-number-first.result.now c.loop-number.opening w.merge.new.self next w.replica_at-then-number-first.ensures
          (λ E F g h. w.in_ok-merge.ensures.stands E F g (subst (λ (m : FinMap id_cmp Action). CacheStandsFor m F) (sym w.cache-then-number-first.ensures) h)) c.loop-number.invariant)
      | else-number-first w ↦
          subst (IsOpenedBy c.args.replicas.now c.in-Some.first.now more) (sym w.opening-is)
          (opened_same c.args.replicas.now c.in-Some.first.now done more k c.loop-number.opening next w.if-number-first.false c.loop-number.invariant)
    ]

pub returns : goal.returns
returns c =
    let past : length c.args.numbers.now ≤ c.loop-number.number-index = omega (arith, c.loop-number-test.false) in
    opened_whole c.args.replicas.now c.args.numbers.now c.in-Some.first.now c.loop-number.opening (first_number c.args.numbers.now c.in-Some.first.now c.in-Some.ensures.value)
    (subst (λ (ks : List ℕ). IsOpenedBy c.args.replicas.now c.in-Some.first.now ks c.loop-number.opening) (take_all c.loop-number.number-index c.args.numbers.now past) c.loop-number.invariant)
