use Rattle.std.proofs.Common.{◌≡◌, ◌<◌, ℕ, List, map, drop, length, get_or, sym, ap, ◌∙◌, subst, arith}
use Rattle.std.proofs.lemmas.List.{take_all, take_at}
use Rattle.ws_replica.specs.Builds.{took_at}
use Rattle.ws_replica.specs.Holdings.{Replica, ReplicaStandsFor, Took, AllStandFor, all_taken, replica_join}
use Rattle.ws_session.specs.declared.replicas.SessionReplica.{SessionReplica}
use Rattle.ws_session.proofs.Joining.{joined_more, stands_at, stands_last, taken_by, settled_length}
use Rattle.ws_session.proofs.taking.joined_of.Goals as goal

pub loop-top-preserved : goal.loop-top-preserved
loop-top-preserved g c = λ took stands.
    let ns : List SessionReplica = c.args.named.now.items in
    let tops : List ℕ = c.args.tops.now in
    let i : ℕ = c.loop-top.top-index in
    let t : ℕ = get_or tops i 0 in
    let within : t < length ns = let lt = c.requires i 0 c.loop-top-test.true in omega (arith, lt, c.args.named.now.ok.0) in
    let one = stands_at ns took t c.index.result.now stands within c.index.ensures in
    let copied = subst (λ (r : Replica). ReplicaStandsFor r (took_at took t).writes (took_at took t).actions) (sym c.in_ok-member.ensures) one in
    joined_more took c.loop-top.members.items c.push.new.self.items c.in_ok-member.member tops i c.loop-top-test.true c.in_ok-push.ensures.items (c.loop-top.invariant took stands) copied

pub returns-in-Some : goal.returns-in-Some
returns-in-Some g c = λ took stands.
    let tops : List ℕ = c.args.tops.now in
    let all : List Took = map (took_at took) tops in
    let old : List Replica = c.as_mut_slice.result.now in
    let new : List Replica = c.settle.new.replicas in
    let kept = subst (λ (ts : List ℕ). AllStandFor c.loop-top.members.items (map (took_at took) ts)) (take_all c.loop-top.top-index tops (omega (arith, c.loop-top-test.false))) (c.loop-top.invariant took stands) in
    let held = subst (λ (rs : List Replica). AllStandFor rs all) (sym c.as_mut_slice.ensures.value) kept in
    let length_kept : length new ≡ length old = ap (λ (rs : List Replica). length rs) c.in_ok-settle.ensures.ok ∙ settled_length replica_join old in
    let sized : length new ≡ c.loop-top.members.len = let long = ap (λ (rs : List Replica). length rs) c.as_mut_slice.ensures.value in omega (arith, length_kept, long, c.loop-top.members.ok.0) in
    let whole = take_at new (drop (length new) c.loop-top.members.items) c.loop-top.members.len sized in
    taken_by took tops c.in-Some.joined
    (stands_last c.pop.new.self.items c.in-Some.joined all (all_taken all)
    (subst (λ (rs : List Replica). AllStandFor rs (map (λ _. all_taken all) all)) (sym whole ∙ c.in-Some.ensures.items) (c.in_ok-settle.ensures.stands all held)))
