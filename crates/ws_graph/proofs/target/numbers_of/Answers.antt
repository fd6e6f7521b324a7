use Rattle.std.proofs.Common.{◌≤◌, List, length, subst, sym, ap, ◌∙◌, arith, inl, inr}
use Rattle.std.proofs.lemmas.List.Filters.{dedup_is}
use Rattle.std.proofs.lemmas.List.Kept.{Contains-dedup_nat, Contains-from_dedup}
use Rattle.std.proofs.lemmas.List.Sorted.{Contains-permutation, IsPermutation-sym}
use Rattle.std.proofs.lemmas.Map.Keys.{IsStrictlyIncreasing-dedup}
use Rattle.ws_graph.specs.declared.target.Target.{Target}
use Rattle.ws_graph.specs.Discovery.{HasNumber}
use Rattle.ws_graph.proofs.Places.{take_all}
use Rattle.ws_graph.proofs.Places.{Numbered, number_next}
use Rattle.ws_graph.proofs.target.numbers_of.Goals as goal
use Rattle.ws_graph.proofs.target.numbers_of.Goals.{in-Some+in_ok-push-in-Some, in-None}

pub returns-clause-ascending : goal.returns-clause-ascending
returns-clause-ascending c = rw (dedup_is _ _ _ c.dedup.ensures.filtered) (IsStrictlyIncreasing-dedup _ c.sort_unstable.ensures.sorted)

pub returns-clause-all : goal.returns-clause-all
returns-clause-all c =
    let is = dedup_is _ _ _ c.dedup.ensures.filtered in
    let moved = c.sort_unstable.ensures.permutation in
    let end : length c.args.targets.now ≤ c.loop-target.target-index = omega arith in
    let all = take_all c.args.targets.now c.loop-target.target-index end in
    λ k. (
      λ h. subst (λ (l : List Target). HasNumber l k) all ((c.loop-target.invariant k).0 (Contains-permutation _ _ k (IsPermutation-sym _ _ moved) (Contains-from_dedup _ _ k (rw is at h)))),
      λ h. rw is (Contains-dedup_nat _ k (Contains-permutation _ _ k moved ((c.loop-target.invariant k).1 (subst (λ (l : List Target). HasNumber l k) (sym all) h)))),
    )

pub loop-target-preserved : goal.loop-target-preserved
loop-target-preserved c =
    let next : Numbered c.target-item.result c.loop-target.numbers.items c.match-target.numbers.items = elim c.match-target.branch [
      | in-Some+in_ok-push-in-Some w ↦ inl (w.in-Some.number, w.in-Some.is, ap (λ v. v.items) w.numbers-is ∙ w.in_ok-push-in-Some.ensures.items)
      | in-None w ↦ inr (w.in-None.is, ap (λ v. v.items) w.numbers-is)
    ] in
    number_next c.args.targets.now c.loop-target.target-index c.target-item.result c.loop-target.numbers.items c.match-target.numbers.items c.target-item.is c.loop-target-test.true next c.loop-target.invariant
