use Rattle.std.proofs.Common.{◌≡◌, ◌+◌, ◌∷◌, [], ◌++◌, ◌⊎◌, List, ℕ, Vec, Global, get_or, sym, ap, subst, ◌∙◌}
use Rattle.std.proofs.lemmas.List.{get_or_default}
use Rattle.std.specs.List.{Contains}
use Rattle.ws_version_vector.specs.Counts.{counts_at, IsBelow, AreBelow}
use Rattle.ws_version_vector.proofs.Tops.{AreNext, next_begun, next_passed, next_kept, next_all}
use Rattle.ws_version_vector.proofs.family.Vectors.with_top.Goals as goal
use Rattle.ws_version_vector.proofs.family.Vectors.with_top.Goals.{then-not-is_below+in_ok-push-2, else-not-is_below}

pub loop-top-init : goal.loop-top-init
loop-top-init c =
    let pushed : c.push.new.self.items ≡ c.args.at ∷ [] = c.in_ok-push.ensures.items ∙ ap (λ (l : List ℕ). l ++ c.args.at ∷ []) c.new-next.ensures.items in
    subst (λ (l : List ℕ). AreNext c.args.self.now c.args.at c.deref-top-items.result.now l 0) (sym pushed) (next_begun c.args.self.now c.args.at c.deref-top-items.result.now)

pub loop-top-preserved : goal.loop-top-preserved
loop-top-preserved c =
    let tops : List ℕ = c.deref-top-items.result.now in
    let i : ℕ = c.loop-top.top-index in
    let top : ℕ = get_or tops i 0 in
    let is : top ≡ get_or tops i top = get_or_default tops i 0 top c.loop-top-test.true in
    elim c.if-not-is_below.branch [
      | then-not-is_below+in_ok-push-2 w ↦ next_kept c.args.self.now c.args.at tops c.loop-top.next.items c.if-not-is_below.next.items i top c.loop-top.invariant c.loop-top-test.true is
          (ap (λ (v : Vec ℕ Global). v.items) w.next-is ∙ w.in_ok-push-2.ensures.items)
      | else-not-is_below w ↦
          let below : IsBelow (counts_at top c.args.self.now) (counts_at c.args.at c.args.self.now) =
          subst (λ (l : List ℕ). IsBelow l (counts_at c.args.at c.args.self.now)) c.at.ensures (subst (λ (l : List ℕ). IsBelow c.at.result.now l) c.at-in-loop-top.ensures (c.is_below.ensures w.if-not-is_below.false)) in
          subst (λ (v : Vec ℕ Global). AreNext c.args.self.now c.args.at tops v.items (i + 1)) (sym w.next-is)
          (next_passed c.args.self.now c.args.at tops c.loop-top.next.items i top c.loop-top.invariant c.loop-top-test.true is below)
    ]

pub returns-clause-below : goal.returns-clause-below
returns-clause-below c =
    subst (λ (l : List ℕ). AreBelow c.args.self.now (c.args.at ∷ l) c.loop-top.next.items) c.deref-top-items.ensures.value
    (next_all c.args.self.now c.args.at c.deref-top-items.result.now c.loop-top.next.items c.loop-top.top-index c.loop-top.invariant c.loop-top-test.false)

pub returns-clause-within : goal.returns-clause-within
returns-clause-within c =
    let next = c.loop-top.invariant in
    subst (λ (l : List ℕ). (t : ℕ) → Contains c.loop-top.next.items t → (t ≡ c.args.at) ⊎ Contains l t) c.deref-top-items.ensures.value next.within
