use Rattle.std.proofs.Common.{◌≡◌, ◌<◌, ◌≤◌, ℕ, true, false, sym, ◌∙◌, subst, inl, inr, arith}
use Rattle.std.proofs.lemmas.Bool.{cases_eq}
use Rattle.ws_reach.specs.Reach.{rows_of}
use Rattle.go_scope.specs.declared.order.Placed.{Placed}
use Rattle.go_scope.specs.Placing.{Settled, unplaced_count}
use Rattle.go_scope.proofs.order.sweep.Goals as goal
use Rattle.go_scope.proofs.order.sweep.Goals.{then-branch, else-branch}

pub loop-declaration-preserved : goal.loop-declaration-preserved
loop-declaration-preserved c =
    let rows = rows_of c.args.rows.now in
    let before = c.loop-declaration.invariant in
    let step = c.in_ok-place.ensures in
    let new = c.place.new.placed in
    elim c.if-branch.branch [
      | then-branch w ↦ (
          let less = step.less w.if-branch.true in
          record {
            placing = step.placing;
            most = omega (arith, less, before.most);
            less = λ e. omega (arith, less, before.most);
            settled = λ e. (let no : true ≡ false = sym w.grew-is ∙ e in cc (no));
          })
      | else-branch w ↦ (
          let not_placed : c.in_ok-place.field-0 ≡ true → ⊥ = λ h. (let no : true ≡ false = sym h ∙ w.if-branch.false in cc (no)) in
          let same = step.same not_placed in
          record {
            placing = step.placing;
            most = subst (λ (p : Placed). unplaced_count p ≤ unplaced_count c.args.placed.now) (sym same) before.most;
            less = λ e. subst (λ (p : Placed). unplaced_count p < unplaced_count c.args.placed.now) (sym same) (before.less (sym w.grew-is ∙ e));
            settled = λ e i lt. elim (cases_eq i c.loop-declaration.declaration) [
              | inl s ↦ subst (λ (x : ℕ). Settled rows new x) (sym s) (step.settled not_placed c.loop-declaration-test.true)
              | inr ne ↦ subst (λ (p : Placed). Settled rows p i) (sym same) (before.settled (sym w.grew-is ∙ e) i (omega (arith, lt, ne)))
            ];
          })
    ]
