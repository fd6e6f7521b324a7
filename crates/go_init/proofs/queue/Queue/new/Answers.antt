use Rattle.std.proofs.Common.{◌≡◌, ◌≤◌, ◌+◌, ℕ, List, [], false, length, sym, ap, ◌∙◌, subst, inl, inr, arith}
use Rattle.std.specs.List.{Contains}
use Rattle.std.proofs.lemmas.Bool.{cases_eq}
use Rattle.std.proofs.Math.ListN.{length-replicate}
use Rattle.std.proofs.lemmas.Option.{slice_get_within}
use Rattle.ws_reach.specs.Reach.{rows_of}
use Rattle.ws_reach.proofs.Rows.{length-rows}
use Rattle.go_init.specs.Queues.{IsLeft}
use Rattle.go_init.proofs.Members.{one_of}
use Rattle.go_init.proofs.Queued.{left_at_first, none_other, put_queued}
use Rattle.go_init.proofs.queue.Queue.new.Goals as goal

pub loop-number-init : goal.loop-number-init
loop-number-init c = (
    let listed = c.in_ok-vec.ensures.items_if_clones_equal (λ x e. e) in
    let len : length c.in_ok-vec.field-0.items ≡ length c.args.rows.now = ap length listed ∙ length-replicate (length c.args.rows.now) false in
    let size : length (rows_of c.args.rows.now) ≡ length c.in_ok-vec.field-0.items = length-rows c.args.rows.now ∙ sym len in
    record {
      listed = listed;
      queued = record {
        count = c.in_ok-no_waiters.ensures.count ∙ sym len;
        size = size;
        ready = λ k h. absurd (one_of [] k (subst (λ (l : List ℕ). Contains l k) c.new.ensures.empty h));
        waiting = λ j w h. absurd (c.in_ok-no_waiters.ensures.none j w h);
        all = λ k h. inr (inr (omega arith));
      };
    })

pub loop-number-preserved : goal.loop-number-preserved
loop-number-preserved c =
    let rows = rows_of c.args.rows.now in
    let n = c.loop-number.number in
    let old = c.loop-number.queue in
    let put = c.in_ok-put.ensures in
    record {
      listed = put.listed ∙ c.loop-number.invariant.listed;
      queued = put_queued rows old c.put.new.self c.row_at.result.now n 0 (λ k. n ≤ k) (λ k. n + 1 ≤ k) c.loop-number.invariant.queued put c.row_at.ensures
          (subst (λ l. IsLeft l n) (sym c.loop-number.invariant.listed) (left_at_first (length c.args.rows.now) n c.loop-number-test.true)) (λ i j low high. absurd (omega (arith, high))) (λ k le. elim (cases_eq k n) [ inl e ↦ inl e | inr ne ↦ inr (omega (arith, le, ne)) ]);
    }

pub returns-clause-queued : goal.returns-clause-queued
returns-clause-queued c =
    none_other (rows_of c.args.rows.now) c.loop-number.queue (λ k. c.loop-number.number ≤ k) c.loop-number.invariant.queued
    (λ k left le. (let lt = slice_get_within c.loop-number.queue.listed.items k false left in
    let size = c.loop-number.invariant.queued.size in
    absurd (omega (arith, lt, le, size, length-rows c.args.rows.now, c.loop-number-test.false))))
