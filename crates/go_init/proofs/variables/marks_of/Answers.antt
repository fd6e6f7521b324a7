use Rattle.std.proofs.Common.{Bool, false, IsTrue, List, length, ap, ◌∙◌, subst, arith}
use Rattle.std.proofs.Math.ListN.{length-replicate}
use Rattle.ws_reach.proofs.Reached.{contains_get}
use Rattle.ws_reach.specs.Worklist.{is_marked}
use Rattle.go_init.proofs.Marked.{marked_next, none_marked}
use Rattle.go_init.proofs.variables.marks_of.Goals as goal

pub loop-i-init : goal.loop-i-init
loop-i-init c =
    let is = c.in_ok-marks.ensures.items_if_clones_equal (λ x e. e) in
    record {
      size = ap length is ∙ length-replicate c.args.count false;
      from = λ k m. absurd (none_marked c.args.count k (subst (λ (l : List Bool). IsTrue (is_marked l k)) is m));
      taken = λ j k lt. absurd (omega (arith, lt));
    }

pub loop-i-preserved : goal.loop-i-preserved
loop-i-preserved c = marked_next c.args.numbers.now c.loop-i.marks.items c.mark.new.marks.items c.args.count c.loop-i.i c.node_at.result c.node_at.ensures c.mark.ensures c.loop-i.invariant

pub returns-clause-marks : goal.returns-clause-marks
returns-clause-marks c = λ k below. (
  c.loop-i.invariant.from k,
  λ h. c.loop-i.invariant.taken h.0 k (let lt = h.1 in omega (arith, lt, c.loop-i-test.false)) below (contains_get c.args.numbers.now k h),
)
