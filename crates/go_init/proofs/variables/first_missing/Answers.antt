use Rattle.std.proofs.Common.{◌≡◌, ◌<◌, ℕ, Bool, IsTrue, List, length, ap, ◌∙◌, subst, arith}
use Rattle.std.specs.List.{Contains}
use Rattle.ws_reach.specs.Worklist.{is_marked}
use Rattle.go_init.proofs.Marked.{if_none, if_some}
use Rattle.go_init.proofs.variables.first_missing.Goals as goal

pub returns-clause-none : goal.returns-clause-none
returns-clause-none c =
    let order = c.args.order.now in
    let marks = c.as_slice.result.now in
    let size : length marks ≡ c.args.count = ap length c.as_slice.ensures.value ∙ c.in_ok-marks.ensures.size in
    let are : (k : ℕ) → k < c.args.count → IsTrue (is_marked marks k) → Contains order k = λ k lt h. (c.in_ok-marks.ensures.marks k lt).0 (subst (λ (l : List Bool). IsTrue (is_marked l k)) c.as_slice.ensures.value h) in
    if_none ((k : ℕ) → k < length marks → IsTrue (is_marked marks k)) ((k : ℕ) → k < c.args.count → Contains order k) c.first_unmarked.result
    (λ all k lt. are k lt (all k (omega (arith, lt, size)))) c.first_unmarked.ensures.none

pub returns-clause-before : goal.returns-clause-before
returns-clause-before c =
    let order = c.args.order.now in
    let marks = c.as_slice.result.now in
    let size : length marks ≡ c.args.count = ap length c.as_slice.ensures.value ∙ c.in_ok-marks.ensures.size in
    let are : (k : ℕ) → k < c.args.count → IsTrue (is_marked marks k) → Contains order k = λ k lt h. (c.in_ok-marks.ensures.marks k lt).0 (subst (λ (l : List Bool). IsTrue (is_marked l k)) c.as_slice.ensures.value h) in
    if_some (λ number. number < length marks) (λ number. (k : ℕ) → k < number → IsTrue (is_marked marks k)) (λ number. (k : ℕ) → k < number → Contains order k) c.first_unmarked.result
    (λ number within all k lt. are k (omega (arith, lt, within, size)) (all k lt)) c.first_unmarked.ensures.within c.first_unmarked.ensures.before
