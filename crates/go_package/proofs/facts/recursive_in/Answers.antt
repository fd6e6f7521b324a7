use Rattle.std.proofs.Common.{◌+◌, ◌≤◌, ◌↔◌, ℕ, IsTrue, List, length, ap, ◌∙◌, subst, arith}
use Rattle.std.specs.Global.{Vec}
use Rattle.std.proofs.lemmas.List.{length_push}
use Rattle.ws_reach.specs.Reach.{Edge, Reaches, rows_of}
use Rattle.ws_reach.proofs.Rows.{length-rows}
use Rattle.go_scope.specs.Order.{DependsOnItself}
use Rattle.go_package.proofs.Marks.{one_more, all_marked}
use Rattle.go_package.proofs.facts.recursive_in.Goals as goal

-- some edge to it closes a cycle
on_cycle : (rows closing : List (List ℕ)) (k : ℕ) → ((q p : ℕ) → Edge closing q p ↔ (Edge rows p q × Reaches (Edge rows) q p)) → ((q : ℕ) × Edge closing k q) ↔ DependsOnItself rows k
on_cycle rows closing k are = (
  λ h. (let c = (are k h.0).0 h.1 in (h.0, c.1, c.0)),
  λ d. (d.0, (are k d.0).1 (d.2, d.1)),
)

pub loop-number-preserved : goal.loop-number-preserved
loop-number-preserved c =
    let rows = rows_of c.args.rows.now in
    let old = c.loop-number.recursive.items in
    let b = c.has_edges.result in
    let k = c.loop-number.number in
    let on = on_cycle rows (rows_of c.in_ok-closing.closing.items) k c.in_ok-closing.ensures in
    let has = subst (λ (l : List (Vec ℕ)). IsTrue b ↔ ((q : ℕ) × Edge (rows_of l) k q)) c.as_slice.ensures.value c.has_edges.ensures in
    let here : IsTrue b ↔ DependsOnItself rows k = (λ t. on.0 (has.0 t), λ d. has.1 (on.1 d)) in
    record {
      size = ap length c.in_ok-push.ensures.items ∙ length_push old b ∙ ap (λ n. n + 1) c.loop-number.invariant.size;
      marks = one_more (DependsOnItself rows) old c.push.new.self.items b k c.in_ok-push.ensures.items c.loop-number.invariant.size c.loop-number.invariant.marks here;
    }

pub returns : goal.returns
returns c =
    let rows = rows_of c.args.rows.now in
    let all : length rows ≤ c.loop-number.number = omega (arith, c.loop-number-test.false, length-rows c.args.rows.now) in
    all_marked rows c.loop-number.recursive.items c.loop-number.number c.requires all c.loop-number.invariant.size c.loop-number.invariant.marks
