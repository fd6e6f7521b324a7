use Rattle.std.proofs.Common.{◌≡◌, ◌<◌, ◌+◌, ◌⊎◌, ℕ, List, [], ◌∷◌, ◌++◌, Some, true, false, sym, ap, ◌∙◌, subst, inl, inr, arith}
use Rattle.std.proofs.lemmas.Bool.{cases_eq}
use Rattle.std.proofs.lemmas.List.Elements.{Contains-append_left, Contains-push, Contains-push_cases}
use Rattle.std.specs.List.{slice_get, Contains}
use Rattle.ws_reach.specs.Reach.{Edge, rows_of}
use Rattle.ws_reach.proofs.Reached.{contains_get, get_contains}
use Rattle.ws_reach.proofs.cycles.closing_at.Goals as goal
use Rattle.ws_reach.proofs.cycles.closing_at.Goals.{then-has_edge+in_ok-push, else-has_edge}

-- the row so far: those of the first nodes that were found that have the edge
record Chosen (rows : List (List ℕ)) (q : ℕ) (found row : List ℕ) (i : ℕ) : Type 0 where
  from : (p : ℕ) → Contains row p → Contains found p × Edge rows p q
  taken : (k p : ℕ) → k < i → slice_get found k ≡ Some p → Edge rows p q → Contains row p

abbrev Next : List (List ℕ) → ℕ → List ℕ → ℕ → List ℕ → Type 0
Next rows q row p row' = ((row' ≡ row ++ p ∷ []) × Edge rows p q) ⊎ ((row' ≡ row) × ¬ (Edge rows p q))

chosen_next : (rows : List (List ℕ)) (q : ℕ) (found row row' : List ℕ) (i p : ℕ) → slice_get found i ≡ Some p → Next rows q row p row' → Chosen rows q found row i → Chosen rows q found row' (i + 1)
chosen_next rows q found row row' i p at (inl (pushed, edge)) h = record {
  from = λ x k. elim (Contains-push_cases row p x (subst (λ (l : List ℕ). Contains l x) pushed k)) [
    | inl old ↦ h.from x old
    | inr new ↦ subst (λ y. Contains found y × Edge rows y q) new (get_contains found i p at, edge)
  ];
  taken = λ k x lt is e. subst (λ (l : List ℕ). Contains l x) (sym pushed) (elim (cases_eq k i) [
    | inl same ↦ (let both : Some p ≡ Some x = sym at ∙ sym (ap (slice_get found) same) ∙ is in let it : p ≡ x = cc in subst (λ y. Contains (row ++ p ∷ []) y) it (Contains-push row p))
    | inr ne ↦ Contains-append_left row (p ∷ []) x (h.taken k x (omega (arith, lt, ne)) is e)
  ]);
}
chosen_next rows q found row row' i p at (inr (kept, none)) h = record {
  from = λ x k. h.from x (subst (λ (l : List ℕ). Contains l x) kept k);
  taken = λ k x lt is e. subst (λ (l : List ℕ). Contains l x) (sym kept) (elim (cases_eq k i) [
    | inl same ↦ (let both : Some p ≡ Some x = sym at ∙ sym (ap (slice_get found) same) ∙ is in let it : p ≡ x = cc in absurd (none (subst (λ y. Edge rows y q) (sym it) e)))
    | inr ne ↦ h.taken k x (omega (arith, lt, ne)) is e
  ]);
}

pub loop-i-preserved : goal.loop-i-preserved
loop-i-preserved c =
    let rows = rows_of c.args.rows.now in
    let found = c.in_ok-found.found.items in
    let p = c.node_at-p.result in
    let at : slice_get found c.loop-i.i ≡ Some p = sym (ap (λ (l : List ℕ). slice_get l c.loop-i.i) c.as_slice.ensures.value) ∙ c.node_at-p.ensures in
    let next : Next rows c.args.q c.loop-i.row.items p c.if-has_edge.row.items = elim c.if-has_edge.branch [
      | then-has_edge+in_ok-push w ↦ inl (ap (λ v. v.items) w.row-is ∙ w.in_ok-push.ensures.items, c.has_edge.ensures.0 w.if-has_edge.true)
      | else-has_edge w ↦ inr (ap (λ v. v.items) w.row-is, λ e. (let t : c.has_edge.result ≡ true = c.has_edge.ensures.1 e in let f = w.if-has_edge.false in let wrong : true ≡ false = sym t ∙ f in cc (wrong)))
    ] in
    let now : Chosen rows c.args.q found c.loop-i.row.items c.loop-i.i = record { from = c.loop-i.invariant.from; taken = c.loop-i.invariant.taken } in
    let then = chosen_next rows c.args.q found c.loop-i.row.items c.if-has_edge.row.items c.loop-i.i p at next now in
    record { from = then.from; taken = then.taken }

pub returns : goal.returns
returns c = λ p. (
  λ k. (let h = c.loop-i.invariant.from p k in (h.1, (c.in_ok-found.ensures p).0 h.0)),
  λ h. (let k = (c.in_ok-found.ensures p).1 h.1 in
      c.loop-i.invariant.taken k.0 p (let lt = k.1 in omega (arith, lt, c.loop-i-test.false)) (contains_get c.in_ok-found.found.items p k) h.0),
)
