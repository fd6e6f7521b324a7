-- Roots: a root takes all to which edges lead from it, unless they have one.
use Rattle.std.proofs.Common.{◌≡◌, ◌⊎◌, ℕ, ◌+◌, ◌<◌, ◌≤◌, List, [], ◌∷◌, length, replicate, slice_index, Some, refl, sym, ap, ◌∙◌, subst, inl, inr, arith}
use Rattle.std.proofs.Math.ListN.{length-replicate}
use Rattle.std.proofs.lemmas.Bool.{cases_lt, cases_eq}
use Rattle.std.proofs.lemmas.List.{get_or-replicate}
use Rattle.std.proofs.lemmas.Option.{slice_get_within}
use Rattle.std.specs.List.{Contains, slice_get}
use Rattle.ws_reach.proofs.Marks.{contains_none, contains_one, grows_contains, grows_get, grows_length}
use Rattle.ws_reach.proofs.Reached.{contains_get, get_contains, reaches_more, reaches_stay}
use Rattle.ws_reach.specs.Components.{AreAlike}
use Rattle.ws_reach.specs.Reach.{Edge, Reaches}
use Rattle.ws_reach.specs.Worklist.{AllBelow, Grows, Noted}
use Rattle.go_init.specs.Condensation.{AreRooted}

-- A root is at work: of what was found the first ones were looked at, as many as next.
pub record Rooting (rows : List (List ℕ)) (size root : ℕ) (old before found roots : List ℕ) (next : ℕ) : Type 0 where
  pub count : length roots ≡ size
  pub first : Contains found root
  pub stay : (x : ℕ) → Contains old x → Contains found x
  pub kept : (x : ℕ) → Contains old x → slice_index roots x ≡ slice_index before x
  pub new : (x : ℕ) → x < size → slice_index roots x < size → Contains old x ⊎ ((slice_index roots x ≡ root) × Contains found x)
  pub from : (x : ℕ) → Contains found x → Contains old x ⊎ Reaches (Edge rows) root x
  pub seen : (j x : ℕ) → j < next → slice_get found j ≡ Some x → (slice_index roots x < size) × ((y : ℕ) → Edge rows x y → Contains found y)
  pub inside : next ≤ length found

module _ (rows : List (List ℕ)) (size root : ℕ) (old before : List ℕ) (rooted : AreRooted rows size old before) where
  pub rooting_start : (found : List ℕ) → Grows old found → Contains found root → ((x : ℕ) → Contains found x → Contains old x ⊎ Contains (root ∷ []) x) → Rooting rows size root old before found before (length old)
  rooting_start found grows first from = record {
    count = rooted.count;
    first = first;
    stay = λ x k. grows_contains old found grows x k;
    kept = λ x k. refl;
    new = λ x lt r. inl (rooted.only x lt r);
    from = λ x k. elim (from x k) [ inl o ↦ inl o | inr one ↦ inr ([], sym (contains_one x root one)) ];
    seen = λ j x lt is. (
        let k : Contains old x = get_contains old j x (sym (grows_get old found grows j lt) ∙ is) in
        ((rooted.rooted x k).1, λ y e. grows_contains old found grows y (rooted.closed x y k e).0));
    inside = grows_length old found grows;
  }

  pub rooting_next : (found found' roots roots' : List ℕ) (next here : ℕ) → root < size → Rooting rows size root old before found roots next → slice_get found next ≡ Some here
      → length roots' ≡ length roots → ((x : ℕ) → (x ≡ here → ⊥) → slice_index roots' x ≡ slice_index roots x)
      → (slice_index roots here < length roots → slice_index roots' here ≡ slice_index roots here)
      → ((slice_index roots here < length roots → ⊥) → slice_index roots' here ≡ root)
      → Grows found found' → ((y : ℕ) → Edge rows here y → Contains found' y) → ((x : ℕ) → Contains found' x → Contains found x ⊎ Edge rows here x)
      → Rooting rows size root old before found' roots' (next + 1)
  rooting_next found found' roots roots' next here root_in h at same_count others kept set grows taken from =
      let into : (x : ℕ) → Contains found x → Contains found' x = λ x k. grows_contains found found' grows x k in
      let here_in : Contains found here = get_contains found next here at in
      -- what has a root keeps it
      let keeps : (x : ℕ) → slice_index roots x < size → slice_index roots' x ≡ slice_index roots x = λ x lt. elim (cases_eq x here) [
        | inr ne ↦ others x ne
        | inl same ↦ (
            let low : slice_index roots here < length roots = subst (λ z. slice_index roots z < length roots) same (omega (arith, lt, h.count)) in
            subst (λ z. slice_index roots' z ≡ slice_index roots z) (sym same) (kept low))
      ] in
      let still : (x : ℕ) → slice_index roots x < size → slice_index roots' x < size = λ x lt. (let e = keeps x lt in omega (arith, lt, e)) in
      let here_has : slice_index roots' here < size = elim (cases_lt (slice_index roots here) size) [
        | inl lt ↦ still here lt
        | inr high ↦ (let e = set (λ lt. (let c = h.count in omega (arith, lt, high, c))) in omega (arith, e, root_in))
      ] in
      record {
        count = same_count ∙ h.count;
        first = into root h.first;
        stay = λ x k. into x (h.stay x k);
        kept = λ x k. keeps x (let e = h.kept x k in let lt = (rooted.rooted x k).1 in omega (arith, e, lt)) ∙ h.kept x k;
        new = λ x lt r. elim (cases_lt (slice_index roots x) size) [
          | inl low ↦ elim (h.new x lt low) [ inl o ↦ inl o | inr n ↦ inr (keeps x low ∙ n.0, into x n.1) ]
          | inr high ↦ elim (cases_eq x here) [
            | inl same ↦ inr (
              subst (λ z. slice_index roots' z ≡ root) (sym same) (set (λ l. (let c = h.count in let e : slice_index roots x ≡ slice_index roots here = ap (slice_index roots) same in omega (arith, l, high, c, e)))),
              subst (Contains found') (sym same) (into here here_in),
            )
            | inr ne ↦ (let e = others x ne in absurd (omega (arith, r, high, e)))
          ]
        ];
        from = λ x k. elim (from x k) [
          | inl o ↦ h.from x o
          | inr e ↦ elim (h.from here here_in) [
            | inl o ↦ inl (rooted.closed here x o e).0
            | inr way ↦ inr (reaches_more (Edge rows) root here x way e)
          ]
        ];
        seen = λ j x lt is. elim (cases_eq j next) [
          | inl same ↦ (
              let at' : slice_get found' next ≡ Some here = grows_get found found' grows next (slice_get_within found next here at) ∙ at in
              let both : Some x ≡ Some here = sym is ∙ ap (slice_get found') same ∙ at' in
              let it : here ≡ x = cc in
              (subst (λ z. slice_index roots' z < size) it here_has, λ y e. taken y (subst (λ z. Edge rows z y) (sym it) e)))
          | inr ne ↦ (
              let below : j < next = omega (arith, lt, ne) in
              let inside : j < length found = omega (arith, below, h.inside) in
              let s = h.seen j x below (sym (grows_get found found' grows j inside) ∙ is) in
              (still x s.0, λ y e. into y (s.1 y e)))
        ];
        inside = (let lt = slice_get_within found next here at in omega (arith, lt, grows_length found found' grows));
      }

  pub rooting_end : (found roots : List ℕ) (next : ℕ) → ((p q : ℕ) → Edge rows p q → Reaches (Edge rows) q p) → AllBelow size found → Rooting rows size root old before found roots next → length found ≤ next
      → AreRooted rows size found roots
  rooting_end found roots next back below h end =
      let seen : (x : ℕ) → Contains found x → (slice_index roots x < size) × ((y : ℕ) → Edge rows x y → Contains found y) = λ x k. h.seen k.0 x (let lt = k.1 in omega (arith, lt, end)) (contains_get found x k) in
      let side : (x : ℕ) → Contains found x → Contains old x ⊎ (slice_index roots x ≡ root) = λ x k. elim (h.new x (below x k) (seen x k).0) [ inl o ↦ inl o | inr n ↦ inr n.0 ] in
      let reached_old : (x : ℕ) → Contains old x → Reaches (Edge rows) (slice_index roots x) x = λ x o. subst (λ r. Reaches (Edge rows) r x) (sym (h.kept x o)) (rooted.reached x o) in
      -- where edges lead from one that had a root, roots are alike
      let alike_old : (x y : ℕ) → Contains old x → Edge rows x y → AreAlike roots x y = λ x y o e. (let c = rooted.closed x y o e in h.kept x o ∙ c.1 ∙ sym (h.kept y c.0)) in
      let walked : (y x : ℕ) → Contains old y → Reaches (Edge rows) y x → Contains old x × AreAlike roots y x = λ y x o way.
      reaches_stay (Edge rows) (λ z. Contains old z × AreAlike roots y z) (λ z w p e. ((rooted.closed z w p.0 e).0, p.1 ∙ alike_old z w p.0 e)) y x way (o, refl) in
      record {
        count = h.count;
        rooted = λ x k. (below x k, (seen x k).0);
        only = λ x lt r. elim (h.new x lt r) [ inl o ↦ h.stay x o | inr n ↦ n.1 ];
        reached = λ x k. elim (side x k) [
          | inl o ↦ reached_old x o
          | inr is ↦ elim (h.from x k) [ inl o ↦ reached_old x o | inr way ↦ subst (λ r. Reaches (Edge rows) r x) (sym is) way ]
        ];
        closed = λ x y k e. (
          (seen x k).1 y e,
          elim (side x k) [
            | inl o ↦ alike_old x y o e
            | inr is ↦ elim (side y ((seen x k).1 y e)) [
              | inr same ↦ is ∙ sym same
              | inl o ↦ sym (walked y x o (back x y e)).1
            ]
          ],
        );
      }

-- none has a root yet
pub rooted_none : (rows : List (List ℕ)) (size : ℕ) (met : Noted) (roots : List ℕ) → met ≡ record { size = size; found = [] } → roots ≡ replicate size size → AreRooted rows size met.found roots
rooted_none rows size met roots empty is =
    let none : (x : ℕ) → Contains met.found x → ⊥ = λ x k. contains_none met.found (ap (λ (n : Noted). n.found) empty) x k in
    record {
      count = ap length is ∙ length-replicate size size;
      rooted = λ x k. absurd (none x k);
      only = λ x lt r. (let e : slice_index roots x ≡ size = ap (λ (l : List ℕ). slice_index l x) is ∙ get_or-replicate size x size 0 lt in absurd (omega (arith, r, e)));
      reached = λ x k. absurd (none x k);
      closed = λ x y k e. absurd (none x k);
    }
