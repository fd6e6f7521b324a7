-- The edges of a condensation, row by row.
use Rattle.std.proofs.Common.{◌≡◌, ◌⊎◌, ℕ, ◌+◌, ◌<◌, ◌≤◌, List, length, slice_index, Some, refl, sym, ap, ◌∙◌, subst, inl, inr, arith}
use Rattle.std.specs.Prelude.{◌↔◌}
use Rattle.std.proofs.lemmas.Bool.{cases_eq}
use Rattle.std.proofs.lemmas.List.{get_or_default, get_or_past}
use Rattle.std.proofs.lemmas.Option.{slice_get_within}
use Rattle.std.specs.List.{slice_get}
use Rattle.ws_reach.proofs.Reached.{contains_get, get_contains}
use Rattle.ws_reach.specs.Reach.{Edge}
use Rattle.go_init.specs.Condensation.{HasOther, IsRenumbered, WaitsForReferred, WaitsForRoot, root_of}

pub one_number : (count functions node p q : ℕ) → IsRenumbered count functions node p → IsRenumbered count functions node q → p ≡ q
one_number count functions node p q (inl (a, b)) (inl (c, d)) = omega (arith, b, d)
one_number count functions node p q (inl (a, b)) (inr (c, d)) = absurd (omega (arith, a, d))
one_number count functions node p q (inr (a, b)) (inl (c, d)) = absurd (omega (arith, b, c))
one_number count functions node p q (inr (a, b)) (inr (c, d)) = omega (arith, b, d)

-- the number of what refers is within both
pub source_inside : (count : ℕ) (roots : List ℕ) (node number : ℕ) → node < count + length roots → ((x : ℕ) → x < length roots → slice_index roots x < length roots) → IsRenumbered count (length roots) node number → root_of roots number < count + length roots
source_inside count roots node number lt inside (inl (low, is)) = (let own = get_or_past roots number number (omega (arith, is)) in omega (arith, own, is, low))
source_inside count roots node number lt inside (inr (low, is)) = (let own = get_or_default roots number number 0 low in let root = inside number low in omega (arith, own, root))

-- ---- a function waits for its root

-- the edge was added, or left out as the function is its own root
abbrev pub NextRoot : List (List ℕ) → List (List ℕ) → List ℕ → ℕ → Type 0
NextRoot now next roots f =
    ((¬ (slice_index roots f ≡ f)) × ((p q : ℕ) → Edge next p q ↔ (Edge now p q ⊎ ((p ≡ f) × (q ≡ slice_index roots f))))) ⊎ ((next ≡ now) × (slice_index roots f ≡ f))

abbrev pub AreToRoots : List (List ℕ) → List ℕ → ℕ → Type 0
AreToRoots now roots f = (p q : ℕ) → Edge now p q ↔ ((p < f) × WaitsForRoot roots p q)

pub to_roots_next : (now next : List (List ℕ)) (roots : List ℕ) (f : ℕ) → f < length roots → NextRoot now next roots f → AreToRoots now roots f → AreToRoots next roots (f + 1)
to_roots_next now next roots f inside (inl (other, added)) h p q = (
  λ e. elim ((added p q).0 e) [
    | inl old ↦ (let r = (h p q).0 old in let lt = r.0 in (omega (arith, lt), r.1))
    | inr new ↦ (let same = new.0 in (
      omega (arith, same),
      (omega (arith, same, inside), λ own. other (subst (λ z. slice_index roots z ≡ z) same own), new.1 ∙ ap (slice_index roots) (sym same)),
    ))
  ],
  λ r. elim (cases_eq p f) [
    | inl same ↦ (added p q).1 (inr (same, (r.1).2 ∙ ap (slice_index roots) same))
    | inr ne ↦ (added p q).1 (inl ((h p q).1 (let lt = r.0 in omega (arith, lt, ne), r.1)))
  ],
)
to_roots_next now next roots f inside (inr (same_rows, own)) h p q = (
  λ e. (let r = (h p q).0 (subst (λ (l : List (List ℕ)). Edge l p q) same_rows e) in let lt = r.0 in (omega (arith, lt), r.1)),
  λ r. elim (cases_eq p f) [
    | inl same ↦ absurd ((r.1).1 (subst (λ z. slice_index roots z ≡ z) (sym same) own))
    | inr ne ↦ subst (λ (l : List (List ℕ)). Edge l p q) (sym same_rows) ((h p q).1 (let lt = r.0 in omega (arith, lt, ne), r.1))
  ],
)

-- ---- what waits by a row

pub record Waiting (old now : List (List ℕ)) (count : ℕ) (roots row : List ℕ) (source i : ℕ) : Type 0 where
  pub stay : (p q : ℕ) → Edge old p q → Edge now p q
  pub from : (p q : ℕ) → Edge now p q → Edge old p q ⊎ ((p ≡ source) × HasOther count roots row source q)
  pub taken : (k node q : ℕ) → k < i → slice_get row k ≡ Some node → IsRenumbered count (length roots) node q → (q < length roots → ¬ (slice_index roots q ≡ source)) → Edge now source q

-- the edge was added, or left out as it leads to a function whose root is the source
abbrev pub NextWaiting : List (List ℕ) → List (List ℕ) → List ℕ → ℕ → ℕ → Type 0
NextWaiting now next roots source number =
    ((¬ ((number < length roots) × (slice_index roots number ≡ source))) × ((p q : ℕ) → Edge next p q ↔ (Edge now p q ⊎ ((p ≡ source) × (q ≡ number)))))
    ⊎ ((next ≡ now) × (number < length roots) × (slice_index roots number ≡ source))

module _ (old now next : List (List ℕ)) (count : ℕ) (roots row : List ℕ) (source i node number : ℕ) (at : slice_get row i ≡ Some node) (renumbered : IsRenumbered count (length roots) node number) where
  its_number : (k other q : ℕ) → k ≡ i → slice_get row k ≡ Some other → IsRenumbered count (length roots) other q → q ≡ number
  its_number k other q same is r =
      let both : Some other ≡ Some node = sym is ∙ ap (slice_get row) same ∙ at in
      let it : other ≡ node = cc in
      one_number count (length roots) node q number (subst (λ z. IsRenumbered count (length roots) z q) it r) renumbered

  pub waiting_next : NextWaiting now next roots source number → Waiting old now count roots row source i → Waiting old next count roots row source (i + 1)
  waiting_next (inl (outside, added)) h = record {
    stay = λ p q e. (added p q).1 (inl (h.stay p q e));
    from = λ p q e. elim ((added p q).0 e) [
      | inl before ↦ h.from p q before
      | inr here ↦ inr (
        here.0,
        subst (HasOther count roots row source) (sym here.1) (node, get_contains row i node at, renumbered, λ lt own. outside (lt, own)),
      )
    ];
    taken = λ k other q lt is r leaves. elim (cases_eq k i) [
      | inl same ↦ (added source q).1 (inr (refl, its_number k other q same is r))
      | inr ne ↦ (added source q).1 (inl (h.taken k other q (omega (arith, lt, ne)) is r leaves))
    ];
  }
  waiting_next (inr (same_rows, inside, own)) h = record {
    stay = λ p q e. subst (λ (l : List (List ℕ)). Edge l p q) (sym same_rows) (h.stay p q e);
    from = λ p q e. h.from p q (subst (λ (l : List (List ℕ)). Edge l p q) same_rows e);
    taken = λ k other q lt is r leaves. elim (cases_eq k i) [
      | inl same ↦ (
          let it = its_number k other q same is r in
          absurd (leaves (omega (arith, it, inside)) (ap (slice_index roots) it ∙ own)))
      | inr ne ↦ subst (λ (l : List (List ℕ)). Edge l source q) (sym same_rows) (h.taken k other q (omega (arith, lt, ne)) is r leaves)
    ];
  }

pub waiting_end : (old now : List (List ℕ)) (count : ℕ) (roots row : List ℕ) (source i : ℕ) → length row ≤ i → Waiting old now count roots row source i
    → (p q : ℕ) → Edge now p q ↔ (Edge old p q ⊎ ((p ≡ source) × HasOther count roots row source q))
waiting_end old now count roots row source i past h p q = (
  h.from p q,
  λ e. elim e [
    | inl before ↦ h.stay p q before
    | inr new ↦ (
        let o = new.1 in
        subst (λ z. Edge now z q) (sym new.0) (h.taken (o.1).0 o.0 q (let lt = (o.1).1 in omega (arith, lt, past)) (contains_get row o.0 o.1) o.2 o.3))
  ],
)

-- ---- what waits by all rows

pub record Condensing (rows now : List (List ℕ)) (count : ℕ) (roots : List ℕ) (n : ℕ) : Type 0 where
  pub stay : (p q : ℕ) → WaitsForRoot roots p q → Edge now p q
  pub from : (p q : ℕ) → Edge now p q → WaitsForRoot roots p q ⊎ WaitsForReferred rows count roots p q
  pub taken : (node number : ℕ) (row : List ℕ) (q : ℕ) → node < n → slice_get rows node ≡ Some row → IsRenumbered count (length roots) node number → HasOther count roots row (root_of roots number) q → Edge now (root_of roots number) q

pub condensing_next : (rows now next : List (List ℕ)) (count : ℕ) (roots : List ℕ) (n number : ℕ) (row : List ℕ) → slice_get rows n ≡ Some row → IsRenumbered count (length roots) n number
    → ((p q : ℕ) → Edge next p q ↔ (Edge now p q ⊎ ((p ≡ root_of roots number) × HasOther count roots row (root_of roots number) q)))
    → Condensing rows now count roots n → Condensing rows next count roots (n + 1)
condensing_next rows now next count roots n number row at renumbered added h = record {
  stay = λ p q w. (added p q).1 (inl (h.stay p q w));
  from = λ p q e. elim ((added p q).0 e) [
    | inl before ↦ h.from p q before
    | inr here ↦ inr (n, number, row, at, renumbered, here.0, subst (λ z. HasOther count roots row z q) (sym here.0) here.1)
  ];
  taken = λ node own its q lt is r o. elim (cases_eq node n) [
    | inl same ↦ (
        let both : Some its ≡ Some row = sym is ∙ ap (slice_get rows) same ∙ at in
        let it : its ≡ row = cc in
        let same_number : own ≡ number = one_number count (length roots) n own number (subst (λ z. IsRenumbered count (length roots) z own) same r) renumbered in
        (added (root_of roots own) q).1 (inr (ap (root_of roots) same_number, subst (λ z. HasOther count roots row (root_of roots z) q) same_number (subst (λ (l : List ℕ). HasOther count roots l (root_of roots own) q) it o))))
    | inr ne ↦ (added (root_of roots own) q).1 (inl (h.taken node own its q (omega (arith, lt, ne)) is r o))
  ];
}

pub condensing_end : (rows now : List (List ℕ)) (count : ℕ) (roots : List ℕ) (n : ℕ) → length rows ≤ n → Condensing rows now count roots n
    → (p q : ℕ) → Edge now p q ↔ (WaitsForRoot roots p q ⊎ WaitsForReferred rows count roots p q)
condensing_end rows now count roots n past h p q = (
  h.from p q,
  λ e. elim e [
    | inl root ↦ h.stay p q root
    | inr w ↦ subst (λ z. Edge now z q) (sym w.5) (h.taken w.0 w.1 w.2 q (let lt = slice_get_within rows w.0 w.2 w.3 in omega (arith, lt, past)) w.3 w.4 (subst (λ z. HasOther count roots w.2 z q) w.5 w.6))
  ],
)
