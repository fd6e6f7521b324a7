-- Laws on package order.
use Rattle.std.proofs.Common.{◌≡◌, ℕ, zero, suc, ◌+◌, ◌<◌, ◌≤◌, true, List, [], ◌∷◌, ◌++◌, length, refl, sym, ap, ◌∙◌, subst, inl, inr, arith, append_assoc}
use Rattle.std.specs.Prelude.{◌↔◌, nat_eq}
use Rattle.std.specs.List.{All, Contains, range_with_len}
use Rattle.std.proofs.lemmas.Bool.{cases_eq, eqb-true, eq-eqb}
use Rattle.std.proofs.lemmas.Option.{slice_get_within}
use Rattle.ws_reach.specs.Reach.{Edge, Reaches}
use Rattle.ws_reach.proofs.Closure.{IsOneOf}
use Rattle.ws_reach.proofs.Reached.{no_cycle, reaches_stay}
use Rattle.go_init.specs.Packages.{imports, package_order}
use Rattle.go_init.specs.Turns.{in_turn}
use Rattle.go_init.proofs.Circles.{circle}
use Rattle.go_init.proofs.Members.{Apart, all_of, any_one, around, contained, one_any, one_here, one_left, one_of}
use Rattle.go_init.proofs.Turns.{AreTurns, turns_are}

-- ---- numbers in order

pub in_range : (a n k : ℕ) → IsOneOf k (range_with_len a n) → (a ≤ k) × (k < a + n)
in_range a zero k h = absurd h
in_range a (suc n) k (inl e) = (omega (arith, e), omega (arith, e))
in_range a (suc n) k (inr h) = (let r = in_range (a + 1) n k h in let low = r.0 in let high = r.1 in (omega (arith, low), omega (arith, high)))

pub range_has : (a n k : ℕ) → a ≤ k → k < a + n → IsOneOf k (range_with_len a n)
range_has a zero k low high = absurd (omega (arith, low, high))
range_has a (suc n) k low high = elim (cases_eq k a) [
  | inl same ↦ inl same
  | inr ne ↦ inr (range_has (a + 1) n k (omega (arith, low, ne)) (omega (arith, high)))
]

range_apart : (a n : ℕ) → Apart (range_with_len a n)
range_apart a zero = tt
range_apart a (suc n) = (λ h. (let r = in_range (a + 1) n a h in let low = r.0 in absurd (omega (arith, low))), range_apart (a + 1) n)

-- ---- edges

pub edge_of : (rows : List (List ℕ)) (k j : ℕ) → imports rows k j ≡ true → Edge rows k j
edge_of [] k j is = cc
edge_of (row ∷ rows) zero j is = (let one = any_one (nat_eq j) row is in (row, refl, contained row j (subst (λ x. IsOneOf x row) (sym (eqb-true j one.0 one.2)) one.1)))
edge_of (row ∷ rows) (suc k) j is = edge_of rows k j is

pub edge_is : (rows : List (List ℕ)) (k j : ℕ) → Edge rows k j → imports rows k j ≡ true
edge_is [] k j (row, at, has) = cc
edge_is (first ∷ rows) zero j (row, at, has) =
    let same : first ≡ row = cc in
    one_any (nat_eq j) first j (subst (λ l. IsOneOf j l) (sym same) (one_of row j has)) (eq-eqb j j refl)
edge_is (first ∷ rows) (suc k) j (row, at, has) = edge_is rows k j (row, at, has)

-- ---- package order

module _ (rows : List (List ℕ)) where
  numbers : List ℕ
  numbers = range_with_len 0 (length rows)

  left_over : List ℕ
  left_over = (in_turn (imports rows) numbers).1

  are : AreTurns (imports rows) (length numbers) numbers (package_order rows) left_over
  unfolding numbers left_over
  are = turns_are (imports rows) (length numbers) numbers

  inside : (k : ℕ) → IsOneOf k (package_order rows) → k < length rows
  unfolding numbers
  inside k h = (let r = in_range 0 (length rows) k (are.within k h) in let high = r.1 in omega (arith, high))

  number : (k : ℕ) → k < length rows → IsOneOf k numbers
  unfolding numbers
  number k lt = range_has 0 (length rows) k (omega arith) (omega (arith, lt))

  before_it : (before after : List ℕ) (k j : ℕ) → package_order rows ≡ before ++ k ∷ after → Edge rows k j → j < length rows → IsOneOf j before
  before_it before after k j is e lt = are.behind before after k j is (number j lt) (edge_is rows k j e)

  not_twice : (before after : List ℕ) (k : ℕ) → package_order rows ≡ before ++ k ∷ after → IsOneOf k before → ⊥
  unfolding numbers
  not_twice before after k is h = are.once (range_apart 0 (length rows)) before after k is h

  -- what a front imports is in it
  closed : (front back : List ℕ) → package_order rows ≡ front ++ back → (y x : ℕ) → IsOneOf y front → Edge rows y x → x < length rows → IsOneOf x front
  closed front back is y x h e lt =
      let s = around front y h in
      let all : package_order rows ≡ s.0 ++ y ∷ (s.1 ++ back) = is ∙ ap (λ l. l ++ back) s.2 ∙ append_assoc s.0 (y ∷ s.1) back in
      subst (λ l. IsOneOf x l) (sym s.2) (one_left s.0 (y ∷ s.1) x (before_it s.0 (s.1 ++ back) y x all e lt))

  reached_within : (front back : List ℕ) → package_order rows ≡ front ++ back → (p q : ℕ) → Reaches (Edge rows) p q → (p < length rows → IsOneOf p front) → q < length rows → IsOneOf q front
  reached_within front back is p q way here =
      reaches_stay (Edge rows) (λ x. x < length rows → IsOneOf x front)
      (λ y x inside_y e lt. closed front back is y x (inside_y (slice_get_within rows y e.0 e.1)) e lt) p q way here

  -- ---- the laws

  pub below : All (λ k. k < length rows) (package_order rows)
  below = all_of (λ k. k < length rows) (package_order rows) inside

  pub once : (before after : List ℕ) (k : ℕ) → package_order rows ≡ before ++ k ∷ after → ¬ (Contains before k)
  once before after k is h = not_twice before after k is (one_of before k h)

  pub behind : (before after : List ℕ) (k j : ℕ) → package_order rows ≡ before ++ k ∷ after → Edge rows k j → j < length rows → Contains before j
  behind before after k j is e lt = contained before j (before_it before after k j is e lt)

  on_no_circle : ((k : ℕ) → k < length rows → Contains (package_order rows) k) → (p q : ℕ) → Edge rows p q → ¬ (Reaches (Edge rows) q p)
  on_no_circle all p q e back =
      let lt : p < length rows = slice_get_within rows p e.0 e.1 in
      let s = around (package_order rows) p (one_of (package_order rows) p (all p lt)) in
      not_twice s.0 s.1 p s.2 (reached_within s.0 (p ∷ s.1) s.2 q p back (λ in_q. before_it s.0 s.1 p q s.2 e in_q) lt)

  all_listed : ((p q : ℕ) → Edge rows p q → ¬ (Reaches (Edge rows) q p)) → (k : ℕ) → k < length rows → Contains (package_order rows) k
  all_listed none k lt = elim (are.parted k (number k lt)) [
    | inl h ↦ contained (package_order rows) k h
    | inr h ↦ (
        let c = circle (Edge rows) left_over (λ x r. (let y = are.stuck (omega arith) x r in (y.0, y.1, edge_of rows x y.0 y.2))) k h in
        absurd (none c.0 c.1 c.2 c.3))
  ]

  pub circles : ((k : ℕ) → k < length rows → Contains (package_order rows) k) ↔ ((p q : ℕ) → Edge rows p q → ¬ (Reaches (Edge rows) q p))
  circles = (on_no_circle, all_listed)

  pub ranked : (rank : ℕ → ℕ) → ((p q : ℕ) → Edge rows p q → rank q < rank p) → (k : ℕ) → k < length rows → Contains (package_order rows) k
  ranked rank down = all_listed (λ p q e back. no_cycle (Edge rows) rank down p q e back)

  ends : (target : ℕ) → ((k : ℕ) → k < length rows → Reaches (Edge rows) target k) → (before after : List ℕ) → package_order rows ≡ before ++ target ∷ after → package_order rows ≡ before ++ target ∷ []
  ends target reaches before [] is = is
  ends target reaches before (z ∷ zs) is =
      let front = before ++ target ∷ [] in
      let split : package_order rows ≡ front ++ z ∷ zs = is ∙ sym (append_assoc before (target ∷ []) (z ∷ zs)) in
      let lt : z < length rows = inside z (subst (λ l. IsOneOf z l) (sym split) (one_here front zs z)) in
      absurd (not_twice front zs z split (reached_within front (z ∷ zs) split target z (reaches z lt) (λ in'. one_here before [] target) lt))

  pub last : (target : ℕ) → Contains (package_order rows) target → ((k : ℕ) → k < length rows → Reaches (Edge rows) target k) → (before : List ℕ) × (package_order rows ≡ before ++ target ∷ [])
  last target has reaches =
      let s = around (package_order rows) target (one_of (package_order rows) target has) in
      (s.0, ends target reaches s.0 s.1 s.2)
