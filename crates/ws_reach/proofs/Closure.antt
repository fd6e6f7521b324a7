-- Reaching along decidable edges is decidable where all inner nodes are in a list.
use Rattle.std.proofs.Common.{◌≡◌, Bool, true, false, ◌&&◌, ◌||◌, List, [], ◌∷◌, refl, subst, inl, inr, ◌⊎◌}
use Rattle.ws_reach.specs.Reach.{Walks, Reaches}
use Rattle.ws_reach.proofs.Reached.{reaches_through}

-- x is one of the list
abbrev pub IsOneOf : {A : Type 0} → A → List A → Type 0
IsOneOf x [] = ⊥
IsOneOf x (y ∷ ys) = (x ≡ y) ⊎ IsOneOf x ys

-- q is p, or reached from p over nodes of the list
pub reach : {A : Type 0} → (A → A → Bool) → (A → A → Bool) → List A → A → A → Bool
reach same edge [] p q = same p q || edge p q
reach same edge (m ∷ ms) p q = reach same edge ms p q || (reach same edge ms p m && reach same edge ms m q)

or_cases : (a b : Bool) → (a || b) ≡ true → (a ≡ true) ⊎ (b ≡ true)
or_cases true b e = inl refl
or_cases false b e = inr e

or_left : (a b : Bool) → a ≡ true → (a || b) ≡ true
or_left true b e = refl
or_left false b e = cc

or_right : (a b : Bool) → b ≡ true → (a || b) ≡ true
or_right true b e = refl
or_right false b e = e

and_left : (a b : Bool) → (a && b) ≡ true → a ≡ true
and_left true b e = refl
and_left false b e = cc

and_right : (a b : Bool) → (a && b) ≡ true → b ≡ true
and_right true b e = e
and_right false b e = cc

and_both : (a b : Bool) → a ≡ true → b ≡ true → (a && b) ≡ true
and_both true b d e = e
and_both false b d e = cc

module _ {A : Type 0} (E : A → A → Type 0) (same edge : A → A → Bool) (is_same : (p q : A) → same p q ≡ true → p ≡ q) (itself : (p : A) → same p p ≡ true) (has : (p q : A) → edge p q ≡ true → E p q) (gives : (p q : A) → E p q → edge p q ≡ true) where
  pub reach_sound : (ms : List A) (p q : A) → reach same edge ms p q ≡ true → Reaches E p q
  unfolding reach
  reach_sound [] p q h = elim (or_cases (same p q) (edge p q) h) [
    | inl s ↦ ([], is_same p q s)
    | inr e ↦ (q ∷ [], (has p q e, refl))
  ]
  reach_sound (m ∷ ms) p q h = elim (or_cases (reach same edge ms p q) (reach same edge ms p m && reach same edge ms m q) h) [
    | inl r ↦ reach_sound ms p q r
    | inr r ↦ reaches_through E p m q (reach_sound ms p m (and_left (reach same edge ms p m) (reach same edge ms m q) r)) (reach_sound ms m q (and_right (reach same edge ms p m) (reach same edge ms m q) r))
  ]

  -- an edge, and a node itself
  reach_edge : (ms : List A) (p q : A) → edge p q ≡ true → reach same edge ms p q ≡ true
  unfolding reach
  reach_edge [] p q e = or_right (same p q) (edge p q) e
  reach_edge (m ∷ ms) p q e = or_left (reach same edge ms p q) (reach same edge ms p m && reach same edge ms m q) (reach_edge ms p q e)

  reach_same : (ms : List A) (p q : A) → p ≡ q → reach same edge ms p q ≡ true
  unfolding reach
  reach_same [] p q e = or_left (same p q) (edge p q) (subst (λ x. same p x ≡ true) e (itself p))
  reach_same (m ∷ ms) p q e = or_left (reach same edge ms p q) (reach same edge ms p m && reach same edge ms m q) (reach_same ms p q e)

  -- what is reached over m by the list with m
  over : (m : A) (ms : List A) (p q : A) → reach same edge ms p m ≡ true → reach same edge ms m q ≡ true → reach same edge (m ∷ ms) p q ≡ true
  unfolding reach
  over m ms p q a b = or_right (reach same edge ms p q) (reach same edge ms p m && reach same edge ms m q) (and_both (reach same edge ms p m) (reach same edge ms m q) a b)

  more : (m : A) (ms : List A) (p q : A) → reach same edge ms p q ≡ true → reach same edge (m ∷ ms) p q ≡ true
  unfolding reach
  more m ms p q a = or_left (reach same edge ms p q) (reach same edge ms p m && reach same edge ms m q) a

  -- to m itself, m adds nothing; nor from it
  to_it : (m : A) (ms : List A) (p : A) → reach same edge (m ∷ ms) p m ≡ true → reach same edge ms p m ≡ true
  unfolding reach
  to_it m ms p h = elim (or_cases (reach same edge ms p m) (reach same edge ms p m && reach same edge ms m m) h) [ inl a ↦ a | inr b ↦ and_left (reach same edge ms p m) (reach same edge ms m m) b ]

  from_it : (m : A) (ms : List A) (q : A) → reach same edge (m ∷ ms) m q ≡ true → reach same edge ms m q ≡ true
  unfolding reach
  from_it m ms q h = elim (or_cases (reach same edge ms m q) (reach same edge ms m m && reach same edge ms m q) h) [ inl a ↦ a | inr b ↦ and_right (reach same edge ms m m) (reach same edge ms m q) b ]

  -- over a node of the list
  joined : (ms : List A) (p x q : A) → IsOneOf x ms → reach same edge ms p x ≡ true → reach same edge ms x q ≡ true → reach same edge ms p q ≡ true
  unfolding reach
  joined [] p x q one a b = absurd one
  joined (m ∷ ms) p x q (inl e) a b =
      over m ms p q (to_it m ms p (subst (λ z. reach same edge (m ∷ ms) p z ≡ true) e a)) (from_it m ms q (subst (λ z. reach same edge (m ∷ ms) z q ≡ true) e b))
  joined (m ∷ ms) p x q (inr one) a b =
      elim (or_cases (reach same edge ms p x) (reach same edge ms p m && reach same edge ms m x) a) [
        | inl a1 ↦ elim (or_cases (reach same edge ms x q) (reach same edge ms x m && reach same edge ms m q) b) [
          | inl b1 ↦ more m ms p q (joined ms p x q one a1 b1)
          | inr b2 ↦ over m ms p q (joined ms p x m one a1 (and_left (reach same edge ms x m) (reach same edge ms m q) b2)) (and_right (reach same edge ms x m) (reach same edge ms m q) b2)
        ]
        | inr a2 ↦ elim (or_cases (reach same edge ms x q) (reach same edge ms x m && reach same edge ms m q) b) [
          | inl b1 ↦ over m ms p q (and_left (reach same edge ms p m) (reach same edge ms m x) a2) (joined ms m x q one (and_right (reach same edge ms p m) (reach same edge ms m x) a2) b1)
          | inr b2 ↦ over m ms p q (and_left (reach same edge ms p m) (reach same edge ms m x) a2) (and_right (reach same edge ms x m) (reach same edge ms m q) b2)
        ]
      ]

  reach_walks : (ms : List A) → ((p q : A) → E p q → IsOneOf q ms) → (steps : List A) (p q : A) → Walks E p steps q → reach same edge ms p q ≡ true
  reach_walks ms all [] p q w = reach_same ms p q w
  reach_walks ms all (r ∷ rs) p q (first, rest) = joined ms p r q (all p r first) (reach_edge ms p r (gives p r first)) (reach_walks ms all rs r q rest)

  pub reach_complete : (ms : List A) → ((p q : A) → E p q → IsOneOf q ms) → (p q : A) → Reaches E p q → reach same edge ms p q ≡ true
  reach_complete ms all p q (steps, w) = reach_walks ms all steps p q w
