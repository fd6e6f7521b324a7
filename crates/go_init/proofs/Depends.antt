-- What an initialization depends on: as many steps as there are nodes reach all that is reached.
use Rattle.std.proofs.Common.{◌≡◌, ℕ, zero, suc, ◌+◌, ◌≤◌, Bool, true, false, ◌||◌, List, [], ◌∷◌, ◌++◌, length, map, Some, refl, sym, ap, ◌∙◌, subst, inl, inr, ◌⊎◌, arith}
use Rattle.std.specs.Prelude.{⊤, ◌↔◌}
use Rattle.std.specs.List.{Contains, range_with_len}
use Rattle.std.proofs.lemmas.Bool.{cases_eq}
use Rattle.std.proofs.lemmas.List.{length-append, length-map}
use Rattle.std.proofs.lemmas.List.FromFn.{length-range_with_len}
use Rattle.std.proofs.lemmas.Option.{slice_get_within}
use Rattle.ws_reach.specs.Reach.{Reaches, Walks}
use Rattle.ws_reach.proofs.Closure.{IsOneOf}
use Rattle.go_typed.specs.Trees.{Initialization, Package}
use Rattle.go_init.specs.Nodes.{Node, variables_node, function_node, nodes_of}
use Rattle.go_init.specs.Variables.{sets, referred, lead_to, depends}
use Rattle.go_init.proofs.Members.{any_one, one_any, around, contained, one_of, one_parts}
use Rattle.go_init.proofs.Names.{By, by_referred, referred_by}
use Rattle.go_init.proofs.Orders.{range_has}

-- a name leads to those that it refers to
abbrev pub Leads : Package → List ℕ → List ℕ → Type 0
Leads p u v = Contains (referred p u) v

either_true : (a b : Bool) → (a || b) ≡ true → (a ≡ true) ⊎ (b ≡ true)
either_true true b h = inl refl
either_true false b h = inr h

true_left : (a b : Bool) → a ≡ true → (a || b) ≡ true
true_left true b h = refl
true_left false b h = cc

true_right : (a b : Bool) → b ≡ true → (a || b) ≡ true
true_right true b h = refl
true_right false b h = h

module _ (p : Package) (j : Initialization) where
  -- some name leads to one that gets its value so
  pub Led : List (List ℕ) → Type 0
  Led names = (x y : List ℕ) × IsOneOf x names × Reaches (Leads p) x y × (sets j y ≡ true)

  pub led : (n : ℕ) (names : List (List ℕ)) → lead_to p j n names ≡ true → (x y : List ℕ) × IsOneOf x names × Reaches (Leads p) x y × (sets j y ≡ true)
  led zero names h = cc
  led (suc n) names h =
      let one = any_one (λ x. sets j x || lead_to p j n (referred p x)) names h in
      let x = one.0 in
      elim (either_true (sets j x) (lead_to p j n (referred p x)) one.2) [
        | inl here ↦ (x, x, one.1, ([], refl), here)
        | inr later ↦ (
            let r = led n (referred p x) later in
            (x, r.1, one.1, (r.0 ∷ (r.3).0, (contained (referred p x) r.0 r.2, (r.3).1)), r.4))
      ]

  -- ---- walks by nodes

  abbrev Steps : Type 0
  Steps = List (ℕ × List ℕ)

  IsWalk : List ℕ → Steps → List ℕ → Type 0
  IsWalk x [] y = x ≡ y
  IsWalk x (s ∷ ss) y = By (nodes_of p) s.0 x s.1 × IsWalk s.1 ss y

  AreAmong : List ℕ → Steps → Type 0
  AreAmong ws [] = ⊤
  AreAmong ws (s ∷ ss) = IsOneOf s.0 ws × AreAmong ws ss

  Avoids : ℕ → Steps → Type 0
  Avoids k [] = ⊤
  Avoids k (s ∷ ss) = (s.0 ≡ k → ⊥) × Avoids k ss

  -- behind the last step by a node
  record Behind (ws : List ℕ) (k : ℕ) (y : List ℕ) : Type 0 where
    before : List ℕ
    first : List ℕ
    steps : Steps
    by : By (nodes_of p) k before first
    walk : IsWalk first steps y
    among : AreAmong ws steps
    avoids : Avoids k steps

  behind_last : (ws : List ℕ) (k : ℕ) (x : List ℕ) (ss : Steps) (y : List ℕ) → IsWalk x ss y → AreAmong ws ss → Avoids k ss ⊎ Behind ws k y
  unfolding IsWalk AreAmong Avoids
  behind_last ws k x [] y w a = inl tt
  behind_last ws k x (s ∷ ss) y w a = elim (behind_last ws k s.1 ss y w.1 a.1) [
    | inl none ↦ elim (cases_eq s.0 k) [
      | inl same ↦ inr (record { before = x; first = s.1; steps = ss; by = subst (λ n. By (nodes_of p) n x s.1) same w.0; walk = w.1; among = a.1; avoids = none })
      | inr other ↦ inl (other, none)
    ]
    | inr b ↦ inr b
  ]

  fewer_among : (before after : List ℕ) (k : ℕ) (ss : Steps) → AreAmong (before ++ k ∷ after) ss → Avoids k ss → AreAmong (before ++ after) ss
  unfolding AreAmong Avoids
  fewer_among before after k [] a v = tt
  fewer_among before after k (s ∷ ss) a v = (elim (one_parts before after k s.0 a.0) [ inl same ↦ absurd (v.0 same) | inr h ↦ h ], fewer_among before after k ss a.1 v.1)

  same_by : (k : ℕ) (x v u first : List ℕ) → By (nodes_of p) k x v → By (nodes_of p) k u first → By (nodes_of p) k x first
  same_by k x v u first a b =
      let both : Some a.node ≡ Some b.node = sym a.at ∙ b.at in
      let same : a.node ≡ b.node = cc in
      record { node = b.node; at = b.at; has = subst (λ (n : Node). IsOneOf x n.names) same a.has; refers = b.refers }

  -- a walk from a name without the node that its first step is by, from the next on
  record Rest (ws : List ℕ) (k : ℕ) (x y : List ℕ) : Type 0 where
    first : List ℕ
    steps : Steps
    by : By (nodes_of p) k x first
    walk : IsWalk first steps y
    among : AreAmong ws steps
    avoids : Avoids k steps

  rest_of : (ws : List ℕ) (k : ℕ) (x v : List ℕ) (ss : Steps) (y : List ℕ) → By (nodes_of p) k x v → IsWalk v ss y → AreAmong ws ss → Rest ws k x y
  rest_of ws k x v ss y b w a = elim (behind_last ws k v ss y w a) [
    | inl none ↦ record { first = v; steps = ss; by = b; walk = w; among = a; avoids = none }
    | inr r ↦ record { first = r.first; steps = r.steps; by = same_by k x v r.before r.first b r.by; walk = r.walk; among = r.among; avoids = r.avoids }
  ]

  found_here : (n : ℕ) (names : List (List ℕ)) (x : List ℕ) → IsOneOf x names → sets j x ≡ true → lead_to p j (suc n) names ≡ true
  found_here n names x h is = one_any (λ x. sets j x || lead_to p j n (referred p x)) names x h (true_left (sets j x) (lead_to p j n (referred p x)) is)

  found_later : (n : ℕ) (names : List (List ℕ)) (x : List ℕ) → IsOneOf x names → lead_to p j n (referred p x) ≡ true → lead_to p j (suc n) names ≡ true
  found_later n names x h is = one_any (λ x. sets j x || lead_to p j n (referred p x)) names x h (true_right (sets j x) (lead_to p j n (referred p x)) is)

  none_among : (ws : List ℕ) → length ws ≤ 0 → (s : ℕ × List ℕ) (ss : Steps) → AreAmong ws (s ∷ ss) → ⊥
  unfolding AreAmong
  none_among [] le s ss a = a.0
  none_among (w ∷ ws) le s ss a = absurd (omega (arith, le))

  found : (n : ℕ) (ws : List ℕ) (names : List (List ℕ)) (x : List ℕ) (ss : Steps) (y : List ℕ) → length ws ≤ n → IsOneOf x names → IsWalk x ss y → AreAmong ws ss → sets j y ≡ true
      → lead_to p j (suc n) names ≡ true
  unfolding IsWalk AreAmong
  found n ws names x [] y le h w a is = found_here n names x h (subst (λ z. sets j z ≡ true) (sym w) is)
  found zero ws names x (s ∷ ss) y le h w a is = absurd (none_among ws le s ss a)
  found (suc n) ws names x (s ∷ ss) y le h w a is =
      let r = rest_of ws s.0 x s.1 ss y w.0 w.1 a.1 in
      let parts = around ws s.0 a.0 in
      let size : length ws ≡ length (parts.0 ++ s.0 ∷ parts.1) = ap length parts.2 in
      let less : length (parts.0 ++ parts.1) ≤ n = omega (arith, le, size, length-append parts.0 (s.0 ∷ parts.1), length-append parts.0 parts.1) in
      let among : AreAmong (parts.0 ++ parts.1) r.steps = fewer_among parts.0 parts.1 s.0 r.steps (subst (λ l. AreAmong l r.steps) parts.2 r.among) r.avoids in
      found_later (suc n) names x h (found n (parts.0 ++ parts.1) (referred p x) r.first r.steps y less (by_referred p s.0 x r.first r.by) r.walk among is)

  -- ---- any way is a walk by nodes

  abbrev all_numbers : List ℕ
  all_numbers = range_with_len 0 (length (nodes_of p))

  walk_of : (x : List ℕ) (names : List (List ℕ)) (y : List ℕ) → Walks (Leads p) x names y → (ss : Steps) × IsWalk x ss y × AreAmong all_numbers ss
  unfolding IsWalk AreAmong
  walk_of x [] y w = ([], w, tt)
  walk_of x (v ∷ vs) y w =
      let b = referred_by p x v (one_of (referred p x) v w.0) in
      let r = walk_of v vs y w.1 in
      let lt = slice_get_within (nodes_of p) b.0 (b.1).node (b.1).at in
      ((b.0, v) ∷ r.0, (b.1, r.1), (range_has 0 (length (nodes_of p)) b.0 (omega arith) (omega (arith, lt)), r.2))

  pub leads : (names : List (List ℕ)) (x y : List ℕ) → IsOneOf x names → Reaches (Leads p) x y → sets j y ≡ true → lead_to p j (suc (length p.initializations + length p.uses)) names ≡ true
  leads names x y h way is =
      let r = walk_of x way.0 y way.1 in
      let size : length (nodes_of p) ≡ length p.initializations + length p.uses =
      length-append (map variables_node p.initializations) (map function_node p.uses)
      ∙ ap (λ n. n + length (map function_node p.uses)) (length-map p.initializations variables_node) ∙ ap (λ n. length p.initializations + n) (length-map p.uses function_node) in
      found (length p.initializations + length p.uses) all_numbers names x r.0 y (omega (arith, size, length-range_with_len 0 (length (nodes_of p)))) h r.1 r.2 is

-- ---- what depends

abbrev pub IsDue : Package → Initialization → Initialization → Type 0
IsDue p i j = (x y : List ℕ) × Contains i.references x × Reaches (λ u v. Contains (referred p u) v) x y × (sets j y ≡ true)

pub depends_is : (p : Package) (i j : Initialization) → (depends p i j ≡ true) ↔ ((x y : List ℕ) × Contains i.references x × Reaches (λ u v. Contains (referred p u) v) x y × (sets j y ≡ true))
depends_is p i j = (
  λ h. (let r = led p j (suc (length p.initializations + length p.uses)) i.references h in (r.0, r.1, contained i.references r.0 r.2, r.3, r.4)),
  λ h. leads p j i.references h.0 h.1 (one_of i.references h.0 h.2) h.3 h.4,
)
