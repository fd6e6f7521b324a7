-- Trees over flags: one number is written, and where the first flag stands.
use Rattle.std.proofs.Common.{◌≡◌, ℕ, zero, suc, ◌+◌, ◌*◌, ◌/◌, ◌^◌, ◌<◌, ◌≤◌, Bool, true, false, ◌||◌, List, length, replicate, get_or, refl, sym, ap, ◌∙◌, subst, arith, inl, inr, get_or-set_other, get_or-set_same}
use Rattle.std.proofs.Math.ListN.{set}
use Rattle.std.proofs.Math.Nat.{pow-succ', le-mul_of_pos_right}
use Rattle.std.proofs.lemmas.Nat.{pow_pos}
use Rattle.std.proofs.lemmas.Bool.{cases_lt}
use Rattle.std.proofs.lemmas.List.{get_or_past}
use Rattle.ws_board.specs.Flags.{SaysBelow, IsTree}

-- ---- one number is written

-- but the number and the node above it, each says what it said
pub says_other : (tree : List Bool) (at : ℕ) (flag : Bool) (node : ℕ) → (node ≡ at → ⊥) → (node ≡ at / 2 → ⊥) → SaysBelow tree node → SaysBelow (set tree at flag) node
says_other tree at flag node ne above says =
    let first : 2 * node ≡ at → ⊥ = λ e. above (omega (arith, e)) in
    let second : 2 * node + 1 ≡ at → ⊥ = λ e. above (omega (arith, e)) in
    get_or-set_other tree at node flag false ne ∙ says
    ∙ ap (λ b. b || get_or tree (2 * node + 1) false) (sym (get_or-set_other tree at (2 * node) flag false first))
    ∙ ap (λ b. get_or (set tree at flag) (2 * node) false || b) (sym (get_or-set_other tree at (2 * node + 1) flag false second))

-- a node that is written as it has to be says what stands below it
pub says_same : (tree : List Bool) (node : ℕ) (flag : Bool) → 0 < node → node < length tree → flag ≡ (get_or tree (2 * node) false || get_or tree (2 * node + 1) false) → SaysBelow (set tree node flag) node
says_same tree node flag some inside is =
    let first : 2 * node ≡ node → ⊥ = λ e. absurd (omega (arith, e, some)) in
    let second : 2 * node + 1 ≡ node → ⊥ = λ e. absurd (omega (arith, e)) in
    get_or-set_same tree node flag false inside ∙ is
    ∙ ap (λ b. b || get_or tree (2 * node + 1) false) (sym (get_or-set_other tree node (2 * node) flag false first))
    ∙ ap (λ b. get_or (set tree node flag) (2 * node) false || b) (sym (get_or-set_other tree node (2 * node + 1) flag false second))

-- ---- the first flag

-- the numbers of flags below a node, whose first is that, are so many; and no flag before them stands
pub record Leads (inner : ℕ) (tree : List Bool) (node : ℕ) : Type 0 where
  pub height : ℕ
  pub from : inner ≤ node * 2 ^ height
  pub to : node * 2 ^ height + 2 ^ height ≤ 2 * inner
  pub none : (k : ℕ) → inner ≤ k → k < node * 2 ^ height → get_or tree k false ≡ false

neither : (a b c : Bool) → a ≡ (b || c) → a ≡ false → (b ≡ false) × (c ≡ false)
neither a false c e f = (refl, sym e ∙ f)
neither a true c e f = let h : true ≡ false = sym e ∙ f in absurd (cc)

-- spans of flags below the two numbers under a node
twice : (node height : ℕ) → node * 2 ^ suc height ≡ (2 * node) * 2 ^ height
twice node height = ap (λ p. node * p) (pow-succ' 2 height) ∙ (omega arith)

next : (node height : ℕ) → (2 * node + 1) * 2 ^ height ≡ node * 2 ^ suc height + 2 ^ height
next node height = let e = twice node height in omega (arith, e)

module _ (inner : ℕ) (tree : List Bool) (is : IsTree inner tree) where
  -- a node above flags is an inner one
  node_inner : (node height : ℕ) → node * 2 ^ suc height + 2 ^ suc height ≤ 2 * inner → node < inner
  node_inner node height to =
      let p = pow_pos height in
      let d : 2 ^ suc height ≡ 2 * 2 ^ height = pow-succ' 2 height in
      let t = twice node height in
      let m : 2 * node ≤ (2 * node) * 2 ^ height = le-mul_of_pos_right (2 * node) p in
      omega (arith, to, d, t, m, p)

  -- below a node that says that none stands, none does
  none_under : (height node : ℕ) → 0 < node → inner ≤ node * 2 ^ height → node * 2 ^ height + 2 ^ height ≤ 2 * inner → get_or tree node false ≡ false
      → (k : ℕ) → node * 2 ^ height ≤ k → k < node * 2 ^ height + 2 ^ height → get_or tree k false ≡ false
  none_under zero node some from to none k low high = let e : k ≡ node = omega (arith, low, high) in ap (λ i. get_or tree i false) e ∙ none
  none_under (suc height) node some from to none k low high =
      let d : 2 ^ suc height ≡ 2 * 2 ^ height = pow-succ' 2 height in
      let t = twice node height in
      let n = next node height in
      let both = neither (get_or tree node false) (get_or tree (2 * node) false) (get_or tree (2 * node + 1) false) (is.each node some (node_inner node height to)) none in
      elim (cases_lt k (node * 2 ^ suc height + 2 ^ height)) [
        | inl lt ↦ none_under height (2 * node) (omega (arith, some)) (omega (arith, t, from)) (omega (arith, t, d, to)) both.0 k (omega (arith, t, low)) (omega (arith, t, lt))
        | inr le ↦ none_under height (2 * node + 1) (omega arith) (omega (arith, n, from)) (omega (arith, n, d, to)) both.1 k (omega (arith, n, le)) (omega (arith, n, d, high))
      ]

  pub root_leads : Leads inner tree 1
  root_leads = record { height = is.height; from = omega (arith, is.power); to = omega (arith, is.power); none = λ k from lt. absurd (omega (arith, is.power, from, lt)) }

  -- where the root says that none stands, none does
  pub root_none : get_or tree 1 false ≡ false → (k : ℕ) → inner ≤ k → get_or tree k false ≡ false
  root_none none k from = elim (cases_lt k (2 * inner)) [
    | inl lt ↦ none_under is.height 1 (omega arith) (omega (arith, is.power)) (omega (arith, is.power)) none k (omega (arith, is.power, from)) (omega (arith, is.power, lt))
    | inr le ↦ get_or_past tree k false (omega (arith, le, is.flags))
  ]

  -- the node is a flag, and none before it stands
  pub leaf_leads : (node : ℕ) → Leads inner tree node → inner ≤ node → (k : ℕ) → inner ≤ k → k < node → get_or tree k false ≡ false
  leaf_leads node leads past k from lt =
      let p = pow_pos leads.height in
      let m : node ≤ node * 2 ^ leads.height = le-mul_of_pos_right node p in
      leads.none k from (omega (arith, m, lt))

  -- one of the two numbers under an inner node
  module _ (node : ℕ) (some : 0 < node) (lt : node < inner) (leads : Leads inner tree node) where
    -- the node is none of a flag
    deep : (h : ℕ) → h ≡ leads.height → (height : ℕ) × (h ≡ suc height)
    deep zero e = absurd (let f : inner ≤ node * 2 ^ 0 = subst (λ i. inner ≤ node * 2 ^ i) (sym e) leads.from in omega (arith, f, lt))
    deep (suc h) e = (h, refl)

    pub first_leads : Leads inner tree (2 * node)
    first_leads =
        let d = deep leads.height refl in
        let e : node * 2 ^ leads.height ≡ (2 * node) * 2 ^ d.0 = ap (λ i. node * 2 ^ i) d.1 ∙ twice node d.0 in
        let p : 2 ^ leads.height ≡ 2 * 2 ^ d.0 = ap (λ i. 2 ^ i) d.1 ∙ pow-succ' 2 d.0 in
        record {
          height = d.0;
          from = omega (arith, e, leads.from);
          to = omega (arith, e, p, leads.to);
          none = λ k from lt. leads.none k from (omega (arith, e, lt));
        }

    pub second_leads : get_or tree (2 * node) false ≡ false → Leads inner tree (2 * node + 1)
    second_leads none =
        let d = deep leads.height refl in
        let e : node * 2 ^ leads.height ≡ (2 * node) * 2 ^ d.0 = ap (λ i. node * 2 ^ i) d.1 ∙ twice node d.0 in
        let p : 2 ^ leads.height ≡ 2 * 2 ^ d.0 = ap (λ i. 2 ^ i) d.1 ∙ pow-succ' 2 d.0 in
        let n : (2 * node + 1) * 2 ^ d.0 ≡ node * 2 ^ leads.height + 2 ^ d.0 = next node d.0 ∙ ap (λ i. node * 2 ^ i + 2 ^ d.0) (sym d.1) in
        record {
          height = d.0;
          from = omega (arith, n, leads.from);
          to = omega (arith, n, p, leads.to);
          none = λ k from lt. elim (cases_lt k (node * 2 ^ leads.height)) [
            | inl before ↦ leads.none k from before
            | inr le ↦ none_under d.0 (2 * node) (omega (arith, some)) (omega (arith, e, leads.from)) (omega (arith, e, p, leads.to)) none k (omega (arith, e, le)) (omega (arith, e, n, lt))
          ];
        }

    pub second_stands : get_or tree node false ≡ true → get_or tree (2 * node) false ≡ false → get_or tree (2 * node + 1) false ≡ true
    second_stands here none = or_second (get_or tree (2 * node) false) (get_or tree (2 * node + 1) false) none (sym (is.each node some lt) ∙ here)
      where
        or_second : (a b : Bool) → a ≡ false → (a || b) ≡ true → b ≡ true
        or_second true b e h = absurd (cc)
        or_second false b e h = h

-- ---- before any is written

pub no_flag : (n i : ℕ) → get_or (replicate n false) i false ≡ false
no_flag zero i = refl
no_flag (suc n) zero = refl
no_flag (suc n) (suc i) = no_flag n i
