-- Laws on variable order.
use Rattle.std.proofs.Common.{◌≡◌, ℕ, zero, suc, ◌+◌, ◌≤◌, Bool, true, false, not, List, [], ◌∷◌, ◌++◌, length, Option, Some, None, refl, sym, ap, ◌∙◌, subst, inl, inr, arith, append_assoc}
use Rattle.std.specs.Prelude.{◌↔◌, if◌then◌else◌, option_map}
use Rattle.std.specs.List.{Contains, count_by, filter, list_any}
use Rattle.std.proofs.lemmas.Bool.{cases_Bool}
use Rattle.std.proofs.lemmas.List.{length-append}
use Rattle.std.proofs.lemmas.List.Sums.{length-filter}
use Rattle.ws_reach.specs.Reach.{Reaches, Walks}
use Rattle.ws_reach.proofs.Closure.{IsOneOf}
use Rattle.go_typed.specs.Trees.{Initialization, Package}
use Rattle.go_init.specs.Turns.{first_passing, turn_order}
use Rattle.go_init.specs.Variables.{sets, referred, depends, variable_order}
use Rattle.go_init.proofs.Circles.{circle}
use Rattle.go_init.proofs.Depends.{Leads, depends_is}
use Rattle.go_init.proofs.Members.{around, contained, one_left, one_of}
use Rattle.go_init.proofs.Names.{parts_to}
use Rattle.go_init.proofs.Turns.{AreTurns, turns_are}

-- ---- how many of a kind there are

module _ {A : Type 0} (kind : A → Bool) where
  abbrev one : A → ℕ
  one x = if kind x then 1 else 0

  counted : (x : A) (xs : List A) → count_by kind (x ∷ xs) ≡ one x + count_by kind xs
  counted x xs =
      let more : length (filter kind (x ∷ xs)) ≡ one x + length (filter kind xs) = elim (cases_Bool (kind x)) [ inl t ↦ rw t (omega arith) | inr n ↦ rw n (omega arith) ] in
      sym (length-filter kind (x ∷ xs)) ∙ more ∙ ap (λ n. one x + n) (length-filter kind xs)

  none_counted : (xs : List A) → count_by kind [] + count_by kind xs ≡ count_by kind xs
  none_counted xs = (let none : count_by kind [] ≡ 0 = refl in omega (arith, none))

  module _ (test : A → Bool) where
    behind : (z : A) (zs : List A) (o : Option (A × List A)) → ((w : A) (ws : List A) → o ≡ Some (w, ws) → count_by kind zs ≡ one w + count_by kind ws) → (x : A) (ys : List A)
        → ◌≡◌ {A = Option (A × List A)} (option_map {U = A × List A} (λ (r : A × List A). (r.0, z ∷ r.1)) o) (Some (x, ys)) → count_by kind (z ∷ zs) ≡ one x + count_by kind ys
    behind z zs None later x ys e = cc
    behind z zs (Some (w, ws)) later x ys e =
        let p : ◌≡◌ {A = A × List A} (w, z ∷ ws) (x, ys) = cc in
        let same : w ≡ x = ap (λ (r : A × List A). r.0) p in
        let rest : z ∷ ws ≡ ys = ap (λ (r : A × List A). r.1) p in
        let l = later w ws refl in
        let all : count_by kind (z ∷ zs) ≡ one w + count_by kind (z ∷ ws) = omega (arith, counted z zs, counted z ws, l) in
        subst (λ v. count_by kind (z ∷ zs) ≡ one v + count_by kind ys) same (subst (λ (v : List A). count_by kind (z ∷ zs) ≡ one w + count_by kind v) rest all)

    by_test : (z : A) (zs : List A) (b : Bool) → ((w : A) (ws : List A) → first_passing test zs ≡ Some (w, ws) → count_by kind zs ≡ one w + count_by kind ws) → (x : A) (ys : List A)
        → ◌≡◌ {A = Option (A × List A)} (if b then Some (z, zs) else option_map (λ (r : A × List A). (r.0, z ∷ r.1)) (first_passing test zs)) (Some (x, ys)) → count_by kind (z ∷ zs) ≡ one x + count_by kind ys
    by_test z zs true later x ys e =
        let p : ◌≡◌ {A = A × List A} (z, zs) (x, ys) = cc in
        let same : z ≡ x = ap (λ (r : A × List A). r.0) p in
        let rest : zs ≡ ys = ap (λ (r : A × List A). r.1) p in
        subst (λ v. count_by kind (z ∷ zs) ≡ one v + count_by kind ys) same (subst (λ (v : List A). count_by kind (z ∷ zs) ≡ one z + count_by kind v) rest (counted z zs))
    by_test z zs false later x ys e = behind z zs (first_passing test zs) later x ys e

    first_counted : (xs : List A) (x : A) (ys : List A) → first_passing test xs ≡ Some (x, ys) → count_by kind xs ≡ one x + count_by kind ys
    first_counted [] x ys e = cc
    first_counted (z ∷ zs) x ys e = by_test z zs (test z) (first_counted zs) x ys e

  module _ (waits : A → A → Bool) where
    abbrev free : List A → A → Bool
    free xs x = not (list_any (waits x) xs)

    counted_by : (n : ℕ) (xs : List A) (o : Option (A × List A)) → first_passing (free xs) xs ≡ o → ((ys : List A) → count_by kind (turn_order waits n ys).0 + count_by kind (turn_order waits n ys).1 ≡ count_by kind ys)
        → (let all : List A × List A = elim o [ None ↦ ([], xs) | Some r ↦ (let rest = turn_order waits n r.1 in (r.0 ∷ rest.0, rest.1)) ] in count_by kind all.0 + count_by kind all.1 ≡ count_by kind xs)
    counted_by n xs None e later = none_counted xs
    counted_by n xs (Some (x, ys)) e later =
        let l = later ys in
        let f = first_counted (free xs) xs x ys e in
        omega (arith, l, f, counted x (turn_order waits n ys).0)

    pub turns_counted : (n : ℕ) (xs : List A) → count_by kind (turn_order waits n xs).0 + count_by kind (turn_order waits n xs).1 ≡ count_by kind xs
    turns_counted zero xs = none_counted xs
    turns_counted (suc n) xs = counted_by n xs (first_passing (free xs) xs) refl (turns_counted n)

-- ---- dependence is transitive

walk_more : {A : Type 0} (E : A → A → Type 0) (x y : A) (ss : List A) (z : A) → Walks E x ss y → Reaches E y z → Reaches E x z
walk_more E x y [] z w r = subst (λ v. Reaches E v z) (sym w) r
walk_more E x y (s ∷ ss) z w r = (let rest = walk_more E s y ss z w.1 r in (s ∷ rest.0, (w.0, rest.1)))

no_member : (xs : List Initialization) (x : Initialization) → length xs ≤ 0 → IsOneOf x xs → ⊥
no_member [] x le h = h
no_member (y ∷ ys) x le h = absurd (omega (arith, le))

module _ (p : Package) where
  onward : (i j k : Initialization) → Contains p.initializations j → depends p i j ≡ true → depends p j k ≡ true → depends p i k ≡ true
  onward i j k has one two =
      let a = (depends_is p i j).0 one in
      let b = (depends_is p j k).0 two in
      let values : IsOneOf b.0 (referred p a.1) = one_left _ _ b.0 (parts_to (λ (i : Initialization). sets i a.1) (λ (i : Initialization). i.references) p.initializations j b.0 (one_of p.initializations j has) a.4 (one_of j.references b.0 b.2)) in
      let further : Reaches (Leads p) a.1 b.1 = ((b.0 ∷ (b.3).0), (contained (referred p a.1) b.0 values, (b.3).1)) in
      (depends_is p i k).1 (a.0, b.1, a.2, walk_more (Leads p) a.0 a.1 (a.3).0 b.1 (a.3).1 further, b.4)

  -- ---- variable order

  are : AreTurns (depends p) (length p.initializations) p.initializations (variable_order p).0 (variable_order p).1
  are = turns_are (depends p) (length p.initializations) p.initializations

  pub each_once : (kind : Initialization → Bool) → count_by kind (variable_order p).0 + count_by kind (variable_order p).1 ≡ count_by kind p.initializations
  each_once kind = turns_counted kind (depends p) (length p.initializations) p.initializations

  pub behind_it : (before after : List Initialization) (i j : Initialization) → (variable_order p).0 ≡ before ++ i ∷ after → Contains p.initializations j → depends p i j ≡ true → Contains before j
  behind_it before after i j is has due = contained before j (are.behind before after i j is (one_of p.initializations j has) due)

  IsEdge : Initialization → Initialization → Type 0
  IsEdge i j = Contains p.initializations j × (depends p i j ≡ true)

  way_due : (i j : Initialization) (ss : List Initialization) (k : Initialization) → IsEdge i j → Walks IsEdge j ss k → depends p i k ≡ true
  unfolding IsEdge
  way_due i j [] k e w = subst (λ v. depends p i v ≡ true) w e.1
  way_due i j (s ∷ ss) k e w = way_due i s ss k ((w.0).0, onward i j s e.0 e.1 (w.0).1) w.1

  way_in : (i : Initialization) (ss : List Initialization) (k : Initialization) → Contains p.initializations i → Walks IsEdge i ss k → Contains p.initializations k
  unfolding IsEdge
  way_in i [] k h w = subst (λ v. Contains p.initializations v) w h
  way_in i (s ∷ ss) k h w = way_in s ss k (w.0).0 w.1

  left_on_circle : (i : Initialization) → IsOneOf i (variable_order p).1 → (j : Initialization) × Contains p.initializations j × (depends p j j ≡ true)
  unfolding IsEdge
  left_on_circle i h =
      let c = circle IsEdge (variable_order p).1 (λ x r. (let y = are.stuck (omega arith) x r in (y.0, y.1, (contained p.initializations y.0 (are.over y.0 y.1), y.2)))) i h in
      let at = way_in c.1 (c.3).0 c.0 (c.2).0 (c.3).1 in
      (c.0, at, way_due c.0 c.1 (c.3).0 c.0 c.2 (c.3).1)

  none_left : (l : List Initialization) → ((i : Initialization) → IsOneOf i l → ⊥) → l ≡ []
  none_left [] none = refl
  none_left (i ∷ is) none = absurd (none i (inl refl))

  -- one that depends on itself would stand behind itself
  never_listed : (i : Initialization) → Contains p.initializations i → depends p i i ≡ true → (n : ℕ) (before after : List Initialization) → length before ≤ n → (variable_order p).0 ≡ before ++ i ∷ after → ⊥
  never_listed i has due zero before after le is = no_member before i le (one_of before i (behind_it before after i i is has due))
  never_listed i has due (suc n) before after le is =
      let s = around before i (one_of before i (behind_it before after i i is has due)) in
      let size : length before ≡ length (s.0 ++ i ∷ s.1) = ap length s.2 in
      let all : (variable_order p).0 ≡ s.0 ++ i ∷ (s.1 ++ i ∷ after) = is ∙ ap (λ l. l ++ i ∷ after) s.2 ∙ append_assoc s.0 (i ∷ s.1) (i ∷ after) in
      never_listed i has due n s.0 (s.1 ++ i ∷ after) (omega (arith, le, size, length-append s.0 (i ∷ s.1))) all

  not_due : (variable_order p).1 ≡ [] → (i : Initialization) → Contains p.initializations i → depends p i i ≡ true → ⊥
  not_due none i has due = elim (are.parted i (one_of p.initializations i has)) [
    | inl h ↦ (let s = around (variable_order p).0 i h in never_listed i has due (length s.0) s.0 s.1 (omega arith) s.2)
    | inr h ↦ subst (λ (l : List Initialization). IsOneOf i l) none h
  ]

  pub circles : (variable_order p).1 ≡ [] ↔ ((i : Initialization) → Contains p.initializations i → ¬ (depends p i i ≡ true))
  circles = (not_due, λ none. none_left (variable_order p).1 (λ i h. (let c = left_on_circle i h in none c.0 c.1 c.2)))
