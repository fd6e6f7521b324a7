-- Functions that come first leave the order of variables as it is.
use Rattle.std.proofs.Common.{◌≡◌, ℕ, zero, suc, ◌+◌, ◌-◌, ◌<◌, ◌≤◌, Bool, true, false, not, List, [], ◌∷◌, map, cond, length, Option, Some, None, refl, sym, ap, ◌∙◌, subst, inl, inr, arith}
use Rattle.std.specs.Prelude.{◌↔◌, nat_lt, if◌then◌else◌, option_map}
use Rattle.std.specs.List.{filter, list_any, range_with_len}
use Rattle.std.proofs.lemmas.Bool.{cases_lt, cases_Bool, lt-ltb, ltb-true}
use Rattle.ws_reach.specs.Reach.{Reaches, Walks}
use Rattle.ws_reach.proofs.Closure.{IsOneOf}
use Rattle.ws_reach.proofs.Reached.{reaches_from}
use Rattle.go_init.specs.Condensation.{variables_among}
use Rattle.go_init.specs.Turns.{first_passing, turn_order, in_turn}
use Rattle.go_init.proofs.WaysOut.{way_out}
use Rattle.go_init.proofs.First.{Ascending, AreOthers, least_first, none_first, turns_none, turns_some}
use Rattle.go_init.proofs.Members.{any_one, one_any}
use Rattle.go_init.proofs.Orders.{in_range, range_has}
use Rattle.go_init.proofs.Steps.{range_ascends}
use Rattle.go_init.proofs.Turns.{first_is, first_none}

abbrev pub Holds : (ℕ → ℕ → Bool) → ℕ → ℕ → Type 0
Holds waits p q = waits p q ≡ true

-- one edge or more lead from one to the other
abbrev pub LeadsTo : (ℕ → ℕ → Bool) → ℕ → ℕ → Type 0
LeadsTo waits p q = (first : ℕ) × Holds waits p first × Reaches (Holds waits) first q

-- an edge from a function to a function
abbrev pub Among : (ℕ → ℕ → Bool) → ℕ → ℕ → ℕ → Type 0
Among waits functions p q = Holds waits p q × (p < functions) × (q < functions)

-- A graph of functions and variables, whose numbers stand behind those of functions: edges lead from its nodes, among functions none closes a circle, and variables lead to each other just where they depend on each other.
pub record AreMixed (waits depends : ℕ → ℕ → Bool) (functions variables : ℕ) : Type 0 where
  pub from : (p q : ℕ) → Holds waits p q → p < functions + variables
  pub circles : (p q : ℕ) → Among waits functions p q → ¬ (Reaches (Among waits functions) q p)
  pub due : (v w : ℕ) → v < variables → w < variables → Holds depends v w ↔ LeadsTo waits (functions + v) (functions + w)

-- ---- the variables of a list

by_test : ℕ → ℕ → List ℕ → Bool → List ℕ
by_test functions x xs b = map (λ y. y - functions) (cond (not b) (x ∷ filter (λ y. not (nat_lt y functions)) xs) (filter (λ y. not (nat_lt y functions)) xs))

pub of_function : (functions x : ℕ) (xs : List ℕ) → x < functions → variables_among functions (x ∷ xs) ≡ variables_among functions xs
unfolding by_test
of_function functions x xs lt = ap (by_test functions x xs) (lt-ltb x functions lt)

pub of_variable : (functions x v : ℕ) (xs : List ℕ) → x ≡ functions + v → variables_among functions (x ∷ xs) ≡ v ∷ variables_among functions xs
unfolding by_test
of_variable functions x v xs e = elim (cases_Bool (nat_lt x functions)) [
  | inl t ↦ (let lt = ltb-true x functions t in absurd (omega (arith, lt, e)))
  | inr n ↦ (let is : x - functions ≡ v = omega (arith, e) in ap (by_test functions x xs) n ∙ ap (λ (y : ℕ). y ∷ variables_among functions xs) is)
]

-- ---- the first that passes

not_true : (b : Bool) → not b ≡ true → b ≡ true → ⊥
not_true true e t = cc
not_true false e t = cc

is_false : (b : Bool) → (b ≡ true → ⊥) → not b ≡ true
is_false true none = absurd (none refl)
is_false false none = refl

not_free : (b : Bool) → not b ≡ false → b ≡ true
not_free true e = refl
not_free false e = cc

module _ (test : ℕ → Bool) where
  before_by : (z : ℕ) (zs : List ℕ) (x : ℕ) (ys : List ℕ) (o : Option (ℕ × List ℕ)) → ((w : ℕ) (ws : List ℕ) → o ≡ Some (w, ws) → (j : ℕ) → IsOneOf j zs → j < w → test j ≡ false) → test z ≡ false
      → ◌≡◌ {A = Option (ℕ × List ℕ)} (option_map {U = ℕ × List ℕ} (λ (r : ℕ × List ℕ). (r.0, z ∷ r.1)) o) (Some (x, ys)) → (j : ℕ) → IsOneOf j (z ∷ zs) → j < x → test j ≡ false
  before_by z zs x ys None later is e j h lt = cc
  before_by z zs x ys (Some (w, ws)) later is e j (inl same) lt = ap test same ∙ is
  before_by z zs x ys (Some (w, ws)) later is e j (inr h) lt =
      let p : ◌≡◌ {A = ℕ × List ℕ} (w, z ∷ ws) (x, ys) = cc in
      let same : w ≡ x = ap (λ (r : ℕ × List ℕ). r.0) p in
      later w ws refl j h (omega (arith, lt, same))

  before_test : (z : ℕ) (zs : List ℕ) (x : ℕ) (ys : List ℕ) (b : Bool) → test z ≡ b → Ascending (z ∷ zs) → ((w : ℕ) (ws : List ℕ) → first_passing test zs ≡ Some (w, ws) → (j : ℕ) → IsOneOf j zs → j < w → test j ≡ false)
      → ◌≡◌ {A = Option (ℕ × List ℕ)} (if b then Some (z, zs) else option_map (λ (r : ℕ × List ℕ). (r.0, z ∷ r.1)) (first_passing test zs)) (Some (x, ys)) → (j : ℕ) → IsOneOf j (z ∷ zs) → j < x → test j ≡ false
  before_test z zs x ys true is a later e j h lt =
      let p : ◌≡◌ {A = ℕ × List ℕ} (z, zs) (x, ys) = cc in
      let same : z ≡ x = ap (λ (r : ℕ × List ℕ). r.0) p in
      elim h [ inl it ↦ absurd (omega (arith, lt, same, it)) | inr r ↦ (let up = a.0 j r in absurd (omega (arith, lt, same, up))) ]
  before_test z zs x ys false is a later e j h lt = before_by z zs x ys (first_passing test zs) later is e j h lt

  -- none before the first passes
  before_first : (xs : List ℕ) (x : ℕ) (ys : List ℕ) → Ascending xs → first_passing test xs ≡ Some (x, ys) → (j : ℕ) → IsOneOf j xs → j < x → test j ≡ false
  before_first [] x ys a e j h lt = absurd h
  before_first (z ∷ zs) x ys a e j h lt = before_test z zs x ys (test z) refl a (λ w ws is. before_first zs w ws a.1 is) e j h lt

  -- the others still ascend
  first_others : (xs : List ℕ) (x : ℕ) (ys : List ℕ) → Ascending xs → first_passing test xs ≡ Some (x, ys) → AreOthers xs x ys
  first_others xs x ys a e =
      let f = first_is test xs x ys e in
      let l = least_first test xs x a f.one f.passes (before_first xs x ys a e) in
      let both : ◌≡◌ {A = Option (ℕ × List ℕ)} (Some (x, ys)) (Some (x, l.0)) = sym e ∙ l.1 in
      let p : ◌≡◌ {A = ℕ × List ℕ} (x, ys) (x, l.0) = cc in
      let same : ys ≡ l.0 = ap (λ (r : ℕ × List ℕ). r.1) p in
      subst (λ (l : List ℕ). AreOthers xs x l) (sym same) l.2

-- ---- turns

module _ (waits depends : ℕ → ℕ → Bool) (functions variables : ℕ) (mixed : AreMixed waits depends functions variables) where
  abbrev free : List ℕ → ℕ → Bool
  free xs x = not (list_any (waits x) xs)

  abbrev free_of : List ℕ → ℕ → Bool
  free_of xs x = not (list_any (depends x) xs)

  -- what is left of both, and of the variables alone
  record State (xs vs : List ℕ) : Type 0 where
    ascend : Ascending xs
    ascend_of : Ascending vs
    inside : (x : ℕ) → IsOneOf x xs → x < functions + variables
    inside_of : (v : ℕ) → IsOneOf v vs → v < variables
    there : (v : ℕ) → IsOneOf v vs → IsOneOf (functions + v) xs
    back : (v : ℕ) → IsOneOf (functions + v) xs → IsOneOf v vs
    closed : (p q : ℕ) → Holds waits p q → IsOneOf q xs → IsOneOf p xs

  -- a variable that is left, to which one leads
  abbrev Out : List ℕ → ℕ → Type 0
  Out xs y = (w : ℕ) × IsOneOf (functions + w) xs × Reaches (Holds waits) y (functions + w)

  variable_out : (xs : List ℕ) (y : ℕ) → IsOneOf y xs → functions ≤ y → Out xs y
  variable_out xs y h high =
      let it : y ≡ functions + (y - functions) = omega (arith, high) in
      (y - functions, subst (λ z. IsOneOf z xs) it h, ([], it))

  edge_out : (xs : List ℕ) (x y : ℕ) → Holds waits x y → Out xs y → Out xs x
  edge_out xs x y e o = (o.0, o.1, reaches_from (Holds waits) x y (functions + o.0) e o.2)

  -- from what is left to a variable that is left, where no function is free
  lead : (xs : List ℕ) → ((x : ℕ) → x < functions → IsOneOf x xs → free xs x ≡ false) → (y : ℕ) → IsOneOf y xs → Out xs y
  lead xs none y h =
      way_out (Among waits functions) xs (Out xs) (λ x z e o. edge_out xs x z e.0 o) mixed.circles
      (λ x one. elim (cases_lt x functions) [
        | inr high ↦ inr (variable_out xs x one high)
        | inl low ↦ (
            let n = any_one (waits x) xs (not_free (list_any (waits x) xs) (none x low one)) in
            elim (cases_lt n.0 functions) [
              | inl lower ↦ inl (n.0, n.1, (n.2, low, lower))
              | inr high ↦ inr (edge_out xs x n.0 n.2 (variable_out xs n.0 n.1 high))
            ])
      ]) y h

  -- what leads to what is left is left
  walk_back : (xs vs : List ℕ) → State xs vs → (steps : List ℕ) (p q : ℕ) → Walks (Holds waits) p steps q → IsOneOf q xs → IsOneOf p xs
  walk_back xs vs s [] p q w h = subst (λ z. IsOneOf z xs) (sym w) h
  walk_back xs vs s (r ∷ rs) p q (first, rest) h = s.closed p r first (walk_back xs vs s rs r q rest h)

  -- a variable is free among both just where it is so among variables
  free_there : (xs vs : List ℕ) → State xs vs → (v : ℕ) → IsOneOf v vs → free xs (functions + v) ≡ true → free_of vs v ≡ true
  free_there xs vs s v h is = is_false (list_any (depends v) vs) (λ t. (
      let one = any_one (depends v) vs t in
      let way = (mixed.due v one.0 (s.inside_of v h) (s.inside_of one.0 one.1)).0 one.2 in
      let first = walk_back xs vs s (way.2).0 way.0 (functions + one.0) (way.2).1 (s.there one.0 one.1) in
      not_true (list_any (waits (functions + v)) xs) is (one_any (waits (functions + v)) xs way.0 first way.1)))

  bound_there : (xs vs : List ℕ) → State xs vs → ((x : ℕ) → x < functions → IsOneOf x xs → free xs x ≡ false) → (v : ℕ) → IsOneOf v vs → free xs (functions + v) ≡ false → free_of vs v ≡ false
  bound_there xs vs s none v h is =
      let one = any_one (waits (functions + v)) xs (not_free (list_any (waits (functions + v)) xs) is) in
      let r = lead xs none one.0 one.1 in
      let w = s.back r.0 r.1 in
      let due = (mixed.due v r.0 (s.inside_of v h) (s.inside_of r.0 w)).1 (one.0, one.2, r.2) in
      ap not (one_any (depends v) vs r.0 w due)

  -- what is left once one was taken
  abbrev Left : List ℕ → ℕ → List ℕ → Type 0
  Left xs x ys = AreOthers xs x ys × (free xs x ≡ true)

  closed_left : (xs : List ℕ) (x : ℕ) (ys : List ℕ) → ((p q : ℕ) → Holds waits p q → IsOneOf q xs → IsOneOf p xs) → Left xs x ys → (p q : ℕ) → Holds waits p q → IsOneOf q ys → IsOneOf p ys
  closed_left xs x ys closed (o, is) p q e h =
      let old = o.within q h in
      o.all p (closed p q e old.0) (λ same. not_true (list_any (waits x) xs) is (one_any (waits x) xs q old.0 (subst (λ z. Holds waits z q) same e)))

  function_taken : (xs vs : List ℕ) (x : ℕ) (ys : List ℕ) → State xs vs → x < functions → Left xs x ys → State ys vs
  function_taken xs vs x ys s low (o, is) = record {
    ascend = o.ascend;
    ascend_of = s.ascend_of;
    inside = λ y h. s.inside y (o.within y h).0;
    inside_of = s.inside_of;
    there = λ v h. o.all (functions + v) (s.there v h) (λ same. omega (arith, same, low));
    back = λ v h. s.back v (o.within (functions + v) h).0;
    closed = closed_left xs x ys s.closed (o, is);
  }

  variable_taken : (xs vs : List ℕ) (v : ℕ) (ys us : List ℕ) → State xs vs → Left xs (functions + v) ys → AreOthers vs v us → State ys us
  variable_taken xs vs v ys us s (o, is) others = record {
    ascend = o.ascend;
    ascend_of = others.ascend;
    inside = λ y h. s.inside y (o.within y h).0;
    inside_of = λ w h. s.inside_of w (others.within w h).0;
    there = λ w h. (let old = others.within w h in o.all (functions + w) (s.there w old.0) (λ same. old.1 (omega (arith, same))));
    back = λ w h. (let old = o.within (functions + w) h in others.all w (s.back w old.0) (λ same. old.1 (ap (λ n. functions + n) same)));
    closed = closed_left xs (functions + v) ys s.closed (o, is);
  }

  turn_none : (n : ℕ) (vs : List ℕ) → first_passing (free_of vs) vs ≡ None → (turn_order depends n vs).0 ≡ []
  turn_none zero vs e = refl
  turn_none (suc n) vs e = turns_none depends n vs e

  length_zero : (v : ℕ) (vs : List ℕ) → IsOneOf v vs → length vs ≤ 0 → ⊥
  length_zero v [] h le = h
  length_zero v (w ∷ ws) h le = omega (arith, le)

  -- one more turn of the variables
  turn_some : (m : ℕ) (vs : List ℕ) (v : ℕ) (us : List ℕ) → first_passing (free_of vs) vs ≡ Some (v, us) → length vs ≤ m → (k : ℕ) × (length us ≤ k) × ((turn_order depends m vs).0 ≡ v ∷ (turn_order depends k us).0)
  turn_some zero vs v us e le = absurd (length_zero v vs (first_is (free_of vs) vs v us e).one le)
  turn_some (suc m) vs v us e le = (m, (let few = (first_is (free_of vs) vs v us e).fewer in omega (arith, le, few)), turns_some depends m vs v us e)

  abbrev going : ℕ → List ℕ → Option (ℕ × List ℕ) → List ℕ × List ℕ
  going n xs o = elim o [ None ↦ ([], xs) | Some r ↦ (let rest = turn_order waits n r.1 in (r.0 ∷ rest.0, rest.1)) ]

  alike_by : (n : ℕ) (xs vs : List ℕ) (m : ℕ) (o : Option (ℕ × List ℕ)) → first_passing (free xs) xs ≡ o → State xs vs → length xs ≤ suc n → length vs ≤ m
      → ((ys us : List ℕ) (k : ℕ) → State ys us → length ys ≤ n → length us ≤ k → variables_among functions (turn_order waits n ys).0 ≡ (turn_order depends k us).0)
      → variables_among functions (going n xs o).0 ≡ (turn_order depends m vs).0
  alike_by n xs vs m None e s le few later =
      let none : (x : ℕ) → IsOneOf x xs → free xs x ≡ false = λ x h. first_none (free xs) xs x h e in
      sym (turn_none m vs (none_first (free_of vs) vs (λ v h. bound_there xs vs s (λ x low k. none x k) v h (none (functions + v) (s.there v h)))))
  alike_by n xs vs m (Some (x, ys)) e s le few later =
      let f = first_is (free xs) xs x ys e in
      let left : Left xs x ys = (first_others (free xs) xs x ys s.ascend e, f.passes) in
      let less : length ys ≤ n = (let fewer = f.fewer in omega (arith, le, fewer)) in
      elim (cases_lt x functions) [
        | inl low ↦ of_function functions x (turn_order waits n ys).0 low ∙ later ys vs m (function_taken xs vs x ys s low left) less few
        | inr high ↦ (
            let it : x ≡ functions + (x - functions) = omega (arith, high) in
            let before = before_first (free xs) xs x ys s.ascend e in
            let none : (y : ℕ) → y < functions → IsOneOf y xs → free xs y ≡ false = λ y low h. before y h (omega (arith, low, high)) in
            let here : IsOneOf (x - functions) vs = s.back (x - functions) (subst (λ z. IsOneOf z xs) it f.one) in
            let l = least_first (free_of vs) vs (x - functions) s.ascend_of here (free_there xs vs s (x - functions) here (subst (λ z. free xs z ≡ true) it f.passes))
            (λ j h lt. bound_there xs vs s none j h (before (functions + j) (s.there j h) (omega (arith, lt, it)))) in
            let t = turn_some m vs (x - functions) l.0 l.1 few in
            of_variable functions x (x - functions) (turn_order waits n ys).0 it
            ∙ ap (λ (r : List ℕ). (x - functions) ∷ r) (later ys l.0 t.0 (variable_taken xs vs (x - functions) ys l.0 s (subst (λ z. Left xs z ys) it left) l.2) less t.1)
            ∙ sym t.2)
      ]

  nothing : (xs : List ℕ) → length xs ≤ 0 → (x : ℕ) → IsOneOf x xs → ⊥
  nothing [] le x h = h
  nothing (y ∷ ys) le x h = omega (arith, le)

  alike : (n : ℕ) (xs vs : List ℕ) (m : ℕ) → State xs vs → length xs ≤ n → length vs ≤ m → variables_among functions (turn_order waits n xs).0 ≡ (turn_order depends m vs).0
  alike zero xs vs m s le few =
      sym (turn_none m vs (none_first (free_of vs) vs (λ v h. absurd (nothing xs le (functions + v) (s.there v h)))))
  alike (suc n) xs vs m s le few = alike_by n xs vs m (first_passing (free xs) xs) refl s le few (alike n)

  start : State (range_with_len 0 (functions + variables)) (range_with_len 0 variables)
  start = record {
    ascend = range_ascends 0 (functions + variables);
    ascend_of = range_ascends 0 variables;
    inside = λ x h. (let r = in_range 0 (functions + variables) x h in let high = r.1 in omega (arith, high));
    inside_of = λ v h. (let r = in_range 0 variables v h in let high = r.1 in omega (arith, high));
    there = λ v h. range_has 0 (functions + variables) (functions + v) (omega arith) (let r = in_range 0 variables v h in let high = r.1 in omega (arith, high));
    back = λ v h. range_has 0 variables v (omega arith) (let r = in_range 0 (functions + variables) (functions + v) h in let high = r.1 in omega (arith, high));
    closed = λ p q e h. range_has 0 (functions + variables) p (omega arith) (let lt = mixed.from p q e in omega (arith, lt));
  }

  pub without : variables_among functions (in_turn waits (range_with_len 0 (functions + variables))).0 ≡ (in_turn depends (range_with_len 0 variables)).0
  without =
      let xs = range_with_len 0 (functions + variables) in
      let vs = range_with_len 0 variables in
      alike (length xs) xs vs (length vs) start (omega arith) (omega arith)

pub without_functions : (waits depends : ℕ → ℕ → Bool) (functions variables : ℕ) → AreMixed waits depends functions variables
    → variables_among functions (in_turn waits (range_with_len 0 (functions + variables))).0 ≡ (in_turn depends (range_with_len 0 variables)).0
without_functions = without
