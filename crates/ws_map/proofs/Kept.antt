-- What maps that keep the greatest value for each key stand for, and the laws of the union of two.
use Rattle.std.specs.Prelude.{◌≡◌, Bool, true, false, cond, List, [], ◌∷◌, ◌++◌, is_some, ◌||◌, refl, Option, Some, None}
use Rattle.std.specs.List.{Contains, list_any}
use Rattle.std.specs.declared.cmp.Ordering.{Ordering}
use Rattle.std.specs.declared.cmp.Ordering.TheVariants.{Less, Equal, Greater}
use Rattle.std.specs.Ordering.{is_lt, is_gt, is_eq, eq_by_cmp}
use Rattle.std.specs.Cmp.{IsTotalOrder}
use Rattle.std.specs.FinMap.{FinMap, get, keys, IsAntisymmetric, same_map, find, get-from_entries, get_tied, contains_key-keys}
use Rattle.std.proofs.lemmas.Cmp.{upto}
use Rattle.std.proofs.lemmas.List.Folds.{list_any-append}
use Rattle.std.proofs.lemmas.List.Elements.{Contains-append_left, Contains-append_right, Contains-append_cases}
use Rattle.std.proofs.Common.{sym, ap, subst, ◌∙◌, inl, inr}
use Rattle.ws_map.specs.Greater.{greater, joined_option, IsSemilattice}
use Rattle.ws_map.specs.Kept.{IsGreatest, StandsAt, StandsFor, SameMembers, entry_of, entries_at, joined}
use Rattle.ws_map.proofs.Greater.{joined_option-commutative, joined_option-associative, joined_option-idempotent, first_upto, second_upto, one_of_both}

none_cond : {X : Type 0} (a : Bool) (w : Option X) → None ≡ w → cond a w None ≡ w
none_cond true w h = refl
none_cond false w h = h

any_of_two : {X : Type 0} (f : X → X → X) (a b : Option X) → cond (is_some a || is_some b) (joined_option f a b) None ≡ joined_option f a b
any_of_two f None None = refl
any_of_two f None (Some y) = refl
any_of_two f (Some x) None = refl
any_of_two f (Some x) (Some y) = refl

equal_from_test : (r : Ordering) → is_eq r ≡ true → r ≡ Equal
equal_from_test Less e = cc
equal_from_test Equal e = refl
equal_from_test Greater e = cc

module _ {K X : Type 0} (C : K → K → Ordering) where
  at_one : (o w : Option X) (q k : K) (rest : List (K × X)) (a b : Bool) → eq_by_cmp C q k ≡ b → (b ≡ true → o ≡ w) → find C q rest ≡ cond a w None → find C q (entry_of k o ++ rest) ≡ cond (b || a) w None
  at_one None w q k rest a true e h r = r ∙ none_cond a w (h refl)
  at_one None w q k rest a false e h r = r
  at_one (Some x) w q k rest a true e h r = ap (λ t. cond t (Some x) (find C q rest)) e ∙ h refl
  at_one (Some x) w q k rest a false e h r = ap (λ t. cond t (Some x) (find C q rest)) e ∙ r

  find-chosen : (at : K → Option X) (q : K) → ((k : K) → eq_by_cmp C q k ≡ true → at k ≡ at q) → (ks : List K) → find C q (entries_at at ks) ≡ cond (list_any (eq_by_cmp C q) ks) (at q) None
  find-chosen at q alike [] = refl
  find-chosen at q alike (k ∷ ks) = at_one (at k) (at q) q k (entries_at at ks) (list_any (eq_by_cmp C q) ks) (eq_by_cmp C q k) refl (alike k) (find-chosen at q alike ks)

module _ {K X : Type 0} {R : X → X → Ordering} (r : IsTotalOrder R) where
  upto_greater : (V W : List (K × X)) (q : K) (x y : X) → IsGreatest R V q x → IsGreatest R W q y → (z : X) → Contains (V ++ W) (q, z) → is_gt (R z (greater R x y)) ≡ false
  upto_greater V W q x y g h z c = elim (Contains-append_cases V W (q, z) c) [
    | inl a ↦ upto r z x (greater R x y) (g.above z a) (first_upto r x y)
    | inr b ↦ upto r z y (greater R x y) (h.above z b) (second_upto r x y)
  ]

  among_both : (V W : List (K × X)) (q : K) (x y : X) (b : Bool) → IsGreatest R V q x → IsGreatest R W q y → Contains (V ++ W) (q, cond b y x)
  among_both V W q x y true g h = Contains-append_right V W (q, y) h.among
  among_both V W q x y false g h = Contains-append_left V W (q, x) g.among

  stands_at_both : (V W : List (K × X)) (q : K) (a b : Option X) → StandsAt R V q a → StandsAt R W q b → StandsAt R (V ++ W) q (joined_option (greater R) a b)
  stands_at_both V W q None None g h = λ y c. elim (Contains-append_cases V W (q, y) c) [ inl l ↦ g y l | inr k ↦ h y k ]
  stands_at_both V W q None (Some y) g h = record {
    among = Contains-append_right V W (q, y) h.among;
    above = λ z c. elim (Contains-append_cases V W (q, z) c) [ inl l ↦ absurd (g z l) | inr k ↦ h.above z k ];
  }
  stands_at_both V W q (Some x) None g h = record {
    among = Contains-append_left V W (q, x) g.among;
    above = λ z c. elim (Contains-append_cases V W (q, z) c) [ inl l ↦ g.above z l | inr k ↦ absurd (h z k) ];
  }
  stands_at_both V W q (Some x) (Some y) g h = record {
    among = among_both V W q x y (is_lt (R x y)) g h;
    above = upto_greater V W q x y g h;
  }

  same_at : IsAntisymmetric R → (V W : List (K × X)) → SameMembers V W → (q : K) (a b : Option X) → StandsAt R V q a → StandsAt R W q b → a ≡ b
  same_at same V W is q None None g h = refl
  same_at same V W is q None (Some y) g h = absurd (g y ((is (q, y)).1 h.among))
  same_at same V W is q (Some x) None g h = absurd (h x ((is (q, x)).0 g.among))
  same_at same V W is q (Some x) (Some y) g h = ap Some (one_of_both r same x y (h.above x ((is (q, x)).0 g.among)) (g.above y ((is (q, y)).1 h.among)))

module _ {K X : Type 0} {C : K → K → Ordering} where
  module _ (o : IsTotalOrder C) where
    pub get-joined : (f : X → X → X) (m n : FinMap C X) (q : K) → get (joined f m n) q ≡ joined_option f (get m q) (get n q)
    unfolding joined
    get-joined f m n q =
        let at : K → Option X = λ k. joined_option f (get m k) (get n k) in
        let alike : (k : K) → eq_by_cmp C q k ≡ true → at k ≡ at q = λ k t. let tie = equal_from_test (C q k) t in (ap (λ z. joined_option f z (get n k)) (get_tied o m q k tie) ∙ ap (joined_option f (get m q)) (get_tied o n q k tie)) in
        get-from_entries o (entries_at at (keys m ++ keys n)) q
        ∙ find-chosen C at q alike (keys m ++ keys n)
        ∙ ap (λ b. cond b (at q) None) (list_any-append (eq_by_cmp C q) (keys m) (keys n) ∙ ap (λ b. b || list_any (eq_by_cmp C q) (keys n)) (sym (contains_key-keys m q)) ∙ ap (λ b. is_some (get m q) || b) (sym (contains_key-keys n q)))
        ∙ any_of_two f (get m q) (get n q)

    -- two maps with the same at each key are one, so joining is commutative, associative and idempotent
    module _ (same : IsAntisymmetric C) {f : X → X → X} (s : IsSemilattice f) where
      pub joined-commutative : (m n : FinMap C X) → joined f m n ≡ joined f n m
      joined-commutative m n = same_map o same _ _ (λ q. get-joined f m n q ∙ joined_option-commutative s (get m q) (get n q) ∙ sym (get-joined f n m q))

      pub joined-associative : (m n l : FinMap C X) → joined f (joined f m n) l ≡ joined f m (joined f n l)
      joined-associative m n l = same_map o same _ _ (λ q.
          get-joined f (joined f m n) l q ∙ ap (λ z. joined_option f z (get l q)) (get-joined f m n q)
          ∙ joined_option-associative s (get m q) (get n q) (get l q)
          ∙ ap (joined_option f (get m q)) (sym (get-joined f n l q)) ∙ sym (get-joined f m (joined f n l) q))

      pub joined-idempotent : (m : FinMap C X) → joined f m m ≡ m
      joined-idempotent m = same_map o same _ _ (λ q. get-joined f m m q ∙ joined_option-idempotent s (get m q))

  -- ---- what maps stand for
  module _ {R : X → X → Ordering} (r : IsTotalOrder R) where
    -- the union of two maps stands for the union of what they stand for
    pub stands_for-joined : IsTotalOrder C → (m n : FinMap C X) (V W : List (K × X)) → StandsFor R m V → StandsFor R n W → StandsFor R (joined (greater R) m n) (V ++ W)
    unfolding StandsFor
    stands_for-joined o m n V W g h q = subst (StandsAt R (V ++ W) q) (sym (get-joined o (greater R) m n q)) (stands_at_both r V W q (get m q) (get n q) (g q) (h q))

    -- maps that stand for the same set are one, however each came about
    pub one_map : IsTotalOrder C → IsAntisymmetric C → IsAntisymmetric R → (m n : FinMap C X) (V W : List (K × X)) → SameMembers V W → StandsFor R m V → StandsFor R n W → m ≡ n
    unfolding StandsFor
    one_map o keys_same same m n V W is g h = same_map o keys_same m n (λ q. same_at r same V W is q (get m q) (get n q) (g q) (h q))
