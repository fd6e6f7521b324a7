-- Values taken one at a time, and all the values of a map.
use Rattle.std.specs.Prelude.{◌≡◌, Bool, true, false, cond, T, ◌&&◌, List, [], ◌∷◌, ◌++◌, refl, Option, Some, None}
use Rattle.std.specs.List.{Contains}
use Rattle.std.specs.declared.cmp.Ordering.{Ordering}
use Rattle.std.specs.declared.cmp.Ordering.TheVariants.{Less, Equal, Greater}
use Rattle.std.specs.Ordering.{is_lt, is_gt, is_eq, eq_by_cmp}
use Rattle.std.specs.Cmp.{IsTotalOrder}
use Rattle.std.specs.FinMap.{FinMap, get, insert, empty, entries, entries_sorted, from_entries, from_sorted, is_sorted, IsAntisymmetric, same_map, get-empty, find, get-from_entries, get-from_sorted, entries-from_sorted, get-insert, get-entries, get_tied}
use Rattle.std.proofs.lemmas.List.Elements.{Contains-push, Contains-push_cases}
use Rattle.std.proofs.lemmas.Cmp.{tied_itself}
use Rattle.std.proofs.Common.{sym, ap, subst, ◌∙◌, inl, inr, arith}
use Rattle.ws_map.specs.Greater.{greater, joined_option}
use Rattle.ws_map.specs.Kept.{joined, taken, StandsFor, StandsAt, is_news, gathered}
use Rattle.ws_map.proofs.Kept.{get-joined, stands_for-joined}

with_none : {X : Type 0} (f : X → X → X) (a : Option X) → joined_option f a None ≡ a
with_none f None = refl
with_none f (Some x) = refl

both_parts : (a b : Bool) → T (a && b) → T a × T b
both_parts true b h = (tt, h)
both_parts false b h = absurd h

joined_parts : (a b : Bool) → T a → T b → T (a && b)
joined_parts true b h k = k
joined_parts false b h k = absurd h

equal_test : (r : Ordering) → is_eq r ≡ true → r ≡ Equal
equal_test Less e = cc
equal_test Equal e = refl
equal_test Greater e = cc

less_test : (r : Ordering) → T (is_lt r) → r ≡ Less
less_test Less e = refl
less_test Equal e = absurd e
less_test Greater e = absurd e

taken_one : {X : Type 0} (f : X → X → X) (a : Option X) (x : X) (b : Bool) → joined_option f a (cond b (Some x) None) ≡ cond b (joined_option f a (Some x)) a
taken_one f a x true = refl
taken_one f a x false = with_none f a

taken_then : {X : Type 0} (f : X → X → X) (a z : Option X) (x : X) (b : Bool) → (b ≡ true → z ≡ None) → joined_option f (cond b (joined_option f a (Some x)) a) z ≡ joined_option f a (cond b (Some x) z)
taken_then f a z x true h = ap (joined_option f (joined_option f a (Some x))) (h refl) ∙ with_none f (joined_option f a (Some x))
taken_then f a z x false h = refl

same_both : {X : Type 0} (b : Bool) (x : X) → cond b x x ≡ x
same_both true x = refl
same_both false x = refl

by_news : {X : Type 0} (b : Bool) (w x : X) → Some (cond b x w) ≡ cond b (Some x) (Some w)
by_news true w x = refl
by_news false w x = refl

news_taken : {X : Type 0} (R : X → X → Ordering) (a w : Option X) (x : X) (t : Bool) → (t ≡ true → a ≡ w) → cond t (joined_option (greater R) a (Some x)) a ≡ cond (is_news R w x) (cond t (Some x) a) a
news_taken R None None x true h = refl
news_taken R None (Some w) x true h = cc (h refl)
news_taken R (Some a) None x true h = cc (h refl)
news_taken R (Some a) (Some w) x true h = ap (λ z. joined_option (greater R) z (Some x)) (h refl) ∙ by_news (is_lt (R w x)) w x ∙ ap (λ z. cond (is_lt (R w x)) (Some x) z) (sym (h refl))
news_taken R a w x false h = sym (same_both (is_news R w x) a)

get_cond : {K X : Type 0} {C : K → K → Ordering} (b : Bool) (m n : FinMap C X) (q : K) → get (cond b m n) q ≡ cond b (get m q) (get n q)
get_cond true m n q = refl
get_cond false m n q = refl

module _ {K X : Type 0} {C : K → K → Ordering} (o : IsTotalOrder C) where
  pub find_above : (q k : K) (x : X) → C q k ≡ Equal → (es : List (K × X)) → T (is_sorted C ((k, x) ∷ es)) → find C q es ≡ None
  find_above q k x t [] h = refl
  find_above q k x t (e ∷ es) h =
      let p = both_parts _ _ h in
      let first = both_parts _ _ p.0 in
      let rest = both_parts _ _ p.1 in
      ap (λ r. cond (is_eq r) (Some e.1) (find C q es)) (o.congr q k e.0 t ∙ less_test _ first.0) ∙ find_above q k x t es (joined_parts _ _ first.1 rest.1)

  pub get-taken : (f : X → X → X) (m : FinMap C X) (k : K) (x : X) (q : K) → get (taken f m k x) q ≡ cond (eq_by_cmp C q k) (joined_option f (get m q) (Some x)) (get m q)
  get-taken f m k x q =
      get-joined o f m (insert empty k x) q
      ∙ ap (joined_option f (get m q)) (get-insert o empty k x q ∙ ap (cond (eq_by_cmp C q k) (Some x)) (get-empty C q))
      ∙ taken_one f (get m q) x (eq_by_cmp C q k)

  get-gathered : (f : X → X → X) (es : List (K × X)) → T (is_sorted C es) → (m : FinMap C X) (q : K) → get (gathered f m es) q ≡ joined_option f (get m q) (find C q es)
  get-gathered f [] h m q = sym (with_none f (get m q))
  get-gathered f (e ∷ es) h m q =
      let p = both_parts _ _ h in
      get-gathered f es p.1 (taken f m e.0 e.1) q
      ∙ ap (λ z. joined_option f z (find C q es)) (get-taken f m e.0 e.1 q)
      ∙ taken_then f (get m q) (find C q es) e.1 (eq_by_cmp C q e.0) (λ t. find_above q e.0 e.1 (equal_test (C q e.0) t) es h)

  module _ (same : IsAntisymmetric C) where
    -- to take each entry of a map in turn is to join the map
    pub gathered_entries : (f : X → X → X) (m n : FinMap C X) → gathered f m (entries n) ≡ joined f m n
    gathered_entries f m n = same_map o same _ _ (λ q. get-gathered f (entries n) (entries_sorted n) m q ∙ ap (joined_option f (get m q)) (sym (get-entries n q)) ∙ sym (get-joined o f m n q))

    pub entries-from_entries : (es : List (K × X)) → T (is_sorted C es) → entries (from_entries {R = C} es) ≡ es
    entries-from_entries es h = ap entries (same_map o same (from_entries es) (from_sorted es) (λ q. get-from_entries o es q ∙ sym (get-from_sorted C es q h))) ∙ entries-from_sorted C es h

    -- nothing changes where the value is no news, and else it is inserted
    pub taken_by_news : (R : X → X → Ordering) (m : FinMap C X) (k : K) (x : X) → taken (greater R) m k x ≡ cond (is_news R (get m k) x) (insert m k x) m
    taken_by_news R m k x = same_map o same _ _ (λ q.
        get-taken (greater R) m k x q
        ∙ news_taken R (get m q) (get m k) x (eq_by_cmp C q k) (λ t. sym (get_tied o m q k (equal_test (C q k) t)))
        ∙ ap (λ z. cond (is_news R (get m k) x) z (get m q)) (sym (get-insert o m k x q))
        ∙ sym (get_cond (is_news R (get m k) x) (insert m k x) m q))

    -- what the two ways through a call that takes one value show: it was news, or not
    pub taken_news : (R : X → X → Ordering) (m n : FinMap C X) (k j i : K) (x y z : X) (b : Bool) → j ≡ k → y ≡ x → i ≡ k → z ≡ x → b ≡ is_news R (get m j) y → b ≡ true → n ≡ insert m i z → n ≡ taken (greater R) m k x
    taken_news R m n k j i x y z b ej ey ei ez was news e =
        let is : is_news R (get m k) x ≡ true = ap (λ w. is_news R (get m w) x) (sym ej) ∙ ap (is_news R (get m j)) (sym ey) ∙ sym was ∙ news in
        e ∙ ap (λ w. insert m w z) ei ∙ ap (insert m k) ez ∙ sym (taken_by_news R m k x ∙ ap (λ t. cond t (insert m k x) m) is)

    pub taken_old : (R : X → X → Ordering) (m : FinMap C X) (k j : K) (x y : X) (b : Bool) → j ≡ k → y ≡ x → b ≡ is_news R (get m j) y → b ≡ false → m ≡ taken (greater R) m k x
    taken_old R m k j x y b ej ey was old =
        let is : is_news R (get m k) x ≡ false = ap (λ w. is_news R (get m w) x) (sym ej) ∙ ap (is_news R (get m j)) (sym ey) ∙ sym was ∙ old in
        sym (taken_by_news R m k x ∙ ap (λ t. cond t (insert m k x) m) is)

    pub joined_empty : (f : X → X → X) (m : FinMap C X) → joined f empty m ≡ m
    joined_empty f m = same_map o same _ _ (λ q. get-joined o f empty m q ∙ ap (λ z. joined_option f z (get m q)) (get-empty C q))

none_in_empty : {A : Type 0} (a : A) → ¬ (Contains [] a)
none_in_empty a c = absurd (omega (arith, c.1))

differs : (b : Bool) → b ≡ true → b ≡ false → ⊥
differs true p q = cc
differs false p q = cc

module _ {K X : Type 0} {C : K → K → Ordering} (o : IsTotalOrder C) (same : IsAntisymmetric C) {R : X → X → Ordering} (r : IsTotalOrder R) where
  only_one : (k q : K) (x y : X) → Contains {X = K × X} ((k, x) ∷ []) (q, y) → ◌≡◌ {A = K × X} (k, x) (q, y)
  only_one k q x y c = elim (Contains-push_cases [] (k, x) (q, y) c) [ inl n ↦ absurd (none_in_empty (q, y) n) | inr e ↦ e ]

  at_one_key : (k q : K) (x : X) (b : Bool) → eq_by_cmp C q k ≡ b → StandsAt R ((k, x) ∷ []) q (cond b (Some x) None)
  at_one_key k q x true e =
      let keys : q ≡ k = same q k (equal_test (C q k) e) in
      record {
        among = subst (λ z. Contains {X = K × X} ((k, x) ∷ []) (z, x)) (sym keys) (Contains-push [] (k, x));
        above = λ y c. subst (λ z. is_gt (R z x) ≡ false) (ap (λ (p : K × X). p.1) (only_one k q x y c)) (ap is_gt (tied_itself r x));
      }
  at_one_key k q x false e = λ y c.
      let keys : k ≡ q = ap (λ (p : K × X). p.0) (only_one k q x y c) in
      absurd (differs (eq_by_cmp C q k) (ap is_eq (subst (λ z. C q z ≡ Equal) (sym keys) (tied_itself o q))) e)

  -- one more value makes the map stand for one more member
  pub stands_for-taken : (m : FinMap C X) (W : List (K × X)) (k : K) (x : X) → StandsFor R m W → StandsFor R (taken (greater R) m k x) (W ++ (k, x) ∷ [])
  unfolding StandsFor
  stands_for-taken m W k x h = stands_for-joined r o m (insert empty k x) W ((k, x) ∷ []) h (λ q. subst (StandsAt R ((k, x) ∷ []) q) (sym (get-insert o empty k x q ∙ ap (cond (eq_by_cmp C q k) (Some x)) (get-empty C q))) (at_one_key k q x (eq_by_cmp C q k) refl))

  pub stands_for_taken : (m n : FinMap C X) (W : List (K × X)) (k : K) (x : X) → n ≡ taken (greater R) m k x → StandsFor R m W → StandsFor R n (W ++ (k, x) ∷ [])
  stands_for_taken m n W k x e h = subst (λ l. StandsFor R l (W ++ (k, x) ∷ [])) (sym e) (stands_for-taken m W k x h)

  pub stands_for_joined : (m n l : FinMap C X) (V W : List (K × X)) → l ≡ joined (greater R) m n → StandsFor R m V → StandsFor R n W → StandsFor R l (V ++ W)
  stands_for_joined m n l V W e g h = subst (λ k. StandsFor R k (V ++ W)) (sym e) (stands_for-joined r o m n V W g h)
