-- What two lists of writes hold together, step by step: the lists in which keys rise, joined as maps.
use Rattle.std.specs.Prelude.{◌≡◌, Bool, true, false, cond, T, List, [], ◌∷◌, ◌++◌, refl, Option, Some, None}
use Rattle.std.specs.declared.cmp.Ordering.{Ordering}
use Rattle.std.specs.declared.cmp.Ordering.TheVariants.{Less}
use Rattle.std.specs.Ordering.{is_lt, is_eq}
use Rattle.std.specs.Cmp.{IsTotalOrder}
use Rattle.std.specs.FinMap.{FinMap, IsAntisymmetric, entries, from_entries, get, insert, is_sorted, find, put, entries_sorted, entries-insert, get-entries, same_map, get-from_entries}
use Rattle.std.proofs.lemmas.Cmp.{tied_itself}
use Rattle.std.proofs.Common.{sym, ap, subst, ◌∙◌}
use Rattle.ws_map.specs.Greater.{greater, joined_option}
use Rattle.ws_map.specs.Kept.{joined, taken, is_news, gathered}
use Rattle.ws_map.proofs.Gathered.{gathered_entries, entries-from_entries, taken_by_news}
use Rattle.ws_map.proofs.Greater.{greater-semilattice}
use Rattle.ws_map.proofs.Kept.{joined-commutative, get-joined}
use Rattle.ws_register.proofs.Order.{Above, Precedes, turned_less, sorted-first, sorted-rest, sorted-front, sorted-second}

push_cond : {A : Type 0} (b : Bool) (a : A) (xs ys : List A) → cond b (a ∷ xs) (a ∷ ys) ≡ a ∷ cond b xs ys
push_cond true a xs ys = refl
push_cond false a xs ys = refl

either_value : {K X : Type 0} (b : Bool) (k : K) (x y : X) (es : List (K × X)) → cond b ((k, y) ∷ es) ((k, x) ∷ es) ≡ (k, cond b y x) ∷ es
either_value true k x y es = refl
either_value false k x y es = refl

with_none : {X : Type 0} (f : X → X → X) (a : Option X) → joined_option f a None ≡ a
with_none f None = refl
with_none f (Some x) = refl

-- what is no news to a part is none to all
no_news : {X : Type 0} (f : X → X → X) (part new all : Option X) → joined_option f part new ≡ part → ((x : X) → part ≡ Some x → all ≡ Some x) → joined_option f all new ≡ all
no_news f part None all known longer = with_none f all
no_news f None (Some y) all known longer = cc
no_news f (Some x) (Some y) all known longer = subst (λ z. joined_option f z (Some y) ≡ z) (sym (longer x refl)) known

module _ {K X : Type 0} (C : K → K → Ordering) where
  find-longer : (q : K) (x : X) (es gs : List (K × X)) → find C q es ≡ Some x → find C q (es ++ gs) ≡ Some x
  find-longer q x [] gs = λ e. cc
  find-longer q x (e ∷ es) gs = elim (is_eq (C q e.0)) as (λ b. cond b (Some e.1) (find C q es) ≡ Some x → cond b (Some e.1) (find C q (es ++ gs)) ≡ Some x) [
    | true ↦ λ here. here
    | false ↦ find-longer q x es gs
  ]

module _ {K X : Type 0} {C : K → K → Ordering} where
  entries_cond : (b : Bool) (m n : FinMap C X) → entries (cond b m n) ≡ cond b (entries m) (entries n)
  entries_cond true m n = refl
  entries_cond false m n = refl

module _ {K X : Type 0} (C : K → K → Ordering) (R : X → X → Ordering) where
  -- a value is put at a key where it is news
  abbrev pub keep : List (K × X) → K → X → List (K × X)
  keep es k x = cond (is_news R (find C k es) x) (put C k x es) es

  abbrev pub keep_all : List (K × X) → List (K × X) → List (K × X)
  keep_all es [] = es
  keep_all es (f ∷ fs) = keep_all (keep es f.0 f.1) fs

  -- the entries of the two maps, joined
  abbrev pub joined_entries : List (K × X) → List (K × X) → List (K × X)
  joined_entries es fs = entries (joined {C = C} (greater R) (from_entries es) (from_entries fs))

  module _ (o : IsTotalOrder C) where
    keep-behind : (e : K × X) (es : List (K × X)) (k : K) (x : X) → C e.0 k ≡ Less → keep (e ∷ es) k x ≡ e ∷ keep es k x
    keep-behind e es k x lt = rw (turned_less o e.0 k lt) (push_cond (is_news R (find C k es) x) e (put C k x es) es)

    keep-there : (k : K) (x y : X) (es : List (K × X)) → keep ((k, x) ∷ es) k y ≡ (k, greater R x y) ∷ es
    keep-there k x y es = rw (tied_itself o k) (either_value (is_lt (R x y)) k x y es)

    keep_all-behind : (e : K × X) (es fs : List (K × X)) → Above C fs e.0 → keep_all (e ∷ es) fs ≡ e ∷ keep_all es fs
    keep_all-behind e es [] h = refl
    keep_all-behind e es (f ∷ fs) h = ap (λ l. keep_all l fs) (keep-behind e es f.0 f.1 h.0) ∙ keep_all-behind e (keep es f.0 f.1) fs h.1

    keep_all-front : (gs es fs : List (K × X)) → Precedes C gs fs → keep_all (gs ++ es) fs ≡ gs ++ keep_all es fs
    keep_all-front [] es fs h = refl
    keep_all-front (g ∷ gs) es fs h = keep_all-behind g (gs ++ es) fs h.0 ∙ ap (λ (l : List (K × X)). g ∷ l) (keep_all-front gs es fs h.1)

    keep_all-both : (k : K) (x y : X) (es fs : List (K × X)) → Above C fs k → keep_all ((k, x) ∷ es) ((k, y) ∷ fs) ≡ (k, greater R x y) ∷ keep_all es fs
    keep_all-both k x y es fs h = ap (λ l. keep_all l fs) (keep-there k x y es) ∙ keep_all-behind (k, greater R x y) es fs h

  keep_all-append : (es fs gs : List (K × X)) → keep_all es (fs ++ gs) ≡ keep_all (keep_all es fs) gs
  keep_all-append es [] gs = refl
  keep_all-append es (f ∷ fs) gs = keep_all-append (keep es f.0 f.1) fs gs

  module _ (o : IsTotalOrder C) (same : IsAntisymmetric C) where
    entries-taken : (m : FinMap C X) (k : K) (x : X) → entries (taken (greater R) m k x) ≡ keep (entries m) k x
    entries-taken m k x =
        ap entries (taken_by_news o same R m k x)
        ∙ entries_cond (is_news R (get m k) x) (insert m k x) m
        ∙ ap (λ l. cond (is_news R (get m k) x) l (entries m)) (entries-insert o m k x)
        ∙ ap (λ g. cond (is_news R g x) (put C k x (entries m)) (entries m)) (get-entries m k)

    entries-gathered : (m : FinMap C X) (es : List (K × X)) → entries (gathered (greater R) m es) ≡ keep_all (entries m) es
    entries-gathered m [] = refl
    entries-gathered m (e ∷ es) = entries-gathered (taken (greater R) m e.0 e.1) es ∙ ap (λ l. keep_all l es) (entries-taken m e.0 e.1)

    -- to join is to keep each
    joined-keep_all : (es fs : List (K × X)) → T (is_sorted C es) → T (is_sorted C fs) → joined_entries es fs ≡ keep_all es fs
    joined-keep_all es fs g h =
        ap entries (sym (gathered_entries o same (greater R) (from_entries es) (from_entries fs)))
        ∙ ap (λ l. entries (gathered (greater R) (from_entries {R = C} es) l)) (entries-from_entries o same fs h)
        ∙ entries-gathered (from_entries es) fs
        ∙ ap (λ l. keep_all l fs) (entries-from_entries o same es g)

    pub joined-sorted : (es fs : List (K × X)) → T (is_sorted C (joined_entries es fs))
    joined-sorted es fs = entries_sorted _

    pub joined-nothing : (es : List (K × X)) → T (is_sorted C es) → joined_entries es [] ≡ es
    joined-nothing es g = joined-keep_all es [] g tt

    -- what is below all of the other stands in front
    pub joined-front : (gs es fs : List (K × X)) → T (is_sorted C (gs ++ es)) → T (is_sorted C fs) → Precedes C gs fs → joined_entries (gs ++ es) fs ≡ gs ++ joined_entries es fs
    joined-front gs es fs g h p =
        joined-keep_all (gs ++ es) fs g h ∙ keep_all-front o gs es fs p
        ∙ ap (λ l. gs ++ l) (sym (joined-keep_all es fs (sorted-second C gs es g) h))

    -- at a key that both have, the greater
    pub joined-both : (k : K) (x y : X) (es fs : List (K × X)) → T (is_sorted C ((k, x) ∷ es)) → T (is_sorted C ((k, y) ∷ fs)) → joined_entries ((k, x) ∷ es) ((k, y) ∷ fs) ≡ (k, greater R x y) ∷ joined_entries es fs
    joined-both k x y es fs g h =
        joined-keep_all ((k, x) ∷ es) ((k, y) ∷ fs) g h ∙ keep_all-both o k x y es fs (sorted-first C (k, y) fs h)
        ∙ ap (λ (l : List (K × X)). (k, greater R x y) ∷ l) (sym (joined-keep_all es fs (sorted-rest C (k, x) es g) (sorted-rest C (k, y) fs h)))

    found_joined : (es fs : List (K × X)) (q : K) → find C q (joined_entries es fs) ≡ joined_option (greater R) (find C q es) (find C q fs)
    found_joined es fs q =
        sym (get-entries _ q) ∙ get-joined o (greater R) (from_entries es) (from_entries fs) q
        ∙ ap (λ a. joined_option (greater R) a (get (from_entries {R = C} fs) q)) (get-from_entries o es q)
        ∙ ap (joined_option (greater R) (find C q es)) (get-from_entries o fs q)

    still_known : (es gs fs : List (K × X)) → joined_entries es fs ≡ es → T (is_sorted C (es ++ gs)) → joined_entries (es ++ gs) fs ≡ es ++ gs
    still_known es gs fs known g =
        ap entries (same_map o same (joined {C = C} (greater R) (from_entries (es ++ gs)) (from_entries fs)) (from_entries (es ++ gs)) (λ q.
        get-entries _ q ∙ found_joined (es ++ gs) fs q
        ∙ no_news (greater R) (find C q es) (find C q fs) (find C q (es ++ gs)) (sym (found_joined es fs q) ∙ ap (find C q) known) (λ x. find-longer C q x es gs)
        ∙ sym (get-from_entries o (es ++ gs) q)))
        ∙ entries-from_entries o same (es ++ gs) g

    -- what is no news to the front can be left out
    pub joined-known : (es gs fs hs : List (K × X)) → joined_entries es fs ≡ es → T (is_sorted C (es ++ gs)) → T (is_sorted C (fs ++ hs)) → joined_entries (es ++ gs) (fs ++ hs) ≡ joined_entries (es ++ gs) hs
    joined-known es gs fs hs known g h =
        joined-keep_all (es ++ gs) (fs ++ hs) g h ∙ keep_all-append (es ++ gs) fs hs
        ∙ ap (λ l. keep_all l hs) (sym (joined-keep_all (es ++ gs) fs g (sorted-front C fs hs h)) ∙ still_known es gs fs known g)
        ∙ sym (joined-keep_all (es ++ gs) hs g (sorted-second C fs hs h))

    module _ (r : IsTotalOrder R) (one : IsAntisymmetric R) where
      pub joined-turned : (es fs : List (K × X)) → joined_entries es fs ≡ joined_entries fs es
      joined-turned es fs = ap entries (joined-commutative o same (greater-semilattice r one) (from_entries es) (from_entries fs))

      pub joined-to_nothing : (es : List (K × X)) → T (is_sorted C es) → joined_entries [] es ≡ es
      joined-to_nothing es g = joined-turned [] es ∙ joined-nothing es g
