-- Entries whose keys rise: their parts, and two parts that make them.
use Rattle.std.specs.Prelude.{◌≡◌, Bool, true, false, cond, T, ◌&&◌, List, [], ◌∷◌, ◌++◌, refl, Some, None}
use Rattle.std.specs.declared.cmp.Ordering.{Ordering}
use Rattle.std.specs.declared.cmp.Ordering.TheVariants.{Less, Equal, Greater}
use Rattle.std.specs.List.{AllByRecursion}
use Rattle.std.specs.Ordering.{is_lt, is_eq, ordering_reverse}
use Rattle.std.specs.Cmp.{IsTotalOrder}
use Rattle.std.specs.FinMap.{is_sorted, find, put}
use Rattle.std.proofs.Common.{sym, ap, subst, ◌∙◌}

pub both_parts : (a b : Bool) → T (a && b) → T a × T b
both_parts true b h = (tt, h)
both_parts false b h = absurd h

pub joined_parts : (a b : Bool) → T a → T b → T (a && b)
joined_parts true b h k = k
joined_parts false b h k = absurd h

less_test : (r : Ordering) → T (is_lt r) → r ≡ Less
less_test Less e = refl
less_test Equal e = absurd e
less_test Greater e = absurd e

is_less : (r : Ordering) → r ≡ Less → T (is_lt r)
is_less r e = subst (λ z. T (is_lt z)) (sym e) tt

-- what holds of each of two parts
pub all-append : {A : Type 0} (P : A → Type 0) (xs ys : List A) → AllByRecursion P xs → AllByRecursion P ys → AllByRecursion P (xs ++ ys)
all-append P [] ys g h = h
all-append P (x ∷ xs) ys g h = (g.0, all-append P xs ys g.1 h)

pub all-first : {A : Type 0} (P : A → Type 0) (xs ys : List A) → AllByRecursion P (xs ++ ys) → AllByRecursion P xs
all-first P [] ys h = tt
all-first P (x ∷ xs) ys h = (h.0, all-first P xs ys h.1)

pub all-second : {A : Type 0} (P : A → Type 0) (xs ys : List A) → AllByRecursion P (xs ++ ys) → AllByRecursion P ys
all-second P [] ys h = h
all-second P (x ∷ xs) ys h = all-second P xs ys h.1

pub all-weaker : {A : Type 0} (P Q : A → Type 0) → ((x : A) → P x → Q x) → (xs : List A) → AllByRecursion P xs → AllByRecursion Q xs
all-weaker P Q f [] h = tt
all-weaker P Q f (x ∷ xs) h = (f x h.0, all-weaker P Q f xs h.1)

pub turned_less : {K : Type 0} {C : K → K → Ordering} → IsTotalOrder C → (j k : K) → C j k ≡ Less → C k j ≡ Greater
turned_less o j k lt = o.antisymm k j ∙ ap ordering_reverse lt

module _ {K X : Type 0} (C : K → K → Ordering) where
  -- all keys are below k, and above it
  abbrev pub Below : List (K × X) → K → Type 0
  Below es k = AllByRecursion (λ e. C e.0 k ≡ Less) es

  abbrev pub Above : List (K × X) → K → Type 0
  Above es k = AllByRecursion (λ e. C k e.0 ≡ Less) es

  -- each key of the first is below all of the second
  abbrev pub Precedes : List (K × X) → List (K × X) → Type 0
  Precedes fs es = AllByRecursion (λ f. Above es f.0) fs

  -- the first key is below the others
  pub sorted-first : (e : K × X) (es : List (K × X)) → T (is_sorted C (e ∷ es)) → Above es e.0
  sorted-first e [] h = tt
  sorted-first e (f ∷ es) h =
      let p = both_parts _ _ h in
      let first = both_parts _ _ p.0 in
      let rest = both_parts _ _ p.1 in
      (less_test _ first.0, sorted-first e es (joined_parts _ _ first.1 rest.1))

  pub sorted-rest : (e : K × X) (es : List (K × X)) → T (is_sorted C (e ∷ es)) → T (is_sorted C es)
  sorted-rest e es h = (both_parts _ _ h).1

  pub sorted-cons : (e : K × X) (es : List (K × X)) → Above es e.0 → T (is_sorted C es) → T (is_sorted C (e ∷ es))
  sorted-cons e [] h s = tt
  sorted-cons e (f ∷ es) h s =
      let tail = sorted-cons e es h.1 (sorted-rest f es s) in
      joined_parts _ _ (joined_parts _ _ (is_less (C e.0 f.0) h.0) (both_parts _ _ tail).0) s

  pub sorted-second : (fs es : List (K × X)) → T (is_sorted C (fs ++ es)) → T (is_sorted C es)
  sorted-second [] es h = h
  sorted-second (f ∷ fs) es h = sorted-second fs es (sorted-rest f (fs ++ es) h)

  pub sorted-front : (fs es : List (K × X)) → T (is_sorted C (fs ++ es)) → T (is_sorted C fs)
  sorted-front [] es h = tt
  sorted-front (f ∷ fs) es h = sorted-cons f fs (all-first (λ e. C f.0 e.0 ≡ Less) fs es (sorted-first f (fs ++ es) h)) (sorted-front fs es (sorted-rest f (fs ++ es) h))

  pub sorted-precedes : (fs es : List (K × X)) → T (is_sorted C (fs ++ es)) → Precedes fs es
  sorted-precedes [] es h = tt
  sorted-precedes (f ∷ fs) es h = (all-second (λ e. C f.0 e.0 ≡ Less) fs es (sorted-first f (fs ++ es) h), sorted-precedes fs es (sorted-rest f (fs ++ es) h))

  pub sorted-append : (fs es : List (K × X)) → T (is_sorted C fs) → T (is_sorted C es) → Precedes fs es → T (is_sorted C (fs ++ es))
  sorted-append [] es g h p = h
  sorted-append (f ∷ fs) es g h p = sorted-cons f (fs ++ es) (all-append (λ e. C f.0 e.0 ≡ Less) fs es (sorted-first f fs g) p.0) (sorted-append fs es (sorted-rest f fs g) h p.1)

  -- all before an element are below it
  pub precedes-first : (fs : List (K × X)) (e : K × X) (es : List (K × X)) → Precedes fs (e ∷ es) → Below fs e.0
  precedes-first [] e es p = tt
  precedes-first (f ∷ fs) e es p = (p.0.0, precedes-first fs e es p.1)

  precedes-nothing : (fs : List (K × X)) → Precedes fs []
  precedes-nothing [] = tt
  precedes-nothing (f ∷ fs) = (tt, precedes-nothing fs)

  module _ (o : IsTotalOrder C) where
    pub above-lower : (j k : K) → C j k ≡ Less → (es : List (K × X)) → Above es k → Above es j
    above-lower j k lt [] h = tt
    above-lower j k lt (e ∷ es) h = (o.trans j k e.0 lt h.0, above-lower j k lt es h.1)

    -- what is below a key is below what is above it
    pub below-precedes : (fs : List (K × X)) (k : K) (es : List (K × X)) → Below fs k → Above es k → Precedes fs es
    below-precedes [] k es g h = tt
    below-precedes (f ∷ fs) k es g h = (above-lower f.0 k g.0 es h, below-precedes fs k es g.1 h)

    -- what is below the first key is below all
    pub precedes-sorted : (fs : List (K × X)) (e : K × X) (es : List (K × X)) → T (is_sorted C (e ∷ es)) → Below fs e.0 → Precedes fs (e ∷ es)
    precedes-sorted [] e es s h = tt
    precedes-sorted (f ∷ fs) e es s h = ((h.0, above-lower f.0 e.0 h.0 es (sorted-first e es s)), precedes-sorted fs e es s h.1)

    -- what is found behind the front
    pub find-behind : (fs : List (K × X)) (k : K) (es : List (K × X)) → Below fs k → find C k (fs ++ es) ≡ find C k es
    find-behind [] k es h = refl
    find-behind (f ∷ fs) k es h = ap (λ r. cond (is_eq r) (Some f.1) (find C k (fs ++ es))) (turned_less o f.0 k h.0) ∙ find-behind fs k es h.1

    pub find-none : (k : K) (es : List (K × X)) → Above es k → find C k es ≡ None
    find-none k [] h = refl
    find-none k (e ∷ es) h = ap (λ r. cond (is_eq r) (Some e.1) (find C k es)) h.0 ∙ find-none k es h.1

    -- what is found before the back
    pub find-before : (fs : List (K × X)) (k : K) (es : List (K × X)) → Above es k → find C k (fs ++ es) ≡ find C k fs
    find-before [] k es h = find-none k es h
    find-before (f ∷ fs) k es h = ap (cond (is_eq (C k f.0)) (Some f.1)) (find-before fs k es h)

    -- an entry is put behind the front
    pub put-behind : (fs : List (K × X)) (k : K) (x : X) (es : List (K × X)) → Below fs k → put C k x (fs ++ es) ≡ fs ++ put C k x es
    put-behind [] k x es h = refl
    put-behind (f ∷ fs) k x es h = rw (turned_less o f.0 k h.0) (ap (λ (l : List (K × X)). f ∷ l) (put-behind fs k x es h.1))

    pub put-least : (k : K) (x : X) (es : List (K × X)) → Above es k → put C k x es ≡ (k, x) ∷ es
    put-least k x [] h = refl
    put-least k x (e ∷ es) h = rw h.0 refl

    -- and before the back
    pub put-before : (fs : List (K × X)) (k : K) (x : X) (es : List (K × X)) → Above es k → put C k x (fs ++ es) ≡ put C k x fs ++ es
    put-before [] k x es h = put-least k x es h
    put-before (f ∷ fs) k x es h = elim (C k f.0) as (λ r. C k f.0 ≡ r → put C k x ((f ∷ fs) ++ es) ≡ put C k x (f ∷ fs) ++ es) [
      | Less ↦ λ e. rw e refl
      | Equal ↦ λ e. rw e refl
      | Greater ↦ λ e. rw e (ap (λ (l : List (K × X)). f ∷ l) (put-before fs k x es h))
    ] refl
