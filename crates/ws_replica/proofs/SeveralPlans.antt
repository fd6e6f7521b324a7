-- The jobs of several plans in one list: imports lead down, and each end is found behind those of the plans before.
use Rattle.std.proofs.Common.{◌≡◌, ℕ, zero, suc, ◌+◌, ◌<◌, ◌≤◌, List, [], ◌∷◌, ◌++◌, map, length, Option, None, Some, refl, sym, ap, subst, ◌∙◌, inl, inr, arith}
use Rattle.std.specs.List.{slice_get, Contains, AllZip}
use Rattle.std.proofs.lemmas.List.{get_or-append-add, get_or_append_left}
use Rattle.ws_action.proofs.Members.{at_head, later, none_in_empty, head_or_later}
use Rattle.ws_board.specs.Work.{Job, Work}
use Rattle.ws_board.specs.Ends.{End, Blocked, end_at, somes, work_in, work_at, job_imports, job_imports_at, IsRanked}
use Rattle.ws_replica.specs.Jobs.{ReachedDirectory, job_after}

-- the job of what was reached, if it is of the only plan
abbrev pub job_of : ReachedDirectory → Job
job_of r = record { work = r.work; imports = r.imports }

-- imports are numbers of the plan's own directories
abbrev pub AreWithin : ℕ → List ReachedDirectory → Type 0
AreWithin n rs = (r : ReachedDirectory) → Contains rs r → (k : ℕ) → Contains r.imports k → k < n

-- ---- lists

pub somes_append : {X : Type 0} (xs ys : List (Option X)) → somes (xs ++ ys) ≡ somes xs ++ somes ys
somes_append [] ys = refl
somes_append (None ∷ xs) ys = somes_append xs ys
somes_append (Some x ∷ xs) ys = ap (λ zs. x ∷ zs) (somes_append xs ys)

pub zip_length : {A B : Type 0} (R : A → B → Type 0) (xs : List A) (ys : List B) → AllZip R xs ys → length xs ≡ length ys
zip_length R [] [] h = refl
zip_length R [] (y ∷ ys) h = absurd h
zip_length R (x ∷ xs) [] h = absurd h
zip_length R (x ∷ xs) (y ∷ ys) h = let rest = zip_length R xs ys h.1 in omega (arith, rest)

-- lists that go with others, one after another
pub zip_append : {A B : Type 0} (R : A → B → Type 0) (xs ys : List A) (us vs : List B) → AllZip R xs us → AllZip R ys vs → AllZip R (xs ++ ys) (us ++ vs)
zip_append R [] ys [] vs g h = h
zip_append R [] ys (u ∷ us) vs g h = absurd g
zip_append R (x ∷ xs) ys [] vs g h = absurd g
zip_append R (x ∷ xs) ys (u ∷ us) vs g h = (g.0, zip_append R xs ys us vs g.1 h)

-- ---- ends

pub end_within : (whole front part back : List End) (n : ℕ) → whole ≡ front ++ (part ++ back) → length front ≡ n → (k : ℕ) → k < length part → end_at whole (n + k) ≡ end_at part k
end_within whole front part back n is long k lt =
    ap (λ es. end_at es (n + k)) is ∙ ap (λ m. end_at (front ++ (part ++ back)) (m + k)) (sym long)
    ∙ get_or-append-add front (part ++ back) k Blocked ∙ get_or_append_left part back Blocked k lt

-- ---- ranks

-- no import is below n
abbrev pub AreFrom : ℕ → List Job → Type 0
AreFrom n jobs = (j k : ℕ) → Contains (job_imports_at jobs j) k → n ≤ k

-- imports lead down, where they are numbers of these jobs after n others
abbrev pub IsRankedFrom : ℕ → (ℕ → ℕ) → List Job → Type 0
IsRankedFrom n rank jobs = (j k : ℕ) (v w : Work) → work_at jobs j ≡ Some v → Contains (job_imports_at jobs j) (n + k) → work_at jobs k ≡ Some w → rank k < rank j

moved_from : (n : ℕ) (ks : List ℕ) (i : ℕ) → Contains (map (λ k. n + k) ks) i → n ≤ i
moved_from n [] i c = absurd (none_in_empty i c)
moved_from n (k ∷ ks) i c = elim (head_or_later (n + k) (map (λ k. n + k) ks) i c) [
  | inl e ↦ omega (arith, e)
  | inr l ↦ moved_from n ks i l
]

pub moved_back : (n : ℕ) (ks : List ℕ) (i : ℕ) → Contains (map (λ k. n + k) ks) (n + i) → Contains ks i
moved_back n [] i c = absurd (none_in_empty (n + i) c)
moved_back n (k ∷ ks) i c = elim (head_or_later (n + k) (map (λ k. n + k) ks) (n + i) c) [
  | inl e ↦ at_head ks k i (let z : k ≡ i = omega (arith, e) in z)
  | inr l ↦ later k ks i (moved_back n ks i l)
]

after_work : (n : ℕ) (rs : List ReachedDirectory) (j : ℕ) → work_at (map (job_after n) rs) j ≡ work_at (map job_of rs) j
after_work n [] j = refl
after_work n (r ∷ rs) zero = refl
after_work n (r ∷ rs) (suc j) = after_work n rs j

after_imports : (n : ℕ) (rs : List ReachedDirectory) (j : ℕ) → job_imports_at (map (job_after n) rs) j ≡ map (λ k. n + k) (job_imports_at (map job_of rs) j)
after_imports n [] j = refl
after_imports n (r ∷ rs) zero = refl
after_imports n (r ∷ rs) (suc j) = after_imports n rs j

pub after_from : (n : ℕ) (rs : List ReachedDirectory) → AreFrom n (map (job_after n) rs)
after_from n rs j k c = moved_from n (job_imports_at (map job_of rs) j) k (subst (λ ks. Contains ks k) (after_imports n rs j) c)

pub after_ranked : (n : ℕ) (rs : List ReachedDirectory) (rank : ℕ → ℕ) → IsRanked rank (map job_of rs) → IsRankedFrom n rank (map (job_after n) rs)
after_ranked n rs rank down j k v w has among also =
    down j k v w (sym (after_work n rs j) ∙ has) (moved_back n (job_imports_at (map job_of rs) j) k (subst (λ ks. Contains ks (n + k)) (after_imports n rs j) among)) (sym (after_work n rs k) ∙ also)

imports_within : (rs : List ReachedDirectory) (m j k : ℕ) → AreWithin m rs → Contains (job_imports_at (map job_of rs) j) k → k < m
imports_within [] m j k within c = absurd (none_in_empty k c)
imports_within (r ∷ rs) m zero k within c = within r (at_head rs r r refl) k c
imports_within (r ∷ rs) m (suc j) k within c = imports_within rs m j k (λ x d. within x (later r rs x d)) c

pub after_below : (n : ℕ) (rs : List ReachedDirectory) (m j k : ℕ) → AreWithin m rs → Contains (job_imports_at (map (job_after n) rs) j) (n + k) → k < m
after_below n rs m j k within c = imports_within rs m j k within (moved_back n (job_imports_at (map job_of rs) j) k (subst (λ ks. Contains ks (n + k)) (after_imports n rs j) c))

-- the first m ranks are those of f, and then come those of g
over : ℕ → (ℕ → ℕ) → (ℕ → ℕ) → ℕ → ℕ
over zero f g j = g j
over (suc m) f g zero = f zero
over (suc m) f g (suc j) = over m (λ i. f (suc i)) g j

over_first : (m : ℕ) (f g : ℕ → ℕ) (j : ℕ) → j < m → over m f g j ≡ f j
unfolding over
over_first zero f g j lt = absurd (omega arith)
over_first (suc m) f g zero lt = refl
over_first (suc m) f g (suc j) lt = over_first m (λ i. f (suc i)) g j (omega arith)

over_rest : (m : ℕ) (f g : ℕ → ℕ) (i : ℕ) → over m f g (m + i) ≡ g i
unfolding over
over_rest zero f g i = ap g (let z : zero + i ≡ i = omega arith in z)
over_rest (suc m) f g i = ap (over (suc m) f g) (let z : suc m + i ≡ suc (m + i) = omega arith in z) ∙ over_rest m (λ i. f (suc i)) g i

-- a number of two lists, one after another, is of the first or of the second
pub data IsIn (xs ys : List Job) (j : ℕ) : Type 0 where
  in_first : j < length xs → slice_get (xs ++ ys) j ≡ slice_get xs j → IsIn xs ys j
  in_second : (i : ℕ) → j ≡ length xs + i → slice_get (xs ++ ys) j ≡ slice_get ys i → IsIn xs ys j

in_next : (x : Job) (xs ys : List Job) (j : ℕ) → IsIn xs ys j → IsIn (x ∷ xs) ys (suc j)
in_next x xs ys j (in_first lt e) = in_first (omega arith) e
in_next x xs ys j (in_second i is e) = in_second i (omega arith) e

is_in : (xs ys : List Job) (j : ℕ) → IsIn xs ys j
is_in [] ys j = in_second j (omega arith) refl
is_in (x ∷ xs) ys zero = in_first (omega arith) refl
is_in (x ∷ xs) ys (suc j) = in_next x xs ys j (is_in xs ys j)

module _ (n : ℕ) (xs ys : List Job) (f g : ℕ → ℕ) (below : (j k : ℕ) → Contains (job_imports_at xs j) (n + k) → k < length xs) (first : IsRankedFrom n f xs) (from : AreFrom (n + length xs) ys) (second : IsRankedFrom (n + length xs) g ys) where
  abbrev both_ranks : ℕ → ℕ
  both_ranks = over (length xs) f g

  -- an import of the first list
  by_first : (j k : ℕ) (v w : Work) → j < length xs → slice_get (xs ++ ys) j ≡ slice_get xs j → work_at (xs ++ ys) j ≡ Some v → Contains (job_imports_at (xs ++ ys) j) (n + k) → work_at (xs ++ ys) k ≡ Some w → IsIn xs ys k → both_ranks k < both_ranks j
  by_first j k v w lt e has among also (in_first small s) =
      let down = first j k v w (ap work_in (sym e) ∙ has) (subst (λ o. Contains (job_imports o) (n + k)) e among) (ap work_in (sym s) ∙ also) in
      omega (arith, over_first (length xs) f g j lt, over_first (length xs) f g k small, down)
  by_first j k v w lt e has among also (in_second i is s) =
      absurd (let small = below j k (subst (λ o. Contains (job_imports o) (n + k)) e among) in omega (arith, small, is))

  -- an import of the second
  by_second : (j k : ℕ) (v w : Work) (i : ℕ) → j ≡ length xs + i → slice_get (xs ++ ys) j ≡ slice_get ys i → work_at (xs ++ ys) j ≡ Some v → Contains (job_imports_at (xs ++ ys) j) (n + k) → work_at (xs ++ ys) k ≡ Some w → IsIn xs ys k → both_ranks k < both_ranks j
  by_second j k v w i at e has among also (in_first small s) =
      absurd (let high = from i (n + k) (subst (λ o. Contains (job_imports o) (n + k)) e among) in omega (arith, high, small))
  by_second j k v w i at e has among also (in_second h is s) =
      let c : Contains (job_imports_at ys i) ((n + length xs) + h) = subst (Contains (job_imports_at ys i)) (let z : n + k ≡ (n + length xs) + h = omega (arith, is) in z) (subst (λ o. Contains (job_imports o) (n + k)) e among) in
      let down = second i h v w (ap work_in (sym e) ∙ has) c (ap work_in (sym s) ∙ also) in
      let here = ap both_ranks at ∙ over_rest (length xs) f g i in
      let there = ap both_ranks is ∙ over_rest (length xs) f g h in
      omega (arith, here, there, down)

  by_place : (j k : ℕ) (v w : Work) → work_at (xs ++ ys) j ≡ Some v → Contains (job_imports_at (xs ++ ys) j) (n + k) → work_at (xs ++ ys) k ≡ Some w → IsIn xs ys j → both_ranks k < both_ranks j
  by_place j k v w has among also (in_first lt e) = by_first j k v w lt e has among also (is_in xs ys k)
  by_place j k v w has among also (in_second i at e) = by_second j k v w i at e has among also (is_in xs ys k)

  pub ranked_append : (rank : ℕ → ℕ) × IsRankedFrom n rank (xs ++ ys)
  ranked_append = (both_ranks, λ j k v w has among also. by_place j k v w has among also (is_in xs ys j))

from_place : (n : ℕ) (xs ys : List Job) → AreFrom n xs → AreFrom n ys → (j k : ℕ) → Contains (job_imports_at (xs ++ ys) j) k → IsIn xs ys j → n ≤ k
from_place n xs ys g h j k c (in_first lt e) = g j k (subst (λ o. Contains (job_imports o) k) e c)
from_place n xs ys g h j k c (in_second i at e) = h i k (subst (λ o. Contains (job_imports o) k) e c)

pub from_append : (n : ℕ) (xs ys : List Job) → AreFrom n xs → AreFrom n ys → AreFrom n (xs ++ ys)
from_append n xs ys g h j k c = from_place n xs ys g h j k c (is_in xs ys j)

-- where no others come before, imports lead down
pub ranked_whole : (rank : ℕ → ℕ) (jobs : List Job) → IsRankedFrom 0 rank jobs → IsRanked rank jobs
ranked_whole rank jobs down j k v w has among also = down j k v w has (subst (Contains (job_imports_at jobs j)) (let z : k ≡ 0 + k = omega arith in z) among) also
