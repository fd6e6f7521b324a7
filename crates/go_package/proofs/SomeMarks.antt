-- Whether a declaration depends on itself is decided, so marks of those that do can be had.
use Rattle.std.proofs.Common.{◌≡◌, ℕ, zero, suc, ◌<◌, ◌↔◌, IsTrue, Bool, true, false, ◌&&◌, eqb, List, [], ◌∷◌, ◌++◌, Some, length, refl, sym, ap, ◌∙◌, inl, inr, arith, eqb-true, eq-eqb}
use Rattle.std.specs.Prelude.{if◌then◌else◌}
use Rattle.std.specs.List.{slice_get, Contains, list_any}
use Rattle.std.proofs.lemmas.Bool.{cases_Bool, cases_eq}
use Rattle.std.proofs.lemmas.List.{length-append}
use Rattle.std.proofs.lemmas.Option.{slice_get_within}
use Rattle.ws_reach.specs.Reach.{Edge, EdgesStayWithin, Reaches}
use Rattle.ws_reach.specs.Worklist.{is_marked}
use Rattle.ws_reach.proofs.Reached.{contains_get, get_contains}
use Rattle.ws_reach.proofs.Closure.{IsOneOf, reach, reach_sound, reach_complete}
use Rattle.go_scope.specs.Order.{DependsOnItself}
use Rattle.go_package.specs.Faults.{AreRecursive}
use Rattle.go_package.proofs.Marks.{one_more, all_marked}

-- ---- edges and walks are decided by tests

has : List ℕ → ℕ → Bool
has [] q = false
has (x ∷ xs) q = if eqb x q then true else has xs q

edge : List (List ℕ) → ℕ → ℕ → Bool
edge [] p q = false
edge (r ∷ rs) zero q = has r q
edge (r ∷ rs) (suc p) q = edge rs p q

has_contains : (xs : List ℕ) (q : ℕ) → has xs q ≡ true → Contains xs q
unfolding has
has_contains [] q e = cc
has_contains (x ∷ xs) q e = elim (cases_Bool (eqb x q)) [
  | inl t ↦ get_contains (x ∷ xs) 0 q (ap Some (eqb-true x q t))
  | inr f ↦ (let c = has_contains xs q (rw f at e) in get_contains (x ∷ xs) (suc c.0) q (contains_get xs q c))
]

get_has : (xs : List ℕ) (q k : ℕ) → slice_get xs k ≡ Some q → has xs q ≡ true
unfolding has
get_has [] q k e = cc
get_has (x ∷ xs) q zero e = let same : x ≡ q = cc in rw (eq-eqb x q same) refl
get_has (x ∷ xs) q (suc k) e = elim (cases_Bool (eqb x q)) [ inl t ↦ rw t refl | inr f ↦ rw f (get_has xs q k e) ]

edge_is : (rows : List (List ℕ)) (p q : ℕ) → edge rows p q ≡ true → Edge rows p q
unfolding edge
edge_is [] p q e = cc
edge_is (r ∷ rs) zero q e = (r, refl, has_contains r q e)
edge_is (r ∷ rs) (suc p) q e = edge_is rs p q e

is_edge : (rows : List (List ℕ)) (p q : ℕ) → Edge rows p q → edge rows p q ≡ true
unfolding edge
is_edge [] p q (row, at, c) = cc (at)
is_edge (r ∷ rs) zero q (row, at, c) = let same : r ≡ row = cc in get_has r q c.0 (ap (λ (l : List ℕ). slice_get l c.0) same ∙ contains_get row q c)
is_edge (r ∷ rs) (suc p) q h = is_edge rs p q h

-- the declarations below a number
nodes : ℕ → List ℕ
nodes zero = []
nodes (suc n) = n ∷ nodes n

is_node : (n q : ℕ) → q < n → IsOneOf q (nodes n)
unfolding nodes
is_node zero q lt = absurd (omega (arith, lt))
is_node (suc n) q lt = elim (cases_eq q n) [ inl e ↦ inl e | inr ne ↦ inr (is_node n q (omega (arith, lt, ne))) ]

abbrev reaches : List (List ℕ) → ℕ → ℕ → Bool
reaches rows = reach eqb (edge rows) (nodes (length rows))

reaches_sound : (rows : List (List ℕ)) (p q : ℕ) → reaches rows p q ≡ true → Reaches (Edge rows) p q
reaches_sound rows p q h = reach_sound (Edge rows) eqb (edge rows) eqb-true (λ n. eq-eqb n n refl) (edge_is rows) (is_edge rows) (nodes (length rows)) p q h

reaches_complete : (rows : List (List ℕ)) → EdgesStayWithin rows → (p q : ℕ) → Reaches (Edge rows) p q → reaches rows p q ≡ true
reaches_complete rows within p q h =
    reach_complete (Edge rows) eqb (edge rows) eqb-true (λ n. eq-eqb n n refl) (edge_is rows) (is_edge rows) (nodes (length rows)) (λ a b e. is_node (length rows) b (within a b e)) p q h

-- ---- a test of those that depend on themselves

any_passes : (test : ℕ → Bool) (xs : List ℕ) → list_any test xs ≡ true → (x : ℕ) × (test x ≡ true)
any_passes test [] h = cc
any_passes test (x ∷ xs) h = elim (cases_Bool (test x)) [ inl t ↦ (x, t) | inr f ↦ any_passes test xs (rw f at h) ]

one_passes : (test : ℕ → Bool) (xs : List ℕ) (x : ℕ) → IsOneOf x xs → test x ≡ true → list_any test xs ≡ true
one_passes test [] x one t = absurd one
one_passes test (y ∷ xs) x (inl e) t = (let s : test y ≡ true = ap test (sym e) ∙ t in rw s refl)
one_passes test (y ∷ xs) x (inr one) t = elim (cases_Bool (test y)) [ inl s ↦ rw s refl | inr f ↦ rw f (one_passes test xs x one t) ]

both : (a b : Bool) → (a && b) ≡ true → (a ≡ true) × (b ≡ true)
both true b h = (refl, h)
both false b h = cc

depends : List (List ℕ) → ℕ → Bool
depends rows i = list_any (λ user. reaches rows i user && edge rows user i) (nodes (length rows))

depends_tells : (rows : List (List ℕ)) → EdgesStayWithin rows → (i : ℕ) → IsTrue (depends rows i) ↔ DependsOnItself rows i
unfolding depends
depends_tells rows within i = (
  λ h.
      let user = any_passes (λ user. reaches rows i user && edge rows user i) (nodes (length rows)) h in
      let tests = both (reaches rows i user.0) (edge rows user.0 i) user.1 in
      (user.0, reaches_sound rows i user.0 tests.0, edge_is rows user.0 i tests.1),
  λ d.
      let user = d.0 in
      let reached : reaches rows i user ≡ true = reaches_complete rows within i user d.1 in
      let needs : edge rows user i ≡ true = is_edge rows user i d.2 in
      let tests : (reaches rows i user && edge rows user i) ≡ true = ap (λ b. b && edge rows user i) reached ∙ needs in
      one_passes (λ user. reaches rows i user && edge rows user i) (nodes (length rows)) user (is_node (length rows) user (slice_get_within rows user (d.2).0 (d.2).1)) tests,
)

-- ---- marks by a test

listed : (ℕ → Bool) → ℕ → List Bool
listed test zero = []
listed test (suc n) = listed test n ++ test n ∷ []

length_listed : (test : ℕ → Bool) (n : ℕ) → length (listed test n) ≡ n
unfolding listed
length_listed test zero = refl
length_listed test (suc n) = (let e = length-append (listed test n) (test n ∷ []) in let before = length_listed test n in omega (arith, e, before))

listed_tells : (P : ℕ → Type 0) (test : ℕ → Bool) → ((k : ℕ) → IsTrue (test k) ↔ P k) → (n k : ℕ) → k < n → IsTrue (is_marked (listed test n) k) ↔ P k
unfolding listed
listed_tells P test tells zero k lt = absurd (omega (arith, lt))
listed_tells P test tells (suc n) k lt = one_more P (listed test n) (listed test (suc n)) (test n) n refl (length_listed test n) (listed_tells P test tells n) (tells n) k (omega (arith, lt))

pub some_marks : (rows : List (List ℕ)) → EdgesStayWithin rows → (marks : List Bool) × AreRecursive rows marks
some_marks rows within =
    let n = length rows in
    let marks = listed (depends rows) n in
    (marks, all_marked rows marks n within (omega arith) (length_listed (depends rows) n) (listed_tells (DependsOnItself rows) (depends rows) (depends_tells rows within) n))
