-- A plan's sound directories lie on no cycle: what one of them imports reaches less than it.
use Rattle.std.proofs.Common.{◌≡◌, ◌⊎◌, ℕ, zero, suc, ◌<◌, ◌≤◌, Bool, true, false, cond, ◌||◌, eqb, List, [], ◌∷◌, length, count_by, Some, refl, sym, ap, ◌∙◌, subst, inl, inr, arith, eq-eqb}
use Rattle.std.proofs.lemmas.Bool.{cases_eq, eqb-true}
use Rattle.std.proofs.lemmas.List.Sums.{sum_by-cons}
use Rattle.std.proofs.lemmas.Option.{slice_get_within}
use Rattle.std.specs.List.{Contains, slice_get}
use Rattle.go_ast.specs.Parse.{Parsed}
use Rattle.ws_version.specs.Writes.{Write}
use Rattle.ws_reach.specs.Reach.{Walks, Reaches}
use Rattle.ws_reach.proofs.Reached.{reaches_itself, reaches_from, get_contains}
use Rattle.ws_reach.proofs.Closure.{IsOneOf, reach, reach_sound, reach_complete}
use Rattle.go_text.specs.declared.edition.Edition.{Edition}
use Rattle.ws_graph.specs.Plan.{Sound}
use Rattle.ws_graph.specs.BuildPlan as plan
use Rattle.ws_graph.specs.BuildPlan.{Sources, Import, Imports, IsPlannedAs, Directory, paths_of, IsBuildPlanOf, AreRanks}
use Rattle.ws_graph.proofs.OneBuildPlan.{same_imports}
use Rattle.ws_graph.proofs.Sorted.{one_of, contained}
use Rattle.ws_graph.proofs.Wholes.{IsWhole, IsWholeOf, whole_plan_of}

-- ---- numbers in lists

is_among : ℕ → List ℕ → Bool
is_among x [] = false
is_among x (y ∷ ys) = eqb x y || is_among x ys

either : (a b : Bool) → (a || b) ≡ true → (a ≡ true) ⊎ (b ≡ true)
either true b e = inl refl
either false b e = inr e

first_holds : (a b : Bool) → a ≡ true → (a || b) ≡ true
first_holds true b e = refl
first_holds false b e = cc

second_holds : (a b : Bool) → b ≡ true → (a || b) ≡ true
second_holds true b e = refl
second_holds false b e = e

among_one_of : (x : ℕ) (xs : List ℕ) → is_among x xs ≡ true → IsOneOf x xs
unfolding is_among
among_one_of x [] e = cc
among_one_of x (y ∷ ys) e = elim (either (eqb x y) (is_among x ys) e) [ inl s ↦ inl (eqb-true x y s) | inr h ↦ inr (among_one_of x ys h) ]

one_of_among : (x : ℕ) (xs : List ℕ) → IsOneOf x xs → is_among x xs ≡ true
unfolding is_among
one_of_among x [] h = absurd h
one_of_among x (y ∷ ys) (inl e) = first_holds (eqb x y) (is_among x ys) (eq-eqb x y e)
one_of_among x (y ∷ ys) (inr h) = second_holds (eqb x y) (is_among x ys) (one_of_among x ys h)

below : ℕ → List ℕ
below zero = []
below (suc n) = n ∷ below n

one_below : (n q : ℕ) → q < n → IsOneOf q (below n)
unfolding below
one_below zero q lt = absurd (omega (arith, lt))
one_below (suc n) q lt = elim (cases_eq q n) [ inl e ↦ inl e | inr ne ↦ inr (one_below n q (omega (arith, lt, ne))) ]

one_if : Bool → ℕ
one_if b = cond b 1 0

one_at_most : (a b : Bool) → (a ≡ true → b ≡ true) → one_if a ≤ one_if b
unfolding one_if
one_at_most false b h = omega arith
one_at_most true true h = omega arith
one_at_most true false h = (let e : false ≡ true = h refl in cc (e))

one_less : (a b : Bool) → a ≡ false → b ≡ true → one_if a < one_if b
unfolding one_if
one_less false true e f = omega arith
one_less true b e f = cc (e)
one_less false false e f = cc (f)

-- fewer pass a test that asks more
at_most : (p q : ℕ → Bool) → ((x : ℕ) → p x ≡ true → q x ≡ true) → (xs : List ℕ) → count_by p xs ≤ count_by q xs
unfolding one_if
at_most p q h [] = omega arith
at_most p q h (x ∷ xs) = omega (arith, sum_by-cons (λ y. cond (p y) 1 0) x xs, sum_by-cons (λ y. cond (q y) 1 0) x xs, one_at_most (p x) (q x) (h x), at_most p q h xs)

fewer : (p q : ℕ → Bool) → ((x : ℕ) → p x ≡ true → q x ≡ true) → (y : ℕ) → p y ≡ false → q y ≡ true → (xs : List ℕ) → IsOneOf y xs → count_by p xs < count_by q xs
unfolding one_if
fewer p q h y fails passes [] one = absurd one
fewer p q h y fails passes (x ∷ xs) (inl e) =
    let less = one_less (p x) (q x) (subst (λ z. p z ≡ false) e fails) (subst (λ z. q z ≡ true) e passes) in
    omega (arith, sum_by-cons (λ z. cond (p z) 1 0) x xs, sum_by-cons (λ z. cond (q z) 1 0) x xs, less, at_most p q h xs)
fewer p q h y fails passes (x ∷ xs) (inr one) =
    omega (arith, sum_by-cons (λ z. cond (p z) 1 0) x xs, sum_by-cons (λ z. cond (q z) 1 0) x xs, one_at_most (p x) (q x) (h x), fewer p q h y fails passes xs one)

-- ---- directories by their numbers

imports_at : List Directory → ℕ → List ℕ
imports_at [] k = []
imports_at (d ∷ ds) zero = d.imports
imports_at (d ∷ ds) (suc k) = imports_at ds k

Goes : List Directory → ℕ → ℕ → Type 0
Goes ds p q = IsOneOf q (imports_at ds p)

at_directory : (ds : List Directory) (p q : ℕ) → IsOneOf q (imports_at ds p) → (d : Directory) × (slice_get ds p ≡ Some d) × Contains d.imports q
unfolding imports_at
at_directory [] p q h = absurd h
at_directory (d ∷ ds) zero q h = (d, refl, contained d.imports q h)
at_directory (d ∷ ds) (suc p) q h = at_directory ds p q h

goes_at : (ds : List Directory) (p q : ℕ) (d : Directory) → slice_get ds p ≡ Some d → Contains d.imports q → IsOneOf q (imports_at ds p)
unfolding imports_at
goes_at [] p q d at k = cc
goes_at (e ∷ ds) zero q d at k = (let s : Some e ≡ Some d = at in let same : e ≡ d = cc in one_of e.imports q (subst (λ (x : Directory). Contains x.imports q) (sym same) k))
goes_at (e ∷ ds) (suc p) q d at k = goes_at ds p q d at k

pub path_at : (ds : List Directory) (k : ℕ) (d : Directory) → slice_get ds k ≡ Some d → slice_get (paths_of ds) k ≡ Some d.path
path_at [] k d at = cc
path_at (e ∷ ds) zero d at = (let s : Some e ≡ Some d = at in let same : e ≡ d = cc in ap (λ (x : Directory). Some x.path) same)
path_at (e ∷ ds) (suc k) d at = path_at ds k d at

pub length-paths : (ds : List Directory) → length (paths_of ds) ≡ length ds
length-paths [] = refl
length-paths (d ∷ ds) = ap suc (length-paths ds)

module _ (ed : Edition) (sources : Sources) (ds : List Directory) (h : IsWhole ed sources ds) where
  leads_to : (p q : ℕ) → Goes ds p q → (a : List ℕ) → slice_get (paths_of ds) p ≡ Some a → (b : List ℕ) × (slice_get (paths_of ds) q ≡ Some b) × Imports ed sources a b
  unfolding Goes
  leads_to p q g a at =
      let d = at_directory ds p q g in
      let there = ((h.imports d.0 (get_contains ds p d.0 d.1)).are q).0 d.2 in
      let both : Some d.0.path ≡ Some a = sym (path_at ds p d.0 d.1) ∙ at in
      let same : d.0.path ≡ a = cc in
      (there.0, there.1, subst (λ x. Imports ed sources x there.0) same there.2)

  goes_inside : (p q : ℕ) → Goes ds p q → q < length ds
  unfolding Goes
  goes_inside p q g =
      let d = at_directory ds p q g in
      let there = ((h.imports d.0 (get_contains ds p d.0 d.1)).are q).0 d.2 in
      let lt = slice_get_within (paths_of ds) q there.0 there.1 in
      omega (arith, lt, length-paths ds)

  numbers_lead : (steps : List ℕ) (p q : ℕ) (a b : List ℕ) → Walks (Goes ds) p steps q → slice_get (paths_of ds) p ≡ Some a → slice_get (paths_of ds) q ≡ Some b → plan.ReachesByImports ed sources a b
  numbers_lead [] p q a b w at_p at_q =
      let both : Some a ≡ Some b = sym at_p ∙ ap (slice_get (paths_of ds)) w ∙ at_q in
      let same : a ≡ b = cc in ([], same)
  numbers_lead (r ∷ rs) p q a b (first, rest) at_p at_q =
      let there = leads_to p r first a at_p in
      reaches_from (Imports ed sources) a there.0 b there.2 (numbers_lead rs r q there.0 b rest there.1 at_q)

  edge : ℕ → ℕ → Bool
  edge p q = is_among q (imports_at ds p)

  edge_goes : (p q : ℕ) → edge p q ≡ true → Goes ds p q
  unfolding edge Goes
  edge_goes p q e = among_one_of q (imports_at ds p) e

  goes_edge : (p q : ℕ) → Goes ds p q → edge p q ≡ true
  unfolding edge Goes
  goes_edge p q g = one_of_among q (imports_at ds p) g

  reaches_by : ℕ → ℕ → Bool
  reaches_by = reach eqb edge (below (length ds))

  by_reaches : (p q : ℕ) → reaches_by p q ≡ true → Reaches (Goes ds) p q
  unfolding reaches_by
  by_reaches p q e = reach_sound (Goes ds) eqb edge eqb-true (λ x. eq-eqb x x refl) edge_goes goes_edge (below (length ds)) p q e

  reaches_so : (p q : ℕ) → Reaches (Goes ds) p q → reaches_by p q ≡ true
  unfolding reaches_by
  reaches_so p q r = reach_complete (Goes ds) eqb edge eqb-true (λ x. eq-eqb x x refl) edge_goes goes_edge (below (length ds)) (λ x y g. one_below (length ds) y (goes_inside x y g)) p q r

  -- a sound directory doesn't lie on a cycle
  no_way_back : (k j : ℕ) (d : Directory) (parsed : List Parsed) → slice_get ds k ≡ Some d → d.planned ≡ Sound parsed → Contains d.imports j → Reaches (Goes ds) j k → ⊥
  no_way_back k j d parsed at is c back =
      let in_ds = get_contains ds k d at in
      let there = ((h.imports d in_ds).are j).0 c in
      let sound : IsPlannedAs ed sources d.path (Sound parsed) = subst (IsPlannedAs ed sources d.path) is (h.planned d in_ds) in
      let import = there.2.import in
      let same = same_imports ed sources d.path import.imports sound.1.imports import.has sound.1.has in
      let among : Contains sound.1.imports import.import = subst (λ (l : List Import). Contains l import.import) same import.among in
      let reached : plan.ReachesByImports ed sources there.0 d.path = numbers_lead back.0 j k there.0 d.path back.1 there.1 (path_at ds k d at) in
      sound.1.none_leads_back import.import among (subst (λ x. plan.ReachesByImports ed sources x d.path) (sym import.path) reached)

  rank : ℕ → ℕ
  rank k = count_by (reaches_by k) (below (length ds))

  by_test : (b : Bool) → (b ≡ true → ⊥) → b ≡ false
  by_test true n = absurd (n refl)
  by_test false n = refl

  are_ranks : AreRanks ds rank
  unfolding rank
  are_ranks k j d parsed at is c =
      let goes : Goes ds k j = unfold Goes in goes_at ds k j d at c in
      fewer (reaches_by j) (reaches_by k) (λ x e. reaches_so k x (reaches_from (Goes ds) k j x goes (by_reaches j x e)))
      k (by_test (reaches_by j k) (λ e. no_way_back k j d parsed at is c (by_reaches j k e))) (reaches_so k k (reaches_itself (Goes ds) k))
      (below (length ds)) (one_below (length ds) k (slice_get_within ds k d at))

  pub ranked : (rank : ℕ → ℕ) × AreRanks ds rank
  ranked = (rank, are_ranks)

pub ranked_whole : (ed : Edition) (W : List Write) (ds : List Directory) → IsWholeOf ed W ds → (rank : ℕ → ℕ) × AreRanks ds rank
ranked_whole ed W ds h = ranked ed h.0 ds h.2

pub ranked_build_plan : (ed : Edition) (W : List Write) (target : List ℕ) (ds : List Directory) → IsBuildPlanOf ed W target ds → (rank : ℕ → ℕ) × AreRanks ds rank
ranked_build_plan ed W target ds h = ranked_whole ed W ds (whole_plan_of ed W target ds h)
