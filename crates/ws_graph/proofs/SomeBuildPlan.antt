-- Each target has no files, or a plan.
use Rattle.std.proofs.Common.{◌≡◌, ◌⊎◌, ℕ, zero, suc, ◌+◌, ◌<◌, Bool, true, false, cond, ◌&&◌, ◌||◌, List, [], ◌∷◌, ◌++◌, map, Some, refl, sym, ap, ◌∙◌, subst, inl, inr, arith}
use Rattle.std.specs.List.{Contains, filter, slice_get, AllByRecursion}
use Rattle.std.specs.List.Sorted.{IsStrictlySortedBy}
use Rattle.std.specs.Ordering.{nat_cmp}
use Rattle.std.specs.declared.cmp.Ordering.{Ordering}
use Rattle.std.specs.declared.cmp.Ordering.TheVariants.{Less, Equal, Greater}
use Rattle.std.specs.Str.{bytes_eq}
use Rattle.std.specs.Prelude.{codes}
use Rattle.std.specs.Ordering.{ordering_reverse}
use Rattle.std.proofs.lemmas.Slice.Eq.{bytes_eq-Decides}
use Rattle.std.proofs.lemmas.List.Kept.{IsStrictlySortedBy-filter}
use Rattle.std.proofs.lemmas.Map.Keys.{IsStrictlyIncreasing-from_sorted}
use Rattle.std.specs.Cmp.{nat_cmp_is}
use Rattle.go_text.specs.declared.edition.Edition.{Edition}
use Rattle.go_text.specs.Faults.{Fault}
use Rattle.go_text.specs.declared.fault.FaultKind.{FaultKind}
use Rattle.go_text.specs.declared.fault.FaultKind.TheVariants.{NoImport, Cycle, Program}
use Rattle.go_ast.specs.Parse.{Parsed, IsPackage}
use Rattle.ws_version.specs.Writes.{Write, path_cmp}
use Rattle.ws_version.proofs.Writes.{path_cmp_total, path_cmp-IsAntisymmetric}
use Rattle.ws_reach.specs.Reach.{Reaches}
use Rattle.ws_reach.proofs.Reached.{reaches_stay}
use Rattle.ws_reach.proofs.Closure.{IsOneOf, reach, reach_sound, reach_complete}
use Rattle.ws_graph.specs.Packages.{package_files}
use Rattle.ws_graph.specs.Plan.{Planned, NoFiles, Faulty, Sound, AllParsed, AreParsed, IsPlan, IsPlanOf}
use Rattle.ws_graph.specs.BuildPlan as plan
use Rattle.ws_graph.specs.BuildPlan.{Sources, Import, directory_imports, AreDirectoryImports, HasImports, HasImport, HasNone, IsAtFirst, HasNoFiles, Imports, LeadsBack, IsMainPackage, of_missing, of_cycle, of_program, IsPlannedAs, Directory, paths_of, AreNumbers, IsBuildPlan, IsBuildPlanOf}
use Rattle.ws_graph.proofs.OnePlan.{one_plan, one_parsed, one_package, stops_or_parses}
use Rattle.ws_graph.proofs.OneBuildPlan.{same_imports}
use Rattle.ws_graph.proofs.Filed.{built_directories, to_directory, has_files}
use Rattle.ws_graph.proofs.SomePlan.{some_sources, some_plan, Read, read}
use Rattle.ws_graph.proofs.Sorted.{one_of, contained}

-- ---- a list of paths, sorted

placed : Ordering → List ℕ → List ℕ → List (List ℕ) → List (List ℕ) → List (List ℕ)
placed Less x y ys more = x ∷ y ∷ ys
placed Equal x y ys more = y ∷ ys
placed Greater x y ys more = y ∷ more

insert : List ℕ → List (List ℕ) → List (List ℕ)
insert x [] = x ∷ []
insert x (y ∷ ys) = placed (path_cmp x y) x y ys (insert x ys)

sorted : List (List ℕ) → List (List ℕ)
sorted [] = []
sorted (x ∷ xs) = insert x (sorted xs)

-- what holds of the new one and of the others holds of all
all_inserted : (P : List ℕ → Type 0) (x : List ℕ) (ys : List (List ℕ)) → P x → AllByRecursion P ys → AllByRecursion P (insert x ys)
unfolding insert placed
all_inserted P x [] h all = (h, tt)
all_inserted P x (y ∷ ys) h all = go (path_cmp x y) (all_inserted P x ys h all.1)
  where
    go : (o : Ordering) → AllByRecursion P (insert x ys) → AllByRecursion P (placed o x y ys (insert x ys))
    go Less more = (h, all)
    go Equal more = all
    go Greater more = (all.0, more)

all_through : (x y : List ℕ) (ys : List (List ℕ)) → path_cmp x y ≡ Less → AllByRecursion (λ z. path_cmp y z ≡ Less) ys → AllByRecursion (λ z. path_cmp x z ≡ Less) ys
all_through x y [] l all = tt
all_through x y (z ∷ zs) l all = (path_cmp_total.trans x y z l all.0, all_through x y zs l all.1)

insert_sorted : (x : List ℕ) (ys : List (List ℕ)) → IsStrictlySortedBy path_cmp ys → IsStrictlySortedBy path_cmp (insert x ys)
unfolding insert IsStrictlySortedBy placed
insert_sorted x [] s = (tt, tt)
insert_sorted x (y ∷ ys) s = go (path_cmp x y) refl (insert_sorted x ys s.1)
  where
    go : (o : Ordering) → path_cmp x y ≡ o → IsStrictlySortedBy path_cmp (insert x ys) → IsStrictlySortedBy path_cmp (placed o x y ys (insert x ys))
    go Less e more = ((e, all_through x y ys e s.0), s)
    go Equal e more = s
    go Greater e more = (all_inserted (λ z. path_cmp y z ≡ Less) x ys (path_cmp_total.antisymm y x ∙ ap ordering_reverse e) s.0, more)

sorted_ascends : (xs : List (List ℕ)) → IsStrictlySortedBy path_cmp (sorted xs)
unfolding sorted IsStrictlySortedBy
sorted_ascends [] = tt
sorted_ascends (x ∷ xs) = insert_sorted x (sorted xs) (sorted_ascends xs)

one_inserted : (z x : List ℕ) (ys : List (List ℕ)) → (z ≡ x) ⊎ IsOneOf z ys → IsOneOf z (insert x ys)
unfolding insert placed
one_inserted z x [] (inl e) = inl e
one_inserted z x [] (inr h) = absurd h
one_inserted z x (y ∷ ys) h = go (path_cmp x y) refl (one_inserted z x ys) h
  where
    go : (o : Ordering) → path_cmp x y ≡ o → ((z ≡ x) ⊎ IsOneOf z ys → IsOneOf z (insert x ys)) → (z ≡ x) ⊎ IsOneOf z (y ∷ ys) → IsOneOf z (placed o x y ys (insert x ys))
    go Less e more (inl s) = inl s
    go Less e more (inr k) = inr k
    go Equal e more (inl s) = inl (s ∙ path_cmp-IsAntisymmetric x y e)
    go Equal e more (inr k) = k
    go Greater e more (inl s) = inr (more (inl s))
    go Greater e more (inr (inl s)) = inl s
    go Greater e more (inr (inr k)) = inr (more (inr k))

from_inserted : (z x : List ℕ) (ys : List (List ℕ)) → IsOneOf z (insert x ys) → (z ≡ x) ⊎ IsOneOf z ys
unfolding insert placed
from_inserted z x [] h = h
from_inserted z x (y ∷ ys) h = go (path_cmp x y) (from_inserted z x ys) h
  where
    go : (o : Ordering) → (IsOneOf z (insert x ys) → (z ≡ x) ⊎ IsOneOf z ys) → IsOneOf z (placed o x y ys (insert x ys)) → (z ≡ x) ⊎ IsOneOf z (y ∷ ys)
    go Less more k = k
    go Equal more k = inr k
    go Greater more (inl s) = inr (inl s)
    go Greater more (inr k) = elim (more k) [ inl s ↦ inl s | inr m ↦ inr (inr m) ]

to_sorted : (z : List ℕ) (xs : List (List ℕ)) → IsOneOf z xs → IsOneOf z (sorted xs)
unfolding sorted
to_sorted z [] h = absurd h
to_sorted z (x ∷ xs) (inl e) = one_inserted z x (sorted xs) (inl e)
to_sorted z (x ∷ xs) (inr h) = one_inserted z x (sorted xs) (inr (to_sorted z xs h))

from_sorted : (z : List ℕ) (xs : List (List ℕ)) → IsOneOf z (sorted xs) → IsOneOf z xs
unfolding sorted
from_sorted z [] h = absurd h
from_sorted z (x ∷ xs) h = elim (from_inserted z x (sorted xs) h) [ inl e ↦ inl e | inr k ↦ inr (from_sorted z xs k) ]

-- ---- those that pass a test

to_filter : {A : Type 0} (t : A → Bool) (xs : List A) (x : A) → IsOneOf x xs → t x ≡ true → IsOneOf x (filter t xs)
to_filter t [] x h e = absurd h
to_filter t (y ∷ ys) x h e = go (t y) refl (λ k. to_filter t ys x k e) h
  where
    go : (b : Bool) → t y ≡ b → (IsOneOf x ys → IsOneOf x (filter t ys)) → IsOneOf x (y ∷ ys) → IsOneOf x (cond b (y ∷ filter t ys) (filter t ys))
    go true f more (inl s) = inl s
    go true f more (inr k) = inr (more k)
    go false f more (inl s) = absurd (let z : true ≡ false = sym e ∙ ap t s ∙ f in cc (z))
    go false f more (inr k) = more k

from_filter : {A : Type 0} (t : A → Bool) (xs : List A) (x : A) → IsOneOf x (filter t xs) → IsOneOf x xs × (t x ≡ true)
from_filter t [] x h = absurd h
from_filter t (y ∷ ys) x h = go (t y) refl (from_filter t ys x) h
  where
    go : (b : Bool) → t y ≡ b → (IsOneOf x (filter t ys) → IsOneOf x ys × (t x ≡ true)) → IsOneOf x (cond b (y ∷ filter t ys) (filter t ys)) → IsOneOf x (y ∷ ys) × (t x ≡ true)
    go true f more (inl s) = (inl s, ap t s ∙ f)
    go true f more (inr k) = let m = more k in (inr m.0, m.1)
    go false f more k = let m = more k in (inr m.0, m.1)

-- ---- numbers of those that pass a test

numbers_from : (List ℕ → Bool) → ℕ → List (List ℕ) → List ℕ
numbers_from t k [] = []
numbers_from t k (q ∷ qs) = cond (t q) (k ∷ numbers_from t (suc k) qs) (numbers_from t (suc k) qs)

numbers_above : (t : List ℕ → Bool) (low k : ℕ) (qs : List (List ℕ)) → low < k → AllByRecursion (λ j. nat_cmp low j ≡ Less) (numbers_from t k qs)
unfolding numbers_from
numbers_above t low k [] lt = tt
numbers_above t low k (q ∷ qs) lt = go (t q) (numbers_above t low (suc k) qs (omega (arith, lt)))
  where
    go : (b : Bool) → AllByRecursion (λ j. nat_cmp low j ≡ Less) (numbers_from t (suc k) qs) → AllByRecursion (λ j. nat_cmp low j ≡ Less) (cond b (k ∷ numbers_from t (suc k) qs) (numbers_from t (suc k) qs))
    go true more = (sym (nat_cmp_is low k Less lt), more)
    go false more = more

numbers_sorted : (t : List ℕ → Bool) (k : ℕ) (qs : List (List ℕ)) → IsStrictlySortedBy nat_cmp (numbers_from t k qs)
unfolding numbers_from IsStrictlySortedBy
numbers_sorted t k [] = tt
numbers_sorted t k (q ∷ qs) = go (t q) (numbers_sorted t (suc k) qs)
  where
    go : (b : Bool) → IsStrictlySortedBy nat_cmp (numbers_from t (suc k) qs) → IsStrictlySortedBy nat_cmp (cond b (k ∷ numbers_from t (suc k) qs) (numbers_from t (suc k) qs))
    go true more = (numbers_above t k (suc k) qs (omega arith), more)
    go false more = more

-- the number j stands for the one that is j - k places on
abbrev Stands : (List ℕ → Bool) → ℕ → List (List ℕ) → ℕ → Type 0
Stands t k qs j = (i : ℕ) × (q : List ℕ) × (j ≡ k + i) × (slice_get qs i ≡ Some q) × (t q ≡ true)

numbers_stand : (t : List ℕ → Bool) (k : ℕ) (qs : List (List ℕ)) (j : ℕ) → IsOneOf j (numbers_from t k qs) → Stands t k qs j
unfolding numbers_from
numbers_stand t k [] j h = absurd h
numbers_stand t k (q ∷ qs) j h = go (t q) refl (numbers_stand t (suc k) qs j) h
  where
    later : Stands t (suc k) qs j → Stands t k (q ∷ qs) j
    later (i, p, e, at, passes) = (suc i, p, omega (arith, e), at, passes)

    go : (b : Bool) → t q ≡ b → (IsOneOf j (numbers_from t (suc k) qs) → Stands t (suc k) qs j) → IsOneOf j (cond b (k ∷ numbers_from t (suc k) qs) (numbers_from t (suc k) qs)) → Stands t k (q ∷ qs) j
    go true e more (inl s) = (0, q, omega (arith, s), refl, e)
    go true e more (inr m) = later (more m)
    go false e more m = later (more m)

stands_numbers : (t : List ℕ → Bool) (k : ℕ) (qs : List (List ℕ)) (i j : ℕ) (q : List ℕ) → j ≡ k + i → slice_get qs i ≡ Some q → t q ≡ true → IsOneOf j (numbers_from t k qs)
unfolding numbers_from
stands_numbers t k [] i j q e at passes = cc
stands_numbers t k (p ∷ qs) zero j q e at passes =
    let both : Some p ≡ Some q = at in
    let same : p ≡ q = cc in
    let here : t p ≡ true = ap t same ∙ passes in
    let it : j ≡ k = omega (arith, e) in
    subst (λ b. IsOneOf j (cond b (k ∷ numbers_from t (suc k) qs) (numbers_from t (suc k) qs))) (sym here) (inl it)
stands_numbers t k (p ∷ qs) (suc i) j q e at passes = go (t p) (stands_numbers t (suc k) qs i j q (omega (arith, e)) at passes)
  where
    go : (b : Bool) → IsOneOf j (numbers_from t (suc k) qs) → IsOneOf j (cond b (k ∷ numbers_from t (suc k) qs) (numbers_from t (suc k) qs))
    go true more = inr more
    go false more = more

-- ---- the first import of whose path something holds

decide_first : (P : List ℕ → Type 0) → ((q : List ℕ) → P q ⊎ (P q → ⊥)) → (kind : FaultKind) (is : List Import) → ((fault : Fault) × IsAtFirst P is kind fault) ⊎ HasNone P is
decide_first P decide kind [] = inr (λ i c. absurd (one_of [] i c))
decide_first P decide kind (x ∷ xs) = go (decide x.spec.path) (decide_first P decide kind xs)
  where
    none_so_far : (P x.spec.path → ⊥) → (is : List Import) → HasNone P is → HasNone P (x ∷ is)
    none_so_far n is none i c = elim (one_of (x ∷ is) i c) [
      | inl e ↦ (λ h. n (subst (λ (z : Import). P z.spec.path) e h))
      | inr o ↦ none i (contained is i o)
    ]

    go : P x.spec.path ⊎ (P x.spec.path → ⊥) → ((fault : Fault) × IsAtFirst P xs kind fault) ⊎ HasNone P xs → ((fault : Fault) × IsAtFirst P (x ∷ xs) kind fault) ⊎ HasNone P (x ∷ xs)
    go (inl h) rest = inl (record { file = x.file; place = x.spec.place; kind = kind }, record { front = []; import = x; rest = xs; whole = refl; before = λ i c. absurd (one_of [] i c); holds = h; is = refl })
    go (inr n) (inl (fault, a)) = inl (fault, record { front = x ∷ a.front; import = a.import; rest = a.rest; whole = ap (λ (l : List Import). x ∷ l) a.whole; before = none_so_far n a.front a.before; holds = a.holds; is = a.is })
    go (inr n) (inr none) = inr (none_so_far n xs none)

-- ---- the files and imports of directories

is_some : {A : Type 0} → List A → Bool
is_some [] = false
is_some (x ∷ xs) = true

some_is : {A : Type 0} (xs : List A) → is_some xs ≡ true → xs ≡ [] → ⊥
unfolding is_some
some_is [] e f = cc (e)
some_is (x ∷ xs) e f = cc (f)

is_some_of : {A : Type 0} (xs : List A) → (xs ≡ [] → ⊥) → is_some xs ≡ true
unfolding is_some
is_some_of [] n = absurd (n refl)
is_some_of (x ∷ xs) n = refl

names : List ℕ → List Import → Bool
names q [] = false
names q (i ∷ is) = bytes_eq i.spec.path q || names q is

names_one : (q : List ℕ) (is : List Import) → names q is ≡ true → (i : Import) × Contains is i × (i.spec.path ≡ q)
unfolding names
names_one q [] e = cc (e)
names_one q (i ∷ is) e = go (bytes_eq i.spec.path q) refl (names_one q is) e
  where
    go : (b : Bool) → bytes_eq i.spec.path q ≡ b → (names q is ≡ true → (j : Import) × Contains is j × (j.spec.path ≡ q)) → (b || names q is) ≡ true → (j : Import) × Contains (i ∷ is) j × (j.spec.path ≡ q)
    go true f more e = (i, (0, omega arith, refl), (bytes_eq-Decides i.spec.path q).0 f)
    go false f more e = let h = more e in (h.0, contained (i ∷ is) h.0 (inr (one_of is h.0 h.1)), h.2)

one_names : (q : List ℕ) (is : List Import) (j : Import) → IsOneOf j is → j.spec.path ≡ q → names q is ≡ true
unfolding names
one_names q [] j h e = absurd h
one_names q (i ∷ is) j (inl s) e = go (bytes_eq i.spec.path q) ((bytes_eq-Decides i.spec.path q).1 (sym (ap (λ (z : Import). z.spec.path) s) ∙ e))
  where
    go : (b : Bool) → b ≡ true → (b || names q is) ≡ true
    go true f = refl
    go false f = cc (f)
one_names q (i ∷ is) j (inr h) e = go (bytes_eq i.spec.path q) (one_names q is j h e)
  where
    go : (b : Bool) → names q is ≡ true → (b || names q is) ≡ true
    go true more = refl
    go false more = more

both_hold : (a b : Bool) → a ≡ true → b ≡ true → (a && b) ≡ true
both_hold true b e f = f
both_hold false b e f = cc (e)

left_holds : (a b : Bool) → (a && b) ≡ true → a ≡ true
left_holds true b e = refl
left_holds false b e = cc (e)

right_holds : (a b : Bool) → (a && b) ≡ true → b ≡ true
right_holds true b e = e
right_holds false b e = cc (e)

some_imports : (ed : Edition) (ps : List Parsed) → AllParsed ed ps → (is : List Import) × AreDirectoryImports ps is
some_imports ed [] h = ([], refl)
some_imports ed (p ∷ ps) h = let rest = some_imports ed ps h.1 in (directory_imports p.name h.0.file.imports ++ rest.0, (h.0.file, rest.0, h.0.parse, rest.1, refl))

module _ (ed : Edition) (sources : Sources) where
  Known : List ℕ → Type 0
  Known path = ((is : List Import) × HasImports ed sources path is) ⊎ ((is : List Import) → HasImports ed sources path is → ⊥)

  known_by : (path : List ℕ) (planned : Planned) → IsPlan ed (package_files path sources) planned → Known path
  unfolding Known
  known_by path NoFiles h = inr (λ is has. (let e = one_plan ed (package_files path sources) NoFiles (Sound has.parsed) h has.sound in cc (e)))
  known_by path (Faulty f) h = inr (λ is has. (let e = one_plan ed (package_files path sources) (Faulty f) (Sound has.parsed) h has.sound in cc (e)))
  known_by path (Sound parsed) h = (let is = some_imports ed parsed h.parses.parses in inl (is.0, record { parsed = parsed; sound = h; are = is.1 }))

  known : (path : List ℕ) → Known path
  known path = let p = some_plan ed (package_files path sources) in known_by path p.0 p.1

  imports_known : (path : List ℕ) → Known path → List Import
  unfolding Known
  imports_known path (inl is) = is.0
  imports_known path (inr n) = []

  edge : List ℕ → List ℕ → Bool
  edge p q = names q (imports_known p (known p)) && is_some (package_files q sources)

  import_by : (p q : List ℕ) (k : Known p) → names q (imports_known p k) ≡ true → HasImport ed sources p q
  unfolding Known imports_known
  import_by p q (inl is) e = let h = names_one q is.0 e in record { imports = is.0; has = is.1; import = h.0; among = h.1; path = h.2 }
  import_by p q (inr n) e = let h = names_one q [] e in absurd (one_of [] h.0 h.1)

  by_import : (p q : List ℕ) (k : Known p) → HasImport ed sources p q → names q (imports_known p k) ≡ true
  unfolding Known imports_known
  by_import p q (inl is) h = one_names q is.0 h.import (one_of is.0 h.import (subst (λ (l : List Import). Contains l h.import) (same_imports ed sources p h.imports is.0 h.has is.1) h.among)) h.path
  by_import p q (inr n) h = absurd (n h.imports h.has)

  edge_imports : (p q : List ℕ) → edge p q ≡ true → Imports ed sources p q
  unfolding edge
  edge_imports p q e = record {
    import = import_by p q (known p) (left_holds (names q (imports_known p (known p))) (is_some (package_files q sources)) e);
    files = some_is (package_files q sources) (right_holds (names q (imports_known p (known p))) (is_some (package_files q sources)) e);
  }

  imports_edge : (p q : List ℕ) → Imports ed sources p q → edge p q ≡ true
  unfolding edge
  imports_edge p q h = both_hold (names q (imports_known p (known p))) (is_some (package_files q sources)) (by_import p q (known p) h.import) (is_some_of (package_files q sources) h.files)

  reaches : List ℕ → List ℕ → Bool
  reaches = reach bytes_eq edge (built_directories sources)

  reaches_is : (p q : List ℕ) → reaches p q ≡ true → Reaches (Imports ed sources) p q
  unfolding reaches
  reaches_is p q e = reach_sound (Imports ed sources) bytes_eq edge (λ x y. (bytes_eq-Decides x y).0) (λ x. (bytes_eq-Decides x x).1 refl) edge_imports imports_edge (built_directories sources) p q e

  is_reached : (p q : List ℕ) → Reaches (Imports ed sources) p q → reaches p q ≡ true
  unfolding reaches
  is_reached p q r = reach_complete (Imports ed sources) bytes_eq edge (λ x y. (bytes_eq-Decides x y).0) (λ x. (bytes_eq-Decides x x).1 refl) edge_imports imports_edge (built_directories sources) (λ x y i. to_directory y sources i.files) p q r

  by_bool : (p q : List ℕ) (b : Bool) → reaches p q ≡ b → Reaches (Imports ed sources) p q ⊎ (Reaches (Imports ed sources) p q → ⊥)
  by_bool p q true e = inl (reaches_is p q e)
  by_bool p q false e = inr (λ r. (let t = is_reached p q r in let z : true ≡ false = sym t ∙ e in cc (z)))

  decide_back : (path : List ℕ) (q : List ℕ) → LeadsBack ed sources path q ⊎ (LeadsBack ed sources path q → ⊥)
  decide_back path q = by_bool q path (reaches q path) refl

  main_or_not : (q : List ℕ) (first : Parsed) (rest : List Parsed) → AreParsed ed (package_files q sources) (first ∷ rest) → IsMainPackage ed sources q ⊎ (IsMainPackage ed sources q → ⊥)
  main_or_not q first rest a = go (bytes_eq a.parses.0.file.package.text (codes "main")) refl
    where
      clause_is : IsPackage first.edition first.text a.parses.0.file.package
      clause_is = (a.parses.0.file, a.parses.0.parse, refl)

      go : (b : Bool) → bytes_eq a.parses.0.file.package.text (codes "main") ≡ b → IsMainPackage ed sources q ⊎ (IsMainPackage ed sources q → ⊥)
      go true e = inl (record { first = first; rest = rest; parses = a; named = record { clause = a.parses.0.file.package; package_is = clause_is; same = (bytes_eq-Decides a.parses.0.file.package.text (codes "main")).0 e } })
      go false e = inr (λ h.
          let lists : h.first ∷ h.rest ≡ first ∷ rest = one_parsed ed (package_files q sources) (h.first ∷ h.rest) (first ∷ rest) h.parses a in
          let heads : h.first ≡ first = cc in
          let clause = one_package first.edition first.text h.named.clause a.parses.0.file.package (subst (λ (z : Parsed). IsPackage z.edition z.text h.named.clause) heads h.named.package_is) clause_is in
          let t = (bytes_eq-Decides a.parses.0.file.package.text (codes "main")).1 (sym (ap (λ n. n.text) clause) ∙ h.named.same) in
          let z : true ≡ false = sym t ∙ e in cc (z))

  program_by : (q : List ℕ) → Read ed (package_files q sources) → IsMainPackage ed sources q ⊎ (IsMainPackage ed sources q → ⊥)
  program_by q (inl ([], a)) = inr (λ h. (let z : [] ≡ h.first ∷ h.rest = one_parsed ed (package_files q sources) [] (h.first ∷ h.rest) a h.parses in cc (z)))
  program_by q (inl (first ∷ rest, a)) = main_or_not q first rest a
  program_by q (inr stop) = inr (λ h. stops_or_parses ed (package_files q sources) stop.0 (h.first ∷ h.rest) stop.1 h.parses)

  decide_program : (q : List ℕ) → IsMainPackage ed sources q ⊎ (IsMainPackage ed sources q → ⊥)
  decide_program q = program_by q (read ed (package_files q sources))

  abbrev Right : List ℕ → Type 0
  Right path = (planned : Planned) × ((HasNoFiles sources path → ⊥) → IsPlannedAs ed sources path planned)

  right_program : (path : List ℕ) (parsed : List Parsed) (h : IsPlan ed (package_files path sources) (Sound parsed)) (is : List Import) → HasImports ed sources path is → HasNone (HasNoFiles sources) is → HasNone (LeadsBack ed sources path) is
      → ((fault : Fault) × IsAtFirst (IsMainPackage ed sources) is Program fault) ⊎ HasNone (IsMainPackage ed sources) is → Right path
  right_program path parsed h is has n m (inl (fault, a)) = (Faulty fault, λ _. inr (record { imports = is; has = has; is = of_program n m a }))
  right_program path parsed h is has n m (inr l) = (Sound parsed, λ _. (h, record { imports = is; has = has; none_missing = n; none_leads_back = m; none_program = l }))

  right_cycle : (path : List ℕ) (parsed : List Parsed) (h : IsPlan ed (package_files path sources) (Sound parsed)) (is : List Import) → HasImports ed sources path is → HasNone (HasNoFiles sources) is
      → ((fault : Fault) × IsAtFirst (LeadsBack ed sources path) is Cycle fault) ⊎ HasNone (LeadsBack ed sources path) is → Right path
  right_cycle path parsed h is has n (inl (fault, a)) = (Faulty fault, λ _. inr (record { imports = is; has = has; is = of_cycle n a }))
  right_cycle path parsed h is has n (inr m) = right_program path parsed h is has n m (decide_first (IsMainPackage ed sources) decide_program Program is)

  right_missing : (path : List ℕ) (parsed : List Parsed) (h : IsPlan ed (package_files path sources) (Sound parsed)) (is : List Import) → HasImports ed sources path is
      → ((fault : Fault) × IsAtFirst (HasNoFiles sources) is NoImport fault) ⊎ HasNone (HasNoFiles sources) is → Right path
  right_missing path parsed h is has (inl (fault, a)) = (Faulty fault, λ _. inr (record { imports = is; has = has; is = of_missing a }))
  right_missing path parsed h is has (inr n) = right_cycle path parsed h is has n (decide_first (LeadsBack ed sources path) (decide_back path) Cycle is)

  right_by : (path : List ℕ) (planned : Planned) → IsPlan ed (package_files path sources) planned → Right path
  right_by path NoFiles h = (NoFiles, λ n. absurd (n h))
  right_by path (Faulty f) h = (Faulty f, λ _. inl h)
  right_by path (Sound parsed) h =
      let is = some_imports ed parsed h.parses.parses in
      right_missing path parsed h is.0 (record { parsed = parsed; sound = h; are = is.1 }) (decide_first (HasNoFiles sources) (has_files sources) NoImport is.0)

  right : (path : List ℕ) → Right path
  right path = let p = some_plan ed (package_files path sources) in right_by path p.0 p.1

  made : List (List ℕ) → List ℕ → Directory
  made paths path = record { path = path; planned = (right path).0; imports = numbers_from (edge path) 0 paths }

  made_paths : (all paths : List (List ℕ)) → paths_of (map (made all) paths) ≡ paths
  unfolding made
  made_paths all [] = refl
  made_paths all (p ∷ ps) = ap (λ (l : List (List ℕ)). p ∷ l) (made_paths all ps)

  one_made : (all paths : List (List ℕ)) (d : Directory) → IsOneOf d (map (made all) paths) → (p : List ℕ) × IsOneOf p paths × (d ≡ made all p)
  one_made all [] d h = absurd h
  one_made all (p ∷ ps) d (inl e) = (p, inl refl, e)
  one_made all (p ∷ ps) d (inr h) = let m = one_made all ps d h in (m.0, inr m.1, m.2)

  numbers_are : (paths : List (List ℕ)) (path : List ℕ) → AreNumbers ed sources paths path (numbers_from (edge path) 0 paths)
  numbers_are paths path = record {
    ascending = IsStrictlyIncreasing-from_sorted (numbers_from (edge path) 0 paths) (numbers_sorted (edge path) 0 paths);
    are = λ k. (
      λ c. (let s = numbers_stand (edge path) 0 paths k (one_of (numbers_from (edge path) 0 paths) k c) in
          let place : s.0 ≡ k = (let e = s.2 in omega (arith, e)) in
          (s.1, subst (λ i. slice_get paths i ≡ Some s.1) place s.3, edge_imports path s.1 s.4)),
      λ (q, at, imp). contained (numbers_from (edge path) 0 paths) k (stands_numbers (edge path) 0 paths k k q (omega arith) at (imports_edge path q imp)),
    );
  }

  module _ (target : List ℕ) (files : HasNoFiles sources target → ⊥) where
    all_reached : List (List ℕ)
    all_reached = filter (reaches target) (sorted (built_directories sources))

    reached_files : (q : List ℕ) → Reaches (Imports ed sources) target q → HasNoFiles sources q → ⊥
    reached_files q r = reaches_stay (Imports ed sources) (λ p. HasNoFiles sources p → ⊥) (λ y x h i. i.files) target q r files

    one_reached : (q : List ℕ) → Reaches (Imports ed sources) target q → Contains all_reached q
    unfolding all_reached
    one_reached q r = contained all_reached q (to_filter (reaches target) (sorted (built_directories sources)) q
        (to_sorted q (built_directories sources) (to_directory q sources (reached_files q r))) (is_reached target q r))

    reached_one : (q : List ℕ) → Contains all_reached q → Reaches (Imports ed sources) target q
    unfolding all_reached
    reached_one q c = reaches_is target q (from_filter (reaches target) (sorted (built_directories sources)) q (one_of all_reached q c)).1

    ascends : IsStrictlySortedBy path_cmp all_reached
    unfolding all_reached
    ascends = IsStrictlySortedBy-filter path_cmp (reaches target) (sorted (built_directories sources)) (sorted_ascends (built_directories sources))

    all_made : List Directory
    all_made = map (made all_reached) all_reached

    made_right : (d : Directory) → Contains all_made d → IsPlannedAs ed sources d.path d.planned
    unfolding all_made made
    made_right d c =
        let m = one_made all_reached all_reached d (one_of all_made d c) in
        let plan : IsPlannedAs ed sources m.0 (right m.0).0 = (right m.0).1 (reached_files m.0 (reached_one m.0 (contained all_reached m.0 m.1))) in
        subst (λ (x : Directory). IsPlannedAs ed sources x.path x.planned) (sym m.2) plan

    made_numbers : (d : Directory) → Contains all_made d → AreNumbers ed sources all_reached d.path d.imports
    unfolding all_made made
    made_numbers d c =
        let m = one_made all_reached all_reached d (one_of all_made d c) in
        subst (λ (x : Directory). AreNumbers ed sources all_reached x.path x.imports) (sym m.2) (numbers_are all_reached m.0)

    pub some_build_plan : (ds : List Directory) × IsBuildPlan ed sources target ds
    some_build_plan =
        let same : paths_of all_made ≡ all_reached = unfold all_made in made_paths all_reached all_reached in (
          all_made,
          record {
            files = files;
            ascending = subst (IsStrictlySortedBy path_cmp) (sym same) ascends;
            reached = subst (λ (ps : List (List ℕ)). (q : List ℕ) → (Contains ps q → plan.ReachesByImports ed sources target q) × (plan.ReachesByImports ed sources target q → Contains ps q)) (sym same) (λ q. (reached_one q, one_reached q));
            planned = made_right;
            imports = subst (λ (ps : List (List ℕ)). (d : Directory) → Contains all_made d → AreNumbers ed sources ps d.path d.imports) (sym same) made_numbers;
          },
        )

pub some_build_plan_of : (ed : Edition) (W : List Write) (target : List ℕ) → IsPlanOf ed W target NoFiles ⊎ ((ds : List Directory) × IsBuildPlanOf ed W target ds)
some_build_plan_of ed W target =
    let s = some_sources W in
    elim (has_files s.0 target) [
      | inl none ↦ inl (s.0, s.1, none)
      | inr files ↦ (let p = some_build_plan ed s.0 target files in inr (p.0, (s.0, s.1, p.1)))
    ]
