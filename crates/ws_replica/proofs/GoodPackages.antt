-- The good packages of a build, in an order in which each stands behind those that it imports, whatever the others are.
use Rattle.std.proofs.Common.{◌≡◌, ℕ, zero, suc, ◌<◌, Bool, true, false, cond, List, [], ◌∷◌, ◌++◌, length, Some, refl, sym, ap, subst, ◌∙◌, inl, inr, true≢false, arith}
use Rattle.std.specs.List.{AllZip, Contains, filter, slice_get}
use Rattle.std.specs.Option.{option_map}
use Rattle.std.proofs.lemmas.Bool.{cases_Bool}
use Rattle.std.proofs.lemmas.List.{length-map}
use Rattle.std.proofs.lemmas.Option.{slice_get_within, slice_get-map}
use Rattle.go_typed.specs.Trees.{Package}
use Rattle.go_init.specs.Packages.{package_order}
use Rattle.go_init.proofs.Orders as orders
use Rattle.ws_reach.specs.Reach.{Edge}
use Rattle.ws_action.proofs.Members.{none_in_empty, head_or_later, at_head, later}
use Rattle.ws_graph.specs.BuildPlan.{Directory, AreRanks}
use Rattle.ws_replica.specs.Reports.{DirectoryOutcome, Stopped, Blocked, Wrong, Good, outcome_at, ArePackages, IsDirectoryOutcome, AreDirectoryOutcomes}
use Rattle.ws_replica.proofs.Numbered.{some_same}
use Rattle.ws_replica.proofs.HeldImages.{there}
use Rattle.ws_replica.proofs.OneBuild.{fate_of, at_fate}
use Rattle.ws_replica.proofs.CheckedPackages.{rows_of, AreOrdered}
use Rattle.ws_replica.proofs.PlanMakes.{package_at}

-- ---- lists of those that pass

among : (f : ℕ → Bool) (x : ℕ) (xs : List ℕ) (b : Bool) → f x ≡ b → filter f (x ∷ xs) ≡ cond b (x ∷ filter f xs) (filter f xs)
among f x xs b e = ap (λ c. cond c (x ∷ filter f xs) (filter f xs)) e

passes : (f : ℕ → Bool) (xs : List ℕ) (k : ℕ) → Contains (filter f xs) k → Contains xs k × (f k ≡ true)
passes f [] k c = absurd (none_in_empty k c)
passes f (x ∷ xs) k c = elim (cases_Bool (f x)) [
  | inl passed ↦ elim (head_or_later x (filter f xs) k (subst (λ ys. Contains ys k) (among f x xs true passed) c)) [
    | inl same ↦ (at_head xs x k same, subst (λ y. f y ≡ true) same passed)
    | inr l ↦ (let r = passes f xs k l in (later x xs k r.0, r.1))
  ]
  | inr fails ↦ (let r = passes f xs k (subst (λ ys. Contains ys k) (among f x xs false fails) c) in (later x xs k r.0, r.1))
]

passing : (f : ℕ → Bool) (xs : List ℕ) (k : ℕ) → Contains xs k → f k ≡ true → Contains (filter f xs) k
passing f [] k c passed = absurd (none_in_empty k c)
passing f (x ∷ xs) k c passed = elim (cases_Bool (f x)) [
  | inl first ↦ subst (λ ys. Contains ys k) (sym (among f x xs true first)) (elim (head_or_later x xs k c) [
    | inl same ↦ at_head (filter f xs) x k same
    | inr l ↦ later x (filter f xs) k (passing f xs k l passed)
  ])
  | inr fails ↦ subst (λ ys. Contains ys k) (sym (among f x xs false fails)) (elim (head_or_later x xs k c) [
    | inl same ↦ absurd (true≢false (sym passed ∙ ap f (sym same) ∙ fails))
    | inr l ↦ passing f xs k l passed
  ])
]

-- where the list of those that pass is cut, the whole is cut too
record Whole (f : ℕ → Bool) (xs before : List ℕ) (k : ℕ) : Type 0 where
  front : List ℕ
  back : List ℕ
  cut : xs ≡ front ++ k ∷ back
  same : before ≡ filter f front

skipped : (f : ℕ → Bool) (x : ℕ) (xs before : List ℕ) (k : ℕ) → f x ≡ false → Whole f xs before k → Whole f (x ∷ xs) before k
skipped f x xs before k fails w = record { front = x ∷ w.front; back = w.back; cut = ap (λ ys. x ∷ ys) w.cut; same = w.same ∙ sym (among f x w.front false fails) }

taken : (f : ℕ → Bool) (x : ℕ) (xs before : List ℕ) (k : ℕ) → f x ≡ true → Whole f xs before k → Whole f (x ∷ xs) (x ∷ before) k
taken f x xs before k passed w = record { front = x ∷ w.front; back = w.back; cut = ap (λ ys. x ∷ ys) w.cut; same = ap (λ ys. x ∷ ys) w.same ∙ sym (among f x w.front true passed) }

first_cut : (f : ℕ → Bool) (x : ℕ) (xs after : List ℕ) (k : ℕ) → f x ≡ true → ((front : List ℕ) → filter f xs ≡ front ++ k ∷ after → Whole f xs front k)
    → (before : List ℕ) → x ∷ filter f xs ≡ before ++ k ∷ after → Whole f (x ∷ xs) before k
first_cut f x xs after k passed rest [] e = (let same : x ≡ k = cc (e) in record { front = []; back = xs; cut = ap (λ (y : ℕ). y ∷ xs) same; same = refl })
first_cut f x xs after k passed rest (b ∷ before) e =
    let same : x ≡ b = cc (e) in
    let more : filter f xs ≡ before ++ k ∷ after = cc (e) in
    subst (λ (y : ℕ). Whole f (x ∷ xs) (y ∷ before) k) same (taken f x xs before k passed (rest before more))

whole : (f : ℕ → Bool) (xs before after : List ℕ) (k : ℕ) → filter f xs ≡ before ++ k ∷ after → Whole f xs before k
whole f [] [] after k e = absurd (cc (e))
whole f [] (b ∷ before) after k e = absurd (cc (e))
whole f (x ∷ xs) before after k e = elim (cases_Bool (f x)) [
  | inr fails ↦ skipped f x xs before k fails (whole f xs before after k (sym (among f x xs false fails) ∙ e))
  | inl passed ↦ first_cut f x xs after k passed (λ front more. whole f xs front after k more) before (sym (among f x xs true passed) ∙ e)
]

in_middle : (before after : List ℕ) (k : ℕ) → Contains (before ++ k ∷ after) k
in_middle [] after k = at_head after k k refl
in_middle (b ∷ before) after k = later b (before ++ k ∷ after) k (in_middle before after k)

-- ---- the imports of good directories alone

abbrev row_of : DirectoryOutcome → Directory → List ℕ
row_of (Good p) d = d.imports
row_of fate d = []

abbrev good_rows : List Directory → List DirectoryOutcome → List (List ℕ)
good_rows [] fates = []
good_rows (d ∷ ds) [] = []
good_rows (d ∷ ds) (f ∷ fates) = row_of f d ∷ good_rows ds fates

abbrev is_good : DirectoryOutcome → Bool
is_good (Good p) = true
is_good fate = false

module _ (all : List DirectoryOutcome) where
  rows_length : (ds : List Directory) (fates : List DirectoryOutcome) → AllZip (IsDirectoryOutcome all) ds fates → length (good_rows ds fates) ≡ length ds
  rows_length [] fates are = refl
  rows_length (d ∷ ds) [] are = absurd are
  rows_length (d ∷ ds) (f ∷ fates) are = ap suc (rows_length ds fates are.1)

  row_at : (ds : List Directory) (fates : List DirectoryOutcome) → AllZip (IsDirectoryOutcome all) ds fates → (k : ℕ) (d : Directory) (f : DirectoryOutcome) → slice_get ds k ≡ Some d → slice_get fates k ≡ Some f → slice_get (good_rows ds fates) k ≡ Some (row_of f d)
  row_at [] fates are k d f at here = absurd (cc (at))
  row_at (e ∷ ds) [] are k d f at here = absurd are
  row_at (e ∷ ds) (g ∷ fates) are zero d f at here = ap (λ (x : List ℕ). Some x) (ap (row_of g) (some_same e d at) ∙ ap (λ (y : DirectoryOutcome). row_of y d) (some_same g f here))
  row_at (e ∷ ds) (g ∷ fates) are (suc k) d f at here = row_at ds fates are.1 k d f at here

good_is : (f : DirectoryOutcome) → is_good f ≡ true → (p : Package) × (f ≡ Good p)
good_is (Stopped fault) e = absurd (true≢false (sym e))
good_is Blocked e = absurd (true≢false (sym e))
good_is (Wrong fault) e = absurd (true≢false (sym e))
good_is (Good p) e = (p, refl)

of_row : (f : DirectoryOutcome) (d : Directory) (j : ℕ) → Contains (row_of f d) j → (p : Package) × (f ≡ Good p) × Contains d.imports j
of_row (Stopped fault) d j c = absurd (none_in_empty j c)
of_row Blocked d j c = absurd (none_in_empty j c)
of_row (Wrong fault) d j c = absurd (none_in_empty j c)
of_row (Good p) d j c = (p, refl, c)

module _ (ds : List Directory) (fates : List DirectoryOutcome) (are : AreDirectoryOutcomes ds fates) where
  abbrev rows : List (List ℕ)
  rows = good_rows ds fates

  abbrev good_at : ℕ → Bool
  good_at k = is_good (outcome_at fates k)

  abbrev pub ordered : List ℕ
  ordered = filter good_at (package_order rows)

  rows_long : length rows ≡ length ds
  rows_long = rows_length fates ds fates are

  -- an import of a good directory is one among good ones
  edge : (k j : ℕ) (p : Package) → outcome_at fates k ≡ Good p → Edge (rows_of ds) k j → Edge rows k j
  edge k j p good (row, at, c) =
      let d = there ds k (let lt = slice_get_within (rows_of ds) k row at in omega (arith, lt, length-map ds (λ (d : Directory). d.imports))) in
      let f = fate_of fates ds fates are k d.0 d.1 in
      let same : row ≡ d.0.imports = some_same row d.0.imports (sym at ∙ slice_get-map (λ (d : Directory). d.imports) ds k ∙ ap (option_map (λ (d : Directory). d.imports)) d.1) in
      let its : f.fate ≡ Good p = sym (at_fate fates k f.fate f.at) ∙ good in
      (row_of f.fate d.0, row_at fates ds fates are k d.0 f.fate d.1 f.at, subst (λ (x : DirectoryOutcome). Contains (row_of x d.0) j) (sym its) (subst (λ (r : List ℕ). Contains r j) same c))

  falls : (rank : ℕ → ℕ) → AreRanks ds rank → (p q : ℕ) → Edge rows p q → rank q < rank p
  falls rank ranks p q (row, at, c) =
      let d = there ds p (let lt = slice_get_within rows p row at in omega (arith, lt, rows_long)) in
      let f = fate_of fates ds fates are p d.0 d.1 in
      let same : row ≡ row_of f.fate d.0 = some_same row (row_of f.fate d.0) (sym at ∙ row_at fates ds fates are p d.0 f.fate d.1 f.at) in
      let its = of_row f.fate d.0 q (subst (λ (r : List ℕ). Contains r q) same c) in
      let is : IsDirectoryOutcome fates d.0 (Good its.0) = subst (IsDirectoryOutcome fates d.0) its.1 f.is in
      ranks p q d.0 is.0 d.1 (is.2).sound its.2

  pub are_ordered : AreOrdered ds fates ordered
  are_ordered = record { behind = comes_behind; once = comes_once }
    where
      comes_behind : (before after : List ℕ) (k j : ℕ) → ordered ≡ before ++ k ∷ after → Edge (rows_of ds) k j → j < length (rows_of ds) → (q : Package) → outcome_at fates j ≡ Good q → Contains before j
      comes_behind before after k j e leads lt q good =
          let w = whole good_at (package_order rows) before after k e in
          let its = good_is (outcome_at fates k) (passes good_at (package_order rows) k (subst (λ (xs : List ℕ). Contains xs k) (sym e) (in_middle before after k))).1 in
          let front : Contains w.front j = orders.behind rows w.front w.back k j w.cut (edge k j its.0 its.1 leads) (omega (arith, lt, length-map ds (λ (d : Directory). d.imports), rows_long)) in
          subst (λ (xs : List ℕ). Contains xs j) (sym w.same) (passing good_at w.front j front (ap is_good good))

      comes_once : (before after : List ℕ) (k : ℕ) → ordered ≡ before ++ k ∷ after → ¬ (Contains before k)
      comes_once before after k e c =
          let w = whole good_at (package_order rows) before after k e in
          orders.once rows w.front w.back k w.cut (passes good_at w.front k (subst (λ (xs : List ℕ). Contains xs k) w.same c)).0

  -- each good directory is among them
  pub all_ordered : (rank : ℕ → ℕ) → AreRanks ds rank → (k : ℕ) (p : Package) → outcome_at fates k ≡ Good p → Contains ordered k
  all_ordered rank ranks k p good =
      let d = package_at ds fates are k p good in
      let lt = slice_get_within ds k d.0 d.1 in
      passing good_at (package_order rows) k (orders.ranked rows rank (falls rank ranks) k (omega (arith, lt, rows_long))) (ap is_good good)

  packages_by : (ks : List ℕ) → ((k : ℕ) → Contains ks k → (p : Package) × (outcome_at fates k ≡ Good p)) → (ps : List Package) × ArePackages fates ks ps
  packages_by [] h = ([], tt)
  packages_by (k ∷ ks) h =
      let first = h k (at_head ks k k refl) in
      let rest = packages_by ks (λ j c. h j (later k ks j c)) in
      (first.0 ∷ rest.0, (first.1, rest.1))

  -- their packages
  pub all_packages : (ps : List Package) × ArePackages fates ordered ps
  all_packages = packages_by ordered (λ k c. good_is (outcome_at fates k) (passes good_at (package_order rows) k c).1)
