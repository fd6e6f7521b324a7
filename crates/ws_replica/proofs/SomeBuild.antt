-- Of each set of writes each target has a plan, whose directories come to something.
use Rattle.std.proofs.Common.{◌≡◌, ◌⊎◌, ℕ, zero, suc, ◌+◌, ◌<◌, ◌≤◌, Some, None, Option, List, [], ◌∷◌, length, map, refl, sym, ap, subst, ◌∙◌, inl, inr, arith}
use Rattle.std.specs.List.{AllZip, Contains, slice_get}
use Rattle.std.proofs.lemmas.Bool.{cases_lt, cases_eq}
use Rattle.std.proofs.lemmas.Option.{slice_get_within}
use Rattle.go_text.specs.declared.edition.Edition.{Edition}
use Rattle.go_ast.specs.Parse.{Parsed}
use Rattle.go_ast.specs.Trees.{File}
use Rattle.go_check.specs.Checked.{AreTrees}
use Rattle.go_typed.specs.Trees.{Package}
use Rattle.go_check.specs.Names.{importable_of}
use Rattle.ws_version.specs.Writes.{Write}
use Rattle.ws_cache.proofs.SomeResult.{some_result}
use Rattle.ws_graph.specs.Packages.{package_files}
use Rattle.ws_graph.specs.Plan.{Planned, NoFiles, Faulty, Sound, AllParsed, IsSound}
use Rattle.ws_graph.specs.BuildPlan.{Sources, Directory, IsPlannedAs, AreRanks}
use Rattle.ws_graph.proofs.SomeBuildPlan.{some_build_plan_of}
use Rattle.ws_graph.proofs.RankedPlan.{ranked_build_plan}
use Rattle.ws_replica.specs.Reports.{DirectoryOutcome, Stopped, Blocked, Wrong, Good, outcome_at, ArePackages, IsDirectoryOutcome, AreDirectoryOutcomes, TargetBuild, IsTargetBuild}
use Rattle.ws_replica.proofs.Numbered.{at_member, past_none}
use Rattle.ws_replica.proofs.OneBuild.{Agree, agree_at, agree_sym, packages_move, at_fate}

-- ---- files that parse

abbrev pub AllPlanned : Edition → Sources → List Directory → Type 0
AllPlanned edition sources ds = (d : Directory) → Contains ds d → IsPlannedAs edition sources d.path d.planned

trees_of : (edition : Edition) (files : List Parsed) → AllParsed edition files → (trees : List File) × AreTrees files trees
trees_of edition [] h = ([], tt)
trees_of edition (f ∷ fs) h = let rest = trees_of edition fs h.1 in (h.0.file ∷ rest.0, (h.0.parse, rest.1))

pub sound_is : (edition : Edition) (sources : Sources) (path : List ℕ) (p : Planned) (files : List Parsed) → IsPlannedAs edition sources path p → p ≡ Sound files → IsSound edition (package_files path sources) files
sound_is edition sources path NoFiles files h e = absurd h
sound_is edition sources path (Faulty fault) files h e = cc
sound_is edition sources path (Sound others) files h e = subst (λ fs. IsSound edition (package_files path sources) fs) (let same : others ≡ files = cc (e) in same) h.0

-- ---- what becomes of a directory, by what becomes of others

pub good_or_not : (a : DirectoryOutcome) → ((p : Package) × (a ≡ Good p)) ⊎ ((p : Package) → a ≡ Good p → ⊥)
good_or_not (Good p) = inl (p, refl)
good_or_not (Stopped x) = inr (λ p e. cc (e))
good_or_not Blocked = inr (λ p e. cc (e))
good_or_not (Wrong x) = inr (λ p e. cc (e))

not_here : (fates : List DirectoryOutcome) (k : ℕ) (ks : List ℕ) → ((p : Package) → outcome_at fates k ≡ Good p → ⊥) → (ps : List Package) → ArePackages fates (k ∷ ks) ps → ⊥
not_here fates k ks bad [] h = h
not_here fates k ks bad (p ∷ ps) h = bad p h.0

not_behind : (fates : List DirectoryOutcome) (k : ℕ) (ks : List ℕ) → ((ps : List Package) → ArePackages fates ks ps → ⊥) → (ps : List Package) → ArePackages fates (k ∷ ks) ps → ⊥
not_behind fates k ks none [] h = h
not_behind fates k ks none (p ∷ ps) h = none ps h.1

pub some_packages : (fates : List DirectoryOutcome) (ks : List ℕ) → ((ps : List Package) × ArePackages fates ks ps) ⊎ ((ps : List Package) → ArePackages fates ks ps → ⊥)
some_packages fates [] = inl ([], tt)
some_packages fates (k ∷ ks) = elim (good_or_not (outcome_at fates k)) [
  | inr bad ↦ inr (not_here fates k ks bad)
  | inl (p, e) ↦ elim (some_packages fates ks) [ inl (ps, h) ↦ inl (p ∷ ps, (e, h)) | inr none ↦ inr (not_behind fates k ks none) ]
]

-- ---- lists

-- one of each, and of each more
abbrev Chosen : {A B : Type 0} → (ℕ → A → B → Type 0) → List A → List B → Type 0
Chosen {A} {B} P xs ys = (k : ℕ) (x : A) → slice_get xs k ≡ Some x → (y : B) × (slice_get ys k ≡ Some y) × P k x y

one_more : {A B : Type 0} (P : ℕ → A → B → Type 0) (x : A) (xs : List A) (y : B) (ys : List B) → P 0 x y → Chosen (λ k. P (suc k)) xs ys → Chosen P (x ∷ xs) (y ∷ ys)
one_more P x xs y ys here rest zero z at = (let same : x ≡ z = cc (at) in (y, refl, subst (λ a. P 0 a y) same here))
one_more P x xs y ys here rest (suc k) z at = rest k z at

choice : {A B : Type 0} (P : ℕ → A → B → Type 0) (xs : List A) → ((k : ℕ) (x : A) → slice_get xs k ≡ Some x → (y : B) × P k x y) → (ys : List B) × (length ys ≡ length xs) × Chosen P xs ys
choice P [] h = ([], refl, λ k x at. cc (at))
choice P (x ∷ xs) h =
    let here = h 0 x refl in
    let rest = choice (λ k. P (suc k)) xs (λ k z at. h (suc k) z at) in
    (here.0 ∷ rest.0, ap suc rest.1, one_more P x xs here.0 rest.0 here.1 rest.2)

pub zip_all : {A B : Type 0} (R : A → B → Type 0) (xs : List A) (ys : List B) → length ys ≡ length xs → ((k : ℕ) (x : A) → slice_get xs k ≡ Some x → (y : B) × (slice_get ys k ≡ Some y) × R x y) → AllZip R xs ys
zip_all R [] [] size h = tt
zip_all R [] (y ∷ ys) size h = absurd (omega (arith, size))
zip_all R (x ∷ xs) [] size h = absurd (omega (arith, size))
zip_all R (x ∷ xs) (y ∷ ys) size h =
    let first = h 0 x refl in
    let same : first.0 ≡ y = (let e : Some y ≡ Some first.0 = first.1 in cc (e)) in
    (subst (λ z. R x z) same first.2, zip_all R xs ys (omega (arith, size)) (λ k z at. h (suc k) z at))

fate_there : (fates : List DirectoryOutcome) (k : ℕ) → k < length fates → slice_get fates k ≡ Some (outcome_at fates k)
fate_there [] k lt = absurd (omega (arith, lt))
fate_there (x ∷ xs) zero lt = refl
fate_there (x ∷ xs) (suc k) lt = fate_there xs k (omega (arith, lt))

fate_beyond : (fates : List DirectoryOutcome) (k : ℕ) → length fates ≤ k → outcome_at fates k ≡ Blocked
fate_beyond [] k le = refl
fate_beyond (x ∷ xs) zero le = absurd (omega (arith, le))
fate_beyond (x ∷ xs) (suc k) le = fate_beyond xs k (omega (arith, le))

-- all have ranks below it
highest : (rank : ℕ → ℕ) (l : ℕ) → (n : ℕ) × ((k : ℕ) → k < l → rank k < n)
highest rank zero = (0, λ k lt. absurd (omega (arith, lt)))
highest rank (suc l) =
    let before = highest rank l in
    (suc (before.0 + rank l), λ k lt. elim (cases_eq k l) [ inl e ↦ (let same = ap rank e in omega (arith, same)) | inr ne ↦ (let below = before.1 k (omega (arith, lt, ne)) in omega (arith, below)) ])

-- ---- fates, of one rank after another

fate_moves : (f g : List DirectoryOutcome) (d : Directory) → ((files : List Parsed) → d.planned ≡ Sound files → Agree f g d.imports) → (a : DirectoryOutcome) → IsDirectoryOutcome f d a → IsDirectoryOutcome g d a
fate_moves f g d agree (Stopped fault) h = h
fate_moves f g d agree Blocked h = (h.0, h.1, λ ps k. h.2 ps (packages_move g f d.imports ps (agree_sym f g d.imports (agree h.0 h.1)) k))
fate_moves f g d agree (Wrong fault) h = (h.0, h.1, record { sound = (h.2).sound; good = packages_move f g d.imports h.1 (agree h.0 (h.2).sound) (h.2).good }, h.3)
fate_moves f g d agree (Good t) h = (h.0, h.1, record { sound = (h.2).sound; good = packages_move f g d.imports h.1 (agree h.0 (h.2).sound) (h.2).good }, h.3)

module _ (edition : Edition) (sources : Sources) (ds : List Directory) (planned : AllPlanned edition sources ds) where
  some_fate_of : (fates : List DirectoryOutcome) (d : Directory) (p : Planned) → d.planned ≡ p → IsPlannedAs edition sources d.path p → (a : DirectoryOutcome) × IsDirectoryOutcome fates d a
  some_fate_of fates d NoFiles e is = absurd is
  some_fate_of fates d (Faulty fault) e is = (Stopped fault, e)
  some_fate_of fates d (Sound files) e is = elim (some_packages fates d.imports) [
    | inr none ↦ (Blocked, (files, e, none))
    | inl (ps, good) ↦ (
        let trees = trees_of edition files is.0.parses.parses in
        elim (some_result d.path files (map importable_of ps) trees.0 trees.1) [
          | inl (fault, have) ↦ (Wrong fault, (files, ps, record { sound = e; good = good }, have))
          | inr (t, typed) ↦ (Good t, (files, ps, record { sound = e; good = good }, typed))
        ])
  ]

  some_fate : (fates : List DirectoryOutcome) (k : ℕ) (d : Directory) → slice_get ds k ≡ Some d → (a : DirectoryOutcome) × IsDirectoryOutcome fates d a
  some_fate fates k d at = some_fate_of fates d d.planned refl (planned d (at_member ds k d at))

  module _ (rank : ℕ → ℕ) (ranks : AreRanks ds rank) where
    -- those of a rank below n
    record Round (n : ℕ) : Type 0 where
      fates : List DirectoryOutcome
      size : length fates ≡ length ds
      are : (k : ℕ) (d : Directory) → slice_get ds k ≡ Some d → rank k < n → IsDirectoryOutcome fates d (outcome_at fates k)

    first_round : Round 0
    first_round =
        let all = choice (λ k (d : Directory) (a : DirectoryOutcome). Unit {0}) ds (λ k d at. (Blocked, tt)) in
        record { fates = all.0; size = all.1; are = λ k d at lt. absurd (omega (arith, lt)) }

    abbrev Next : (n : ℕ) → List DirectoryOutcome → ℕ → Directory → DirectoryOutcome → Type 0
    Next n f k d a = (rank k < n → a ≡ outcome_at f k) × ((rank k < n → ⊥) → IsDirectoryOutcome f d a)

    next_at : (n : ℕ) (r : Round n) (k : ℕ) (d : Directory) → slice_get ds k ≡ Some d → (a : DirectoryOutcome) × Next n r.fates k d a
    next_at n r k d at = elim (cases_lt (rank k) n) [
      | inl lt ↦ (outcome_at r.fates k, (λ l. refl, λ never. absurd (never lt)))
      | inr past ↦ (let a = some_fate r.fates k d at in (a.0, (λ lt. absurd (omega (arith, lt, past)), λ never. a.1)))
    ]

    next_round : (n : ℕ) → Round n → Round (suc n)
    next_round n r =
        let f = r.fates in
        let all = choice (Next n f) ds (next_at n r) in
        let g = all.0 in
        let kept : (j : ℕ) → rank j < n → outcome_at f j ≡ outcome_at g j = λ j lt. elim (slice_get ds j) as (λ o. slice_get ds j ≡ o → outcome_at f j ≡ outcome_at g j) [
          | None ↦ λ none. (let past = past_none ds j none in fate_beyond f j (omega (arith, past, r.size)) ∙ sym (fate_beyond g j (omega (arith, past, all.1))))
          | Some d ↦ λ at. (let a = all.2 j d at in sym (at_fate g j a.0 a.1 ∙ (a.2).0 lt))
        ] refl in
        record {
          fates = g;
          size = all.1;
          are = λ k d at lt.
              let agree : (files : List Parsed) → d.planned ≡ Sound files → Agree f g d.imports = λ files e.
              agree_at f g d.imports (λ j c. kept j (let below = ranks k j d files at e c in omega (arith, below, lt))) in
              elim (cases_lt (rank k) n) [
                | inl below ↦ subst (λ a. IsDirectoryOutcome g d a) (kept k below) (fate_moves f g d agree (outcome_at f k) (r.are k d at below))
                | inr past ↦ (
                    let a = all.2 k d at in
                    subst (λ b. IsDirectoryOutcome g d b) (sym (at_fate g k a.0 a.1)) (fate_moves f g d agree a.0 ((a.2).1 (λ below. absurd (omega (arith, below, past))))))
              ];
        }

    rounds : (n : ℕ) → Round n
    rounds zero = first_round
    rounds (suc n) = next_round n (rounds n)

    pub some_fates : (fates : List DirectoryOutcome) × AreDirectoryOutcomes ds fates
    some_fates =
        let top = highest rank (length ds) in
        let last = rounds top.0 in (
          last.fates,
          zip_all (IsDirectoryOutcome last.fates) ds last.fates last.size (λ k d at.
              let inside = slice_get_within ds k d at in
              (outcome_at last.fates k, fate_there last.fates k (omega (arith, inside, last.size)), last.are k d at (top.1 k inside))),
        )

pub some_build : (edition : Edition) (W : List Write) (target : List ℕ) → (build : Option TargetBuild) × IsTargetBuild edition W target build
some_build edition W target = elim (some_build_plan_of edition W target) [
  | inl none ↦ (None, none)
  | inr (ds, of) ↦ (
      let ranks = ranked_build_plan edition W target ds of in
      let fates = some_fates edition of.0 ds of.2.planned ranks.0 ranks.1 in
      (Some (record { directories = ds; fates = fates.0 }), (of, fates.1)))
]
