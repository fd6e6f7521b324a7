-- Of one set of writes a target has one plan, whose directories come to one thing each.
use Rattle.std.proofs.Common.{◌≡◌, ℕ, zero, suc, ◌<◌, Some, None, Option, List, [], ◌∷◌, map, refl, sym, ap, subst, ◌∙◌}
use Rattle.std.specs.List.{AllZip, Contains, slice_get}
use Rattle.go_text.specs.declared.edition.Edition.{Edition}
use Rattle.go_text.specs.Faults.{Fault}
use Rattle.go_ast.specs.Parse.{Parsed}
use Rattle.go_typed.specs.Trees.{Package}
use Rattle.go_check.specs.Names.{importable_of}
use Rattle.ws_version.specs.Writes.{Write}
use Rattle.ws_map.specs.Kept.{SameMembers}
use Rattle.ws_register.proofs.Laws.{same_sources}
use Rattle.ws_action.proofs.Members.{at_head, later}
use Rattle.ws_cache.specs.Compiles.{AreGood, AreFaulty}
use Rattle.ws_cache.proofs.Outcomes.{one_good, one_faulty, not_both}
use Rattle.ws_graph.specs.Packages.{package_files}
use Rattle.ws_graph.specs.Plan.{Planned, NoFiles, Faulty, Sound, IsPlanOf}
use Rattle.ws_graph.specs.BuildPlan.{Directory, IsBuildPlanOf, AreRanks}
use Rattle.ws_graph.proofs.OneBuildPlan.{one_build_plan_of}
use Rattle.ws_graph.proofs.RankedPlan.{ranked_build_plan}
use Rattle.ws_replica.specs.Reports.{DirectoryOutcome, Stopped, Blocked, Wrong, Good, outcome_at, ArePackages, IsReady, IsDirectoryOutcome, AreDirectoryOutcomes, TargetBuild, IsTargetBuild}
use Rattle.ws_replica.proofs.Numbered.{some_same, same_lists, ranked}

package_in : Package → DirectoryOutcome → Package
package_in other (Good p) = p
package_in other fate = other

fault_in : Fault → Planned → Fault
fault_in other (Faulty f) = f
fault_in other planned = other

files_in : List Parsed → Planned → List Parsed
files_in other (Sound files) = files
files_in other planned = other

-- ---- imports

-- two lists of fates agree at all these numbers
abbrev pub Agree : List DirectoryOutcome → List DirectoryOutcome → List ℕ → Type 0
Agree f g [] = Unit {0}
Agree f g (k ∷ ks) = (outcome_at f k ≡ outcome_at g k) × Agree f g ks

pub agree_at : (f g : List DirectoryOutcome) (ks : List ℕ) → ((k : ℕ) → Contains ks k → outcome_at f k ≡ outcome_at g k) → Agree f g ks
agree_at f g [] h = tt
agree_at f g (k ∷ ks) h = (h k (at_head ks k k refl), agree_at f g ks (λ j c. h j (later k ks j c)))

one_package : (f g : List DirectoryOutcome) (k : ℕ) (p q : Package) → outcome_at f k ≡ outcome_at g k → outcome_at f k ≡ Good p → outcome_at g k ≡ Good q → p ≡ q
unfolding package_in
one_package f g k p q same h i = ap (package_in p) (sym h ∙ same ∙ i)

pub one_packages : (f g : List DirectoryOutcome) (ks : List ℕ) (ps qs : List Package) → Agree f g ks → ArePackages f ks ps → ArePackages g ks qs → ps ≡ qs
one_packages f g [] [] [] agree h k = refl
one_packages f g [] [] (q ∷ qs) agree h k = absurd k
one_packages f g [] (p ∷ ps) qs agree h k = absurd h
one_packages f g (k ∷ ks) [] qs agree h i = absurd h
one_packages f g (k ∷ ks) (p ∷ ps) [] agree h i = absurd i
one_packages f g (k ∷ ks) (p ∷ ps) (q ∷ qs) agree h i =
    ap (λ x. x ∷ ps) (one_package f g k p q agree.0 h.0 i.0) ∙ ap (λ xs. q ∷ xs) (one_packages f g ks ps qs agree.1 h.1 i.1)

pub packages_move : (f g : List DirectoryOutcome) (ks : List ℕ) (ps : List Package) → Agree f g ks → ArePackages f ks ps → ArePackages g ks ps
packages_move f g [] [] agree h = tt
packages_move f g [] (p ∷ ps) agree h = absurd h
packages_move f g (k ∷ ks) [] agree h = absurd h
packages_move f g (k ∷ ks) (p ∷ ps) agree h = (sym agree.0 ∙ h.0, packages_move f g ks ps agree.1 h.1)

pub agree_sym : (f g : List DirectoryOutcome) (ks : List ℕ) → Agree f g ks → Agree g f ks
agree_sym f g [] h = tt
agree_sym f g (k ∷ ks) h = (sym h.0, agree_sym f g ks h.1)

pub agree_refl : (f : List DirectoryOutcome) (ks : List ℕ) → Agree f f ks
agree_refl f [] = tt
agree_refl f (k ∷ ks) = (refl, agree_refl f ks)

-- ---- one fate

pub stopped_or_sound : (fault : Fault) (files : List Parsed) → Faulty fault ≡ Sound files → ⊥
stopped_or_sound fault files e = cc

module _ (d : Directory) (f g : List DirectoryOutcome) (agree : (files : List Parsed) → d.planned ≡ Sound files → Agree f g d.imports) where
  one_imports : (files others : List Parsed) (ps qs : List Package) → IsReady f d files ps → IsReady g d others qs → (files ≡ others) × (ps ≡ qs)
  unfolding files_in
  one_imports files others ps qs h k = (ap (files_in files) (sym h.sound ∙ k.sound), one_packages f g d.imports ps qs (agree files h.sound) h.good k.good)

  blocked_or : (files : List Parsed) (ps : List Package) → ((qs : List Package) → ¬ (ArePackages f d.imports qs)) → IsReady g d files ps → ⊥
  blocked_or files ps none h = none ps (packages_move g f d.imports ps (agree_sym f g d.imports (agree files h.sound)) h.good)

  or_blocked : (files : List Parsed) (ps : List Package) → IsReady f d files ps → ((qs : List Package) → ¬ (ArePackages g d.imports qs)) → ⊥
  or_blocked files ps h none = none ps (packages_move f g d.imports ps (agree files h.sound) h.good)

  faulty_here : (files others : List Parsed) (ps qs : List Package) (y : Fault) → IsReady f d files ps → IsReady g d others qs
      → AreFaulty d.path others (map importable_of qs) y → AreFaulty d.path files (map importable_of ps) y
  faulty_here files others ps qs y h k its =
      let same = one_imports files others ps qs h k in
      subst (λ zs. AreFaulty d.path files (map importable_of zs) y) (sym same.1) (subst (λ zs. AreFaulty d.path zs (map importable_of qs) y) (sym same.0) its)

  good_here : (files others : List Parsed) (ps qs : List Package) (y : Package) → IsReady f d files ps → IsReady g d others qs
      → AreGood d.path others (map importable_of qs) y → AreGood d.path files (map importable_of ps) y
  good_here files others ps qs y h k its =
      let same = one_imports files others ps qs h k in
      subst (λ zs. AreGood d.path files (map importable_of zs) y) (sym same.1) (subst (λ zs. AreGood d.path zs (map importable_of qs) y) (sym same.0) its)

  -- where its imports have one fate, so has a directory
  pub one_fate : (a b : DirectoryOutcome) → IsDirectoryOutcome f d a → IsDirectoryOutcome g d b → a ≡ b
  unfolding fault_in
  one_fate (Stopped x) (Stopped y) h k = ap Stopped (ap (fault_in x) (sym h ∙ k))
  one_fate (Stopped x) Blocked h k = absurd (stopped_or_sound x k.0 (sym h ∙ k.1))
  one_fate (Stopped x) (Wrong y) h k = absurd (stopped_or_sound x k.0 (sym h ∙ (k.2).sound))
  one_fate (Stopped x) (Good y) h k = absurd (stopped_or_sound x k.0 (sym h ∙ (k.2).sound))
  one_fate Blocked (Stopped y) h k = absurd (stopped_or_sound y h.0 (sym k ∙ h.1))
  one_fate Blocked Blocked h k = refl
  one_fate Blocked (Wrong y) h k = absurd (blocked_or k.0 k.1 h.2 k.2)
  one_fate Blocked (Good y) h k = absurd (blocked_or k.0 k.1 h.2 k.2)
  one_fate (Wrong x) (Stopped y) h k = absurd (stopped_or_sound y h.0 (sym k ∙ (h.2).sound))
  one_fate (Wrong x) Blocked h k = absurd (or_blocked h.0 h.1 h.2 k.2)
  one_fate (Wrong x) (Wrong y) h k = ap Wrong (one_faulty d.path h.0 (map importable_of h.1) x y h.3 (faulty_here h.0 k.0 h.1 k.1 y h.2 k.2 k.3))
  one_fate (Wrong x) (Good y) h k = absurd (not_both d.path h.0 (map importable_of h.1) x y h.3 (good_here h.0 k.0 h.1 k.1 y h.2 k.2 k.3))
  one_fate (Good x) (Stopped y) h k = absurd (stopped_or_sound y h.0 (sym k ∙ (h.2).sound))
  one_fate (Good x) Blocked h k = absurd (or_blocked h.0 h.1 h.2 k.2)
  one_fate (Good x) (Wrong y) h k = absurd (not_both d.path h.0 (map importable_of h.1) y x (faulty_here h.0 k.0 h.1 k.1 y h.2 k.2 k.3) h.3)
  one_fate (Good x) (Good y) h k = ap Good (one_good d.path h.0 (map importable_of h.1) x y h.3 (good_here h.0 k.0 h.1 k.1 y h.2 k.2 k.3))

-- ---- one list of fates

-- what stands at the number of a directory
pub record FateAt (all : List DirectoryOutcome) (d : Directory) (fates : List DirectoryOutcome) (k : ℕ) : Type 0 where
  pub fate : DirectoryOutcome
  pub at : slice_get fates k ≡ Some fate
  pub is : IsDirectoryOutcome all d fate

pub fate_of : (all : List DirectoryOutcome) (ds : List Directory) (fates : List DirectoryOutcome) → AllZip (IsDirectoryOutcome all) ds fates → (k : ℕ) (d : Directory) → slice_get ds k ≡ Some d → FateAt all d fates k
fate_of all [] fates h k d e = cc
fate_of all (x ∷ ds) [] h k d e = absurd h
fate_of all (x ∷ ds) (f ∷ fates) h zero d e = record { fate = f; at = refl; is = subst (λ (z : Directory). IsDirectoryOutcome all z f) (some_same x d e) h.0 }
fate_of all (x ∷ ds) (f ∷ fates) h (suc k) d e =
    let rest = fate_of all ds fates h.1 k d e in
    record { fate = rest.fate; at = rest.at; is = rest.is }

pub fate_past : (all : List DirectoryOutcome) (ds : List Directory) (fates : List DirectoryOutcome) → AllZip (IsDirectoryOutcome all) ds fates → (k : ℕ) → slice_get ds k ≡ None → slice_get fates k ≡ None
fate_past all [] [] h k e = refl
fate_past all [] (f ∷ fates) h k e = absurd h
fate_past all (x ∷ ds) [] h k e = absurd h
fate_past all (x ∷ ds) (f ∷ fates) h zero e = cc
fate_past all (x ∷ ds) (f ∷ fates) h (suc k) e = fate_past all ds fates h.1 k e

-- the fate of a number is what stands there
pub at_fate : (fates : List DirectoryOutcome) (k : ℕ) (a : DirectoryOutcome) → slice_get fates k ≡ Some a → outcome_at fates k ≡ a
at_fate [] k a at = cc
at_fate (x ∷ xs) zero a at = some_same x a at
at_fate (x ∷ xs) (suc k) a at = at_fate xs k a at

pub past_fate : (fates : List DirectoryOutcome) (k : ℕ) → slice_get fates k ≡ None → outcome_at fates k ≡ Blocked
past_fate [] k at = refl
past_fate (x ∷ xs) zero at = cc
past_fate (x ∷ xs) (suc k) at = past_fate xs k at

pub same_fate_at : (f g : List DirectoryOutcome) (k : ℕ) → slice_get f k ≡ slice_get g k → outcome_at f k ≡ outcome_at g k
same_fate_at f g k e = elim (slice_get g k) as (λ o. slice_get g k ≡ o → outcome_at f k ≡ outcome_at g k) [
  | None ↦ λ at. past_fate f k (e ∙ at) ∙ sym (past_fate g k at)
  | Some a ↦ λ at. at_fate f k a (e ∙ at) ∙ sym (at_fate g k a at)
] refl

module _ (ds : List Directory) (rank : ℕ → ℕ) (ranks : AreRanks ds rank) (f g : List DirectoryOutcome) (are : AreDirectoryOutcomes ds f) (also : AreDirectoryOutcomes ds g) where
  one_at : (k : ℕ) → ((j : ℕ) → rank j < rank k → slice_get f j ≡ slice_get g j) → slice_get f k ≡ slice_get g k
  one_at k below = elim (slice_get ds k) as (λ o. slice_get ds k ≡ o → slice_get f k ≡ slice_get g k) [
    | None ↦ λ past. fate_past f ds f are k past ∙ sym (fate_past g ds g also k past)
    | Some d ↦ λ at. (
        let a = fate_of f ds f are k d at in
        let b = fate_of g ds g also k d at in
        let agree : (files : List Parsed) → d.planned ≡ Sound files → Agree f g d.imports =
        λ files sound. agree_at f g d.imports (λ j c. same_fate_at f g j (below j (ranks k j d files at sound c))) in
        a.at ∙ ap Some (one_fate d f g agree a.fate b.fate a.is b.is) ∙ sym b.at)
  ] refl

  pub one_fates : f ≡ g
  one_fates = same_lists f g (ranked rank (λ k. slice_get f k ≡ slice_get g k) one_at)

-- ---- one build

-- a target that has files isn't one that has none
files_or_none : (edition : Edition) (V W : List Write) (target : List ℕ) (ds : List Directory) → SameMembers V W → IsPlanOf edition V target NoFiles → IsBuildPlanOf edition W target ds → ⊥
files_or_none edition V W target ds same (sources, are, none) (others, have, plan) =
    let one : sources ≡ others = same_sources V W sources others same are have in
    plan.files (ap (package_files target) (sym one) ∙ none)

pub one_build : (edition : Edition) (V W : List Write) (target : List ℕ) (a b : Option TargetBuild) → SameMembers V W → IsTargetBuild edition V target a → IsTargetBuild edition W target b → a ≡ b
one_build edition V W target None None same g h = refl
one_build edition V W target None (Some b) same g h = absurd (files_or_none edition V W target b.directories same g h.0)
one_build edition V W target (Some a) None same g h = absurd (files_or_none edition W V target a.directories (λ x. ((same x).1, (same x).0)) h g.0)
one_build edition V W target (Some a) (Some b) same g h =
    let ds : a.directories ≡ b.directories = one_build_plan_of edition V W target a.directories b.directories same g.0 h.0 in
    let ranks = ranked_build_plan edition W target b.directories h.0 in
    let fates : a.fates ≡ b.fates = one_fates b.directories ranks.0 ranks.1 a.fates b.fates (subst (λ zs. AreDirectoryOutcomes zs a.fates) ds g.1) h.1 in
    let whole : a ≡ b = λ i. record { directories = ds i; fates = fates i } in
    ap Some whole
