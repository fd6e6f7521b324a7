-- What a joint plan's directories come to is what each target's own do.
use Rattle.std.proofs.Common.{◌≡◌, ◌⊎◌, ℕ, zero, suc, Bool, true, false, cond, List, [], ◌∷◌, map, Option, Some, None, refl, sym, ap, subst, ◌∙◌, inl, inr}
use Rattle.std.specs.List.{AllZip, Contains, cons_option, filter_map, slice_get, zip}
use Rattle.std.specs.List.Sorted.{IsStrictlySortedBy}
use Rattle.std.specs.Str.{bytes_eq}
use Rattle.std.specs.declared.cmp.Ordering.TheVariants.{Less}
use Rattle.std.proofs.lemmas.Slice.Eq.{bytes_eq-Decides}
use Rattle.go_text.specs.declared.edition.Edition.{Edition}
use Rattle.go_typed.specs.Trees.{Package}
use Rattle.go_check.specs.Names.{importable_of}
use Rattle.go_export.specs.Summaries.{summary_of}
use Rattle.ws_action.specs.Actions.{Action, action_of}
use Rattle.ws_action.proofs.Members.{none_in_empty, head_or_later, at_head, later}
use Rattle.ws_cache.specs.Compiles.{AreGood, AreFaulty}
use Rattle.ws_graph.specs.Plan.{Planned, NoFiles, Faulty, Sound}
use Rattle.ws_graph.specs.BuildPlan.{Sources, ReachesByImports, IsPlannedAs, Directory, paths_of, IsBuildPlan, IsJointPlan}
use Rattle.ws_graph.proofs.Linked.{map_left, map_right}
use Rattle.ws_graph.proofs.OneBuildPlan.{planned_once}
use Rattle.ws_graph.proofs.RankedPlan.{path_at}
use Rattle.ws_graph.proofs.Sorted.{one_of, among_all, not_both}
use Rattle.ws_graph.proofs.Wholes.{IsWhole, whole_plan, whole_joint}
use Rattle.ws_reach.proofs.Reached.{get_contains}
use Rattle.ws_report.specs.Reports.{DirectoryVerdict}
use Rattle.ws_replica.specs.Reports.{DirectoryOutcome, Stopped, Blocked, Wrong, Good, outcome_at, ArePackages, IsDirectoryOutcome, AreDirectoryOutcomes, TargetBuild, verdict_of_outcome, report_of, packages_in, action_by, action_in, actions_of}
use Rattle.ws_replica.proofs.Numbered.{some_same, member_at}
use Rattle.ws_replica.proofs.OneBuild.{fate_of, at_fate}
use Rattle.ws_replica.proofs.Picked.{into_map, map_through, at_path, at_some, same_paths, IsPart, own_paths}
use Rattle.ws_version.specs.Writes.{path_cmp}
use Rattle.ws_version.proofs.Writes.{path_cmp_total}

-- ---- fates by paths

-- the fate of the directory with that path
abbrev pub look : List Directory → List DirectoryOutcome → List ℕ → DirectoryOutcome
look [] fs p = Blocked
look (d ∷ ds) [] p = Blocked
look (d ∷ ds) (f ∷ fs) p = cond (bytes_eq d.path p) f (look ds fs p)

differ : (x y : List ℕ) (b : Bool) → bytes_eq x y ≡ b → path_cmp x y ≡ Less → b ≡ false
differ x y true e less =
    let same : path_cmp x x ≡ Less = subst (λ z. path_cmp x z ≡ Less) (sym ((bytes_eq-Decides x y).0 e)) less in
    absurd (not_both path_cmp path_cmp_total x x same same)
differ x y false e less = refl

look_at : (ds : List Directory) (fs : List DirectoryOutcome) → IsStrictlySortedBy path_cmp (paths_of ds) → (k : ℕ) (d : Directory) (f : DirectoryOutcome) → slice_get ds k ≡ Some d → slice_get fs k ≡ Some f → look ds fs d.path ≡ f
unfolding IsStrictlySortedBy
look_at [] fs s k d f at its = cc (at)
look_at (x ∷ ds) [] s k d f at its = cc (its)
look_at (x ∷ ds) (y ∷ fs) s zero d f at its =
    ap (λ b. cond b y (look ds fs d.path)) ((bytes_eq-Decides x.path d.path).1 (ap (λ (z : Directory). z.path) (some_same x d at))) ∙ some_same y f its
look_at (x ∷ ds) (y ∷ fs) s (suc k) d f at its =
    let below = among_all (λ z. path_cmp x.path z ≡ Less) (paths_of ds) d.path s.0 (one_of (paths_of ds) d.path (get_contains (paths_of ds) k d.path (path_at ds k d at))) in
    ap (λ b. cond b y (look ds fs d.path)) (differ x.path d.path (bytes_eq x.path d.path) refl below) ∙ look_at ds fs s.1 k d f at its

fate_map : (g : Directory → DirectoryOutcome) (ds : List Directory) (k : ℕ) (d : Directory) → slice_get ds k ≡ Some d → outcome_at (map g ds) k ≡ g d
fate_map g [] k d at = cc (at)
fate_map g (x ∷ ds) zero d at = ap g (some_same x d at)
fate_map g (x ∷ ds) (suc k) d at = fate_map g ds k d at

zip_map : {A B : Type 0} (R : A → B → Type 0) (g : A → B) (xs : List A) → ((x : A) → Contains xs x → R x (g x)) → AllZip R xs (map g xs)
zip_map R g [] h = tt
zip_map R g (x ∷ xs) h = (h x (at_head xs x x refl), zip_map R g xs (λ y c. h y (later x xs y c)))

-- ---- one directory in two lists

packages_by : (F G : List DirectoryOutcome) (js ks : List ℕ) → map (outcome_at F) js ≡ map (outcome_at G) ks → (ps : List Package) → ArePackages F js ps → ArePackages G ks ps
packages_by F G [] [] e [] h = tt
packages_by F G [] [] e (p ∷ ps) h = absurd h
packages_by F G [] (k ∷ ks) e ps h = absurd (cc (e))
packages_by F G (j ∷ js) [] e ps h = absurd (cc (e))
packages_by F G (j ∷ js) (k ∷ ks) e [] h = absurd h
packages_by F G (j ∷ js) (k ∷ ks) e (p ∷ ps) h =
    let heads : outcome_at F j ≡ outcome_at G k = cc in
    let tails : map (outcome_at F) js ≡ map (outcome_at G) ks = cc in
    (sym heads ∙ h.0, packages_by F G js ks tails ps h.1)

module _ (F G : List DirectoryOutcome) (u d : Directory) (path : d.path ≡ u.path) (planned : d.planned ≡ u.planned) (imports : map (outcome_at F) u.imports ≡ map (outcome_at G) d.imports) where
  -- one fate
  pub moved_fate : (f : DirectoryOutcome) → IsDirectoryOutcome F u f → IsDirectoryOutcome G d f
  moved_fate (Stopped fault) h = planned ∙ h
  moved_fate Blocked h = (h.0, planned ∙ h.1, λ ps has. h.2 ps (packages_by G F d.imports u.imports (sym imports) ps has))
  moved_fate (Wrong fault) h = (
    h.0,
    h.1,
    record { sound = planned ∙ (h.2).sound; good = packages_by F G u.imports d.imports imports h.1 (h.2).good },
    subst (λ p. AreFaulty p h.0 (map importable_of h.1) fault) (sym path) h.3,
  )
  moved_fate (Good typed) h = (
    h.0,
    h.1,
    record { sound = planned ∙ (h.2).sound; good = packages_by F G u.imports d.imports imports h.1 (h.2).good },
    subst (λ p. AreGood p h.0 (map importable_of h.1) typed) (sym path) h.3,
  )

  action_same : (edition : Edition) (p : Planned) → action_by edition G d p ≡ action_by edition F u p
  action_same edition NoFiles = refl
  action_same edition (Faulty fault) = refl
  action_same edition (Sound files) =
      ap (λ x. Some (action_of edition x files (map summary_of (packages_in (map (outcome_at G) d.imports))))) path
      ∙ ap (λ fs. Some (action_of edition u.path files (map summary_of (packages_in fs)))) (sym imports)

  action_planned : (edition : Edition) → action_by edition G d d.planned ≡ action_by edition F u u.planned
  action_planned edition = ap (action_by edition G d) planned ∙ action_same edition u.planned

  -- one action
  pub moved_action : (edition : Edition) (f : DirectoryOutcome) → action_in edition G d f ≡ action_in edition F u f
  moved_action edition (Stopped fault) = refl
  moved_action edition Blocked = refl
  moved_action edition (Wrong fault) = action_planned edition
  moved_action edition (Good typed) = action_planned edition

-- ---- the actions of a build, by number

abbrev actions_by : Edition → List DirectoryOutcome → List Directory → List DirectoryOutcome → List Action
actions_by edition all ds fs = filter_map (λ (row : Directory × DirectoryOutcome). action_in edition all row.0 row.1) (zip ds fs)

-- the action of some number
pub record ActionAt (edition : Edition) (all : List DirectoryOutcome) (ds : List Directory) (fs : List DirectoryOutcome) (a : Action) : Type 0 where
  pub number : ℕ
  pub directory : Directory
  pub fate : DirectoryOutcome
  pub at : slice_get ds number ≡ Some directory
  pub its : slice_get fs number ≡ Some fate
  pub is : action_in edition all directory fate ≡ Some a

into_step : (o : Option Action) (rest : List Action) (a : Action) → o ≡ Some a → Contains (cons_option o rest) a
into_step None rest a e = cc (e)
into_step (Some b) rest a e = at_head rest b a (some_same b a e)

into_rest : (o : Option Action) (rest : List Action) (a : Action) → Contains rest a → Contains (cons_option o rest) a
into_rest None rest a c = c
into_rest (Some b) rest a c = later b rest a c

pub into_actions : (edition : Edition) (all : List DirectoryOutcome) (ds : List Directory) (fs : List DirectoryOutcome) (k : ℕ) (d : Directory) (f : DirectoryOutcome) (a : Action) → slice_get ds k ≡ Some d → slice_get fs k ≡ Some f → action_in edition all d f ≡ Some a → Contains (actions_by edition all ds fs) a
into_actions edition all [] fs k d f a at its is = cc (at)
into_actions edition all (x ∷ ds) [] k d f a at its is = cc (its)
into_actions edition all (x ∷ ds) (y ∷ fs) zero d f a at its is =
    into_step (action_in edition all x y) (actions_by edition all ds fs) a (ap (λ (z : Directory). action_in edition all z y) (some_same x d at) ∙ ap (action_in edition all d) (some_same y f its) ∙ is)
into_actions edition all (x ∷ ds) (y ∷ fs) (suc k) d f a at its is =
    into_rest (action_in edition all x y) (actions_by edition all ds fs) a (into_actions edition all ds fs k d f a at its is)

from_step : (o : Option Action) (rest : List Action) (a : Action) → Contains (cons_option o rest) a → (o ≡ Some a) ⊎ Contains rest a
from_step None rest a c = inr c
from_step (Some b) rest a c = elim (head_or_later b rest a c) [
  | inl e ↦ inl (ap Some e)
  | inr l ↦ inr l
]

pub from_actions : (edition : Edition) (all : List DirectoryOutcome) (ds : List Directory) (fs : List DirectoryOutcome) (a : Action) → Contains (actions_by edition all ds fs) a → ActionAt edition all ds fs a
from_actions edition all [] fs a c = absurd (none_in_empty a c)
from_actions edition all (x ∷ ds) [] a c = absurd (none_in_empty a c)
from_actions edition all (x ∷ ds) (y ∷ fs) a c = elim (from_step (action_in edition all x y) (actions_by edition all ds fs) a c) [
  | inl e ↦ record { number = 0; directory = x; fate = y; at = refl; its = refl; is = e }
  | inr l ↦ (let r = from_actions edition all ds fs a l in record { number = suc r.number; directory = r.directory; fate = r.fate; at = r.at; its = r.its; is = r.is })
]

-- ---- the rows of a report, by number

abbrev Row : Type 0
Row = List ℕ × DirectoryVerdict

abbrev row_by : Directory × DirectoryOutcome → Row
row_by row = (row.0.path, verdict_of_outcome row.1)

row_at : (ds : List Directory) (fs : List DirectoryOutcome) (k : ℕ) (d : Directory) (f : DirectoryOutcome) → slice_get ds k ≡ Some d → slice_get fs k ≡ Some f → slice_get (map row_by (zip ds fs)) k ≡ Some (d.path, verdict_of_outcome f)
row_at [] fs k d f at its = cc (at)
row_at (x ∷ ds) [] k d f at its = cc (its)
row_at (x ∷ ds) (y ∷ fs) zero d f at its =
    ap (λ (z : Directory). let row : Row = (z.path, verdict_of_outcome y) in Some row) (some_same x d at) ∙ ap (λ z. let row : Row = (d.path, verdict_of_outcome z) in Some row) (some_same y f its)
row_at (x ∷ ds) (y ∷ fs) (suc k) d f at its = row_at ds fs k d f at its

picked_rows : (rs : List Row) (g : ℕ → List ℕ) (h : List ℕ → Row) (ns : List ℕ) → ((k : ℕ) → Contains ns k → slice_get rs k ≡ Some (h (g k))) → filter_map (slice_get rs) ns ≡ map h (map g ns)
picked_rows rs g h [] e = refl
picked_rows rs g h (n ∷ ns) e =
    ap (λ o. cons_option o (filter_map (slice_get rs) ns)) (e n (at_head ns n n refl)) ∙ ap (λ zs. h (g n) ∷ zs) (picked_rows rs g h ns (λ k c. e k (later n ns k c)))

-- ---- a target's own build

module _ (edition : Edition) (sources : Sources) (targets : List (List ℕ)) (us : List Directory) (fs : List DirectoryOutcome) (joint : IsJointPlan edition sources targets us) (are : AreDirectoryOutcomes us fs) (target : List ℕ) (among : Contains targets target) (ds : List Directory) (plan : IsBuildPlan edition sources target ds) where
  abbrev fate_by : List ℕ → DirectoryOutcome
  fate_by = look us fs

  abbrev pub own_fates : List DirectoryOutcome
  own_fates = map (λ (d : Directory). fate_by d.path) ds

  abbrev pub own_build : TargetBuild
  own_build = record { directories = ds; fates = own_fates }

  abbrev here : IsWhole edition sources ds
  here = whole_plan edition sources target ds plan

  abbrev there : IsWhole edition sources us
  there = whole_joint edition sources targets us joint

  -- a number's fate is that of its path
  own_fate_at : (k : ℕ) (q : List ℕ) → slice_get (paths_of ds) k ≡ Some q → outcome_at own_fates k ≡ fate_by (at_path (paths_of ds) k)
  own_fate_at k q at =
      let x = map_left (λ (d : Directory). d.path) ds k q at in
      fate_map (λ (d : Directory). fate_by d.path) ds k x.0 x.1 ∙ ap fate_by (sym x.2 ∙ sym (at_some (paths_of ds) k q at))

  joint_fate_at : (k : ℕ) (q : List ℕ) → slice_get (paths_of us) k ≡ Some q → outcome_at fs k ≡ fate_by (at_path (paths_of us) k)
  joint_fate_at k q at =
      let x = map_left (λ (d : Directory). d.path) us k q at in
      let f = fate_of fs us fs are k x.0 x.1 in
      at_fate fs k f.fate f.at ∙ sym (look_at us fs joint.ascending k x.0 f.fate x.1 f.at) ∙ ap fate_by (sym x.2 ∙ sym (at_some (paths_of us) k q at))

  -- the same directory in the joint plan
  record Twin (d : Directory) (number : ℕ) (twin : Directory) : Type 0 where
    fate : DirectoryOutcome
    at : slice_get us number ≡ Some twin
    its : slice_get fs number ≡ Some fate
    path : d.path ≡ twin.path
    planned : d.planned ≡ twin.planned
    imports : map (outcome_at fs) twin.imports ≡ map (outcome_at own_fates) d.imports
    looked : fate_by d.path ≡ fate
    is : IsDirectoryOutcome fs twin fate

  twin_at : (d : Directory) → Contains ds d → (n : ℕ) (u : Directory) → slice_get us n ≡ Some u → d.path ≡ u.path → Twin d n u
  twin_at d c n u at path =
      let f = fate_of fs us fs are n u at in
      let in_us = get_contains us n u at in
      record {
        fate = f.fate;
        at = at;
        its = f.at;
        path = path;
        planned = planned_once edition sources u.path d.planned u.planned (subst (λ p. IsPlannedAs edition sources p d.planned) path (plan.planned d c)) (joint.planned u in_us);
        imports =
            map_through (outcome_at fs) (at_path (paths_of us)) fate_by u.imports (λ k ck. let q = ((joint.imports u in_us).are k).0 ck in joint_fate_at k q.0 q.1)
            ∙ ap (map fate_by) (same_paths edition sources us ds there here u d in_us c (sym path))
            ∙ sym (map_through (outcome_at own_fates) (at_path (paths_of ds)) fate_by d.imports (λ k ck. let q = ((plan.imports d c).are k).0 ck in own_fate_at k q.0 q.1));
        looked = ap fate_by path ∙ look_at us fs joint.ascending n u f.fate at f.at;
        is = f.is;
      }

  twin_of : (d : Directory) → Contains ds d → (n : ℕ) × (u : Directory) × Twin d n u
  twin_of d c =
      let way = (plan.reached d.path).0 (into_map (λ (x : Directory). x.path) ds d c) in
      let n = member_at (paths_of us) d.path ((joint.reached d.path).1 (target, among, way)) in
      let u = map_left (λ (x : Directory). x.path) us n.0 d.path n.1 in
      (n.0, u.0, twin_at d c n.0 u.0 u.1 u.2)

  pub own_fated : AreDirectoryOutcomes ds own_fates
  own_fated = zip_map (IsDirectoryOutcome own_fates) (λ (d : Directory). fate_by d.path) ds (λ d c.
      let t = twin_of d c in
      let w = t.2 in
      subst (IsDirectoryOutcome own_fates d) (sym w.looked) (moved_fate fs own_fates t.1 d w.path w.planned w.imports w.fate w.is))

  -- its actions are among the joint plan's
  pub own_into : (a : Action) → Contains (actions_of edition own_build) a → Contains (actions_of edition (record { directories = us; fates = fs })) a
  own_into a c =
      let x = from_actions edition own_fates ds own_fates a c in
      let t = twin_of x.directory (get_contains ds x.number x.directory x.at) in
      let w = t.2 in
      let fate : x.fate ≡ w.fate = some_same x.fate w.fate (sym x.its ∙ map_right (λ (d : Directory). fate_by d.path) ds x.number x.directory x.at ∙ ap Some w.looked) in
      into_actions edition fs us fs t.0 t.1 w.fate a w.at w.its
      (sym (moved_action fs own_fates t.1 x.directory w.path w.planned w.imports edition w.fate) ∙ ap (action_in edition own_fates x.directory) (sym fate) ∙ x.is)

  -- and those of what it reaches are its own
  pub own_back : (n : ℕ) (u : Directory) (f : DirectoryOutcome) (a : Action) → slice_get us n ≡ Some u → slice_get fs n ≡ Some f → ReachesByImports edition sources target u.path → action_in edition fs u f ≡ Some a → Contains (actions_of edition own_build) a
  own_back n u f a at its way is =
      let m = member_at (paths_of ds) u.path ((plan.reached u.path).1 way) in
      let d = map_left (λ (x : Directory). x.path) ds m.0 u.path m.1 in
      let w = twin_at d.0 (get_contains ds m.0 d.0 d.1) n u at (sym d.2) in
      let fate : f ≡ w.fate = some_same f w.fate (sym its ∙ w.its) in
      into_actions edition own_fates ds own_fates m.0 d.0 w.fate a d.1 (map_right (λ (x : Directory). fate_by x.path) ds m.0 d.0 d.1 ∙ ap Some w.looked)
      (moved_action fs own_fates u d.0 w.path w.planned w.imports edition w.fate ∙ ap (action_in edition fs u) (sym fate) ∙ is)

  own_rows : (xs : List Directory) → map (λ p. let row : Row = (p, verdict_of_outcome (fate_by p)) in row) (paths_of xs) ≡ map row_by (zip xs (map (λ (d : Directory). fate_by d.path) xs))
  own_rows [] = refl
  own_rows (x ∷ xs) = ap (λ zs. let row : Row = (x.path, verdict_of_outcome (fate_by x.path)) in row ∷ zs) (own_rows xs)

  -- its report has the rows of its part
  pub own_report : (ns : List ℕ) → IsPart edition sources (paths_of us) target ns → filter_map (slice_get (report_of (record { directories = us; fates = fs }))) ns ≡ report_of own_build
  own_report ns part =
      picked_rows (map row_by (zip us fs)) (at_path (paths_of us)) (λ p. let row : Row = (p, verdict_of_outcome (fate_by p)) in row) ns (λ k c.
      let q = (part.are k).0 c in
      let u = map_left (λ (x : Directory). x.path) us k q.0 q.1 in
      let f = fate_of fs us fs are k u.0 u.1 in
      let path : u.0.path ≡ at_path (paths_of us) k = sym u.2 ∙ sym (at_some (paths_of us) k q.0 q.1) in
      let fate : f.fate ≡ fate_by u.0.path = sym (look_at us fs joint.ascending k u.0 f.fate u.1 f.at) in
      row_at us fs k u.0 f.fate u.1 f.at ∙ ap (λ z. let row : Row = (u.0.path, verdict_of_outcome z) in Some row) fate ∙ ap (λ z. let row : Row = (z, verdict_of_outcome (fate_by z)) in Some row) path)
      ∙ ap (map (λ p. let row : Row = (p, verdict_of_outcome (fate_by p)) in row)) (own_paths edition sources targets us ds target joint among plan ns part)
      ∙ own_rows ds
