-- The ends of a plan's jobs, by the fates of its directories.
use Rattle.std.proofs.Common.{◌≡◌, ℕ, zero, suc, ◌+◌, ◌<◌, List, [], ◌∷◌, ◌++◌, length, map, Option, None, Some, refl, sym, ap, subst, ◌∙◌, arith}
use Rattle.std.specs.List.{AllZip, Contains, cons_option, filter_map, slice_get, zip}
use Rattle.go_text.specs.declared.edition.Edition.{Edition}
use Rattle.go_text.specs.Faults.{Fault}
use Rattle.go_ast.specs.Parse.{Parsed}
use Rattle.go_typed.specs.Trees.{Package}
use Rattle.go_gen.specs.Translation.{object_of}
use Rattle.go_check.proofs.BySummaries.{seen_same}
use Rattle.go_export.specs.Summaries.{Summary, summary_of}
use Rattle.ws_action.specs.Actions.{Action, MakeAction, action_of}
use Rattle.ws_action.proofs.Members.{at_head, later}
use Rattle.ws_board.specs.Work.{Work, Job}
use Rattle.ws_board.specs.Ends.{End, summary_in, end_at, HasAction, IsEnd, end_result, end_results, somes, work_at, job_imports_at, IsRanked}
use Rattle.ws_board.specs.Ends as ends
use Rattle.ws_cache.specs.Compiles.{Compiled, Compiles, AreGood, AreFaulty}
use Rattle.ws_cache.specs.Compiles as compiled
use Rattle.ws_cache.proofs.Outcomes.{one_outcome}
use Rattle.ws_graph.specs.Plan.{Planned, NoFiles, Faulty, Sound}
use Rattle.ws_graph.specs.BuildPlan.{Directory, AreRanks}
use Rattle.ws_report.specs.Reports.{DirectoryVerdict}
use Rattle.ws_replica.specs.Reports.{DirectoryOutcome, Stopped, Blocked, Wrong, Good, outcome_at, ArePackages, IsReady, IsDirectoryOutcome, AreDirectoryOutcomes, verdict_of_outcome, packages_in, action_by, action_in}
use Rattle.ws_replica.specs.Jobs.{Place, fault_in, verdict_of, planned_fault, work_of, reached_by, job_after, IsVerdictOfAction, IsVerdictOfJob, AreVerdicts}
use Rattle.ws_replica.proofs.Numbered.{some_same}
use Rattle.ws_replica.proofs.SeveralPlans.{job_of}

-- ---- ends

abbrev pub end_in : Option Action → DirectoryOutcome → End
end_in None fate = ends.Blocked
end_in (Some a) (Stopped fault) = ends.Blocked
end_in (Some a) Blocked = ends.Blocked
end_in (Some a) (Wrong fault) = ends.Came a (compiled.Faulty fault)
end_in (Some a) (Good p) = ends.Came a (compiled.Good (summary_of p) (object_of p))

-- the end of the job of a directory with this fate
abbrev pub end_of : Edition → List DirectoryOutcome → Directory → DirectoryOutcome → End
end_of edition fates d fate = end_in (action_in edition fates d fate) fate

abbrev pub ends_by : Edition → List DirectoryOutcome → List Directory → List DirectoryOutcome → List End
ends_by edition fates [] others = []
ends_by edition fates (d ∷ ds) [] = []
ends_by edition fates (d ∷ ds) (f ∷ others) = end_of edition fates d f ∷ ends_by edition fates ds others

abbrev pub package_of : DirectoryOutcome → Option Package
package_of (Stopped fault) = None
package_of Blocked = None
package_of (Wrong fault) = None
package_of (Good p) = Some p

abbrev pub summary_at : DirectoryOutcome → Option Summary
summary_at (Stopped fault) = None
summary_at Blocked = None
summary_at (Wrong fault) = None
summary_at (Good p) = Some (summary_of p)

-- an action that came is the directory's
came_in : (a : Option Action) (f : DirectoryOutcome) → ((fault : Fault) → f ≡ Stopped fault → a ≡ None) → (f ≡ Blocked → a ≡ None) → end_result (end_in a f) ≡ a
came_in None f g h = refl
came_in (Some a) (Stopped fault) g h = sym (g fault refl)
came_in (Some a) Blocked g h = sym (h refl)
came_in (Some a) (Wrong fault) g h = refl
came_in (Some a) (Good p) g h = refl

pub came_here : (edition : Edition) (fates : List DirectoryOutcome) (d : Directory) (f : DirectoryOutcome) → end_result (end_of edition fates d f) ≡ action_in edition fates d f
came_here edition fates d (Stopped fault) = refl
came_here edition fates d Blocked = refl
came_here edition fates d (Wrong fault) = came_in (action_by edition fates d d.planned) (Wrong fault) (λ x e. cc (e)) (λ e. cc (e))
came_here edition fates d (Good p) = came_in (action_by edition fates d d.planned) (Good p) (λ x e. cc (e)) (λ e. cc (e))

somes_next : (a b : Option Action) (xs : List (Option Action)) (ys : List Action) → a ≡ b → somes xs ≡ ys → somes (a ∷ xs) ≡ somes (b ∷ []) ++ ys
somes_next a None xs ys e h = ap (λ o. somes (o ∷ xs)) e ∙ h
somes_next a (Some x) xs ys e h = ap (λ o. somes (o ∷ xs)) e ∙ ap (λ zs. x ∷ zs) h

kept_next : {X : Type 0} (h : X → Option Action) (x : X) (xs : List X) (b : Option Action) → h x ≡ b → filter_map h (x ∷ xs) ≡ somes (b ∷ []) ++ filter_map h xs
kept_next h x xs None e = ap (λ o. cons_option o (filter_map h xs)) e
kept_next h x xs (Some b) e = ap (λ o. cons_option o (filter_map h xs)) e

-- what came is what was compiled
pub came_are : (edition : Edition) (fates : List DirectoryOutcome) (ds : List Directory) (fs : List DirectoryOutcome) → end_results (ends_by edition fates ds fs) ≡ filter_map (λ (row : Directory × DirectoryOutcome). action_in edition fates row.0 row.1) (zip ds fs)
came_are edition fates [] fs = refl
came_are edition fates (d ∷ ds) [] = refl
came_are edition fates (d ∷ ds) (f ∷ fs) =
    somes_next (end_result (end_of edition fates d f)) (action_in edition fates d f) (map end_result (ends_by edition fates ds fs)) (filter_map (λ (row : Directory × DirectoryOutcome). action_in edition fates row.0 row.1) (zip ds fs)) (came_here edition fates d f) (came_are edition fates ds fs)
    ∙ sym (kept_next (λ (row : Directory × DirectoryOutcome). action_in edition fates row.0 row.1) (d, f) (zip ds fs) (action_in edition fates d f) refl)

-- ---- imports

imported_are : (fates : List DirectoryOutcome) (ks : List ℕ) (ps : List Package) → ArePackages fates ks ps → packages_in (map (outcome_at fates) ks) ≡ ps
imported_are fates [] [] h = refl
imported_are fates [] (p ∷ ps) h = absurd h
imported_are fates (k ∷ ks) [] h = absurd h
imported_are fates (k ∷ ks) (p ∷ ps) h =
    ap (λ f. packages_in (f ∷ map (outcome_at fates) ks)) h.0 ∙ ap (λ xs. p ∷ xs) (imported_are fates ks ps h.1)

-- the action of a directory whose imports are these
pub action_is : (edition : Edition) (fates : List DirectoryOutcome) (d : Directory) (files : List Parsed) (ps : List Package) → IsReady fates d files ps → action_by edition fates d d.planned ≡ Some (action_of edition d.path files (map summary_of ps))
action_is edition fates d files ps ready =
    ap (action_by edition fates d) ready.sound ∙ ap (λ xs. Some (action_of edition d.path files (map summary_of xs))) (imported_are fates d.imports ps ready.good)

summary_here : (edition : Edition) (fates : List DirectoryOutcome) (d : Directory) (f : DirectoryOutcome) → IsDirectoryOutcome fates d f → summary_in (end_of edition fates d f) ≡ summary_at f
summary_here edition fates d (Stopped fault) h = refl
summary_here edition fates d Blocked h = refl
summary_here edition fates d (Wrong fault) h = ap (λ a. summary_in (end_in a (Wrong fault))) (action_is edition fates d h.0 h.1 h.2)
summary_here edition fates d (Good p) h = ap (λ a. summary_in (end_in a (Good p))) (action_is edition fates d h.0 h.1 h.2)

pub summaries_at : (edition : Edition) (all : List DirectoryOutcome) (ds : List Directory) (fs : List DirectoryOutcome) → AllZip (IsDirectoryOutcome all) ds fs → (k : ℕ) → summary_in (end_at (ends_by edition all ds fs) k) ≡ summary_at (outcome_at fs k)
summaries_at edition all [] [] h k = refl
summaries_at edition all [] (f ∷ fs) h k = absurd h
summaries_at edition all (d ∷ ds) [] h k = absurd h
summaries_at edition all (d ∷ ds) (f ∷ fs) h zero = summary_here edition all d f h.0
summaries_at edition all (d ∷ ds) (f ∷ fs) h (suc k) = summaries_at edition all ds fs h.1 k

-- the fate of an import that has a summary is good
pub good_by : (f : DirectoryOutcome) (s : Summary) → summary_at f ≡ Some s → (p : Package) × (f ≡ Good p) × (s ≡ summary_of p)
good_by (Stopped fault) s e = cc
good_by Blocked s e = cc
good_by (Wrong fault) s e = cc
good_by (Good p) s e = (p, refl, sym (some_same (summary_of p) s e))

-- ---- the ends of a plan's jobs, among those of others, behind n of them

module _ (edition : Edition) (ds : List Directory) (fates : List DirectoryOutcome) (are : AreDirectoryOutcomes ds fates) (whole : List End) (n : ℕ)
    (within : (k : ℕ) → k < length ds → end_at whole (n + k) ≡ end_at (ends_by edition fates ds fates) k) where
  abbrev Inside : Directory → Type 0
  Inside d = (k : ℕ) → Contains d.imports k → k < length ds

  abbrev Have : List ℕ → List Summary → Type 0
  Have ks ss = AllZip (λ k summary. summary_in (end_at whole k) ≡ Some summary) ks ss

  has_here : (k : ℕ) → k < length ds → summary_in (end_at whole (n + k)) ≡ summary_at (outcome_at fates k)
  has_here k lt = ap summary_in (within k lt) ∙ summaries_at edition fates ds fates are k

  pub have_all : (ks : List ℕ) → ((k : ℕ) → Contains ks k → k < length ds) → (ps : List Package) → ArePackages fates ks ps → Have (map (λ k. n + k) ks) (map summary_of ps)
  have_all [] inside [] h = tt
  have_all [] inside (p ∷ ps) h = absurd h
  have_all (k ∷ ks) inside [] h = absurd h
  have_all (k ∷ ks) inside (p ∷ ps) h =
      (has_here k (inside k (at_head ks k k refl)) ∙ ap summary_at h.0, have_all ks (λ j c. inside j (later k ks j c)) ps h.1)

  pub all_had : (ks : List ℕ) → ((k : ℕ) → Contains ks k → k < length ds) → (ss : List Summary) → Have (map (λ k. n + k) ks) ss → (ps : List Package) × ArePackages fates ks ps × (ss ≡ map summary_of ps)
  all_had [] inside [] h = ([], tt, refl)
  all_had [] inside (s ∷ ss) h = absurd h
  all_had (k ∷ ks) inside [] h = absurd h
  all_had (k ∷ ks) inside (s ∷ ss) h =
      let here = good_by (outcome_at fates k) s (sym (has_here k (inside k (at_head ks k k refl))) ∙ h.0) in
      let rest = all_had ks (λ j c. inside j (later k ks j c)) ss h.1 in
      (here.0 ∷ rest.0, (here.1, rest.1), ap (λ x. x ∷ ss) here.2 ∙ ap (λ xs. summary_of here.0 ∷ xs) rest.2)

  abbrev Makes : Directory → Type 0
  Makes d = (files : List Parsed) (ps : List Package) → IsReady fates d files ps → MakeAction edition files (map summary_of ps)

  abbrev work_by : Directory → List Parsed → Work
  work_by d files = record { edition = edition; path = d.path; files = files }

  abbrev job_by : Directory → Job
  job_by d = job_after n (reached_by edition d)

  has_action : (d : Directory) → Inside d → Makes d → (files : List Parsed) (ps : List Package) → IsReady fates d files ps → HasAction whole (job_by d) (action_of edition d.path files (map summary_of ps))
  has_action d inside makes files ps ready = record {
    work = work_by d files;
    its = ap (work_of edition d.path) ready.sound;
    summaries = map summary_of ps;
    have = have_all d.imports inside ps ready.good;
    make = makes files ps ready;
    is = refl;
  }

  no_work : (d : Directory) (fault : Fault) → d.planned ≡ Faulty fault → (a : Action) → ¬ (HasAction whole (job_by d) a)
  no_work d fault e a has = let none : None ≡ Some has.work = sym (ap (work_of edition d.path) e) ∙ has.its in cc (none)

  no_imports : (d : Directory) → Inside d → ((ps : List Package) → ¬ (ArePackages fates d.imports ps)) → (a : Action) → ¬ (HasAction whole (job_by d) a)
  no_imports d inside none a has = let had = all_had d.imports inside has.summaries has.have in none had.0 had.1

  is_end : (d : Directory) → Inside d → Makes d → (f : DirectoryOutcome) → IsDirectoryOutcome fates d f → IsEnd whole (job_by d) (end_of edition fates d f)
  unfolding has_action
  is_end d inside makes (Stopped fault) h = no_work d fault h
  is_end d inside makes Blocked h = no_imports d inside h.2
  is_end d inside makes (Wrong fault) h =
      subst (λ a. IsEnd whole (job_by d) (end_in a (Wrong fault))) (sym (action_is edition fates d h.0 h.1 h.2))
      (has_action d inside makes h.0 h.1 h.2, subst (λ is. AreFaulty d.path h.0 is fault) (sym (seen_same h.1)) h.3)
  is_end d inside makes (Good p) h =
      subst (λ a. IsEnd whole (job_by d) (end_in a (Good p))) (sym (action_is edition fates d h.0 h.1 h.2))
      (has_action d inside makes h.0 h.1 h.2, (p, subst (λ is. AreGood d.path h.0 is p) (sym (seen_same h.1)) h.3, refl, refl))

  pub are_ends : (xs : List Directory) (fs : List DirectoryOutcome) → ((d : Directory) → Contains xs d → Inside d × Makes d) → AllZip (IsDirectoryOutcome fates) xs fs → AllZip (IsEnd whole) (map (job_after n) (map (reached_by edition) xs)) (ends_by edition fates xs fs)
  are_ends [] [] each h = tt
  are_ends [] (f ∷ fs) each h = absurd h
  are_ends (d ∷ xs) [] each h = absurd h
  are_ends (d ∷ xs) (f ∷ fs) each h =
      let here = each d (at_head xs d d refl) in
      (is_end d here.0 here.1 f h.0, are_ends xs fs (λ x c. each x (later d xs x c)) h.1)

-- ---- what is told

told_wrong : (a : Action) (f : Fault) (verdict : DirectoryVerdict) → IsVerdictOfAction (Some a) verdict → Compiles a (compiled.Faulty f) → verdict ≡ verdict_of_outcome (Wrong f)
told_wrong a f verdict told its = told.2 ∙ ap (λ z. verdict_of (fault_in z)) (one_outcome a told.0 (compiled.Faulty f) told.1 its)

told_good : (a : Action) (p : Package) (verdict : DirectoryVerdict) → IsVerdictOfAction (Some a) verdict → Compiles a (compiled.Good (summary_of p) (object_of p)) → verdict ≡ verdict_of_outcome (Good p)
told_good a p verdict told its = told.2 ∙ ap (λ z. verdict_of (fault_in z)) (one_outcome a told.0 (compiled.Good (summary_of p) (object_of p)) told.1 its)

abbrev pub IsCompiled : End → Type 0
IsCompiled end = (a : Action) (r : Compiled) → end ≡ ends.Came a r → Compiles a r

told_here : (edition : Edition) (fates : List DirectoryOutcome) (d : Directory) (f : DirectoryOutcome) → IsDirectoryOutcome fates d f → (result : Option Action) → result ≡ end_result (end_of edition fates d f) → IsCompiled (end_of edition fates d f) → (verdict : DirectoryVerdict) → IsVerdictOfJob (planned_fault d.planned) result verdict → verdict ≡ verdict_of_outcome f
told_here edition fates d (Stopped fault) h result same its verdict told = subst (λ p. IsVerdictOfJob (planned_fault p) result verdict) h told
told_here edition fates d Blocked h result same its verdict told = subst (λ r. IsVerdictOfAction r verdict) same (subst (λ p. IsVerdictOfJob (planned_fault p) result verdict) h.1 told)
told_here edition fates d (Wrong fault) h result same its verdict told =
    let a = action_of edition d.path h.0 (map summary_of h.1) in
    let is : end_of edition fates d (Wrong fault) ≡ ends.Came a (compiled.Faulty fault) = ap (λ o. end_in o (Wrong fault)) (action_is edition fates d h.0 h.1 h.2) in
    let of : IsVerdictOfAction result verdict = subst (λ p. IsVerdictOfJob (planned_fault p) result verdict) (h.2).sound told in
    told_wrong a fault verdict (subst (λ r. IsVerdictOfAction r verdict) (same ∙ ap end_result is) of) (its a (compiled.Faulty fault) is)
told_here edition fates d (Good p) h result same its verdict told =
    let a = action_of edition d.path h.0 (map summary_of h.1) in
    let is : end_of edition fates d (Good p) ≡ ends.Came a (compiled.Good (summary_of p) (object_of p)) = ap (λ o. end_in o (Good p)) (action_is edition fates d h.0 h.1 h.2) in
    let of : IsVerdictOfAction result verdict = subst (λ p. IsVerdictOfJob (planned_fault p) result verdict) (h.2).sound told in
    told_good a p verdict (subst (λ r. IsVerdictOfAction r verdict) (same ∙ ap end_result is) of) (its a (compiled.Good (summary_of p) (object_of p)) is)

one_row : (r : List ℕ × DirectoryVerdict) (path : List ℕ) (verdict : DirectoryVerdict) → r.0 ≡ path → r.1 ≡ verdict → ◌≡◌ {A = List ℕ × DirectoryVerdict} r (path, verdict)
one_row r path verdict g h = ap (λ p. let z : List ℕ × DirectoryVerdict = (p, r.1) in z) g ∙ ap (λ v. let z : List ℕ × DirectoryVerdict = (path, v) in z) h

-- a directory's place
abbrev pub place_in : Directory → Place
place_in d = record { path = d.path; fault = planned_fault d.planned }

abbrev pub told_rows : List Directory → List DirectoryOutcome → List (List ℕ × DirectoryVerdict)
told_rows ds fs = map (λ (row : Directory × DirectoryOutcome). (row.0.path, verdict_of_outcome row.1)) (zip ds fs)

pub told_report : (edition : Edition) (fates : List DirectoryOutcome) (result : ℕ → Option Action) (k : ℕ) (ds : List Directory) (fs : List DirectoryOutcome) (rows : List (List ℕ × DirectoryVerdict)) → AllZip (IsDirectoryOutcome fates) ds fs
    → ((j : ℕ) → j < length ds → (result (k + j) ≡ end_result (end_at (ends_by edition fates ds fs) j)) × IsCompiled (end_at (ends_by edition fates ds fs) j)) → AreVerdicts result k (map place_in ds) rows → rows ≡ told_rows ds fs
told_report edition fates result k [] [] [] h same told = refl
told_report edition fates result k [] [] (row ∷ rows) h same told = absurd told
told_report edition fates result k [] (f ∷ fs) rows h same told = absurd h
told_report edition fates result k (d ∷ ds) [] rows h same told = absurd h
told_report edition fates result k (d ∷ ds) (f ∷ fs) [] h same told = absurd told
told_report edition fates result k (d ∷ ds) (f ∷ fs) (row ∷ rows) h same told =
    let first = same 0 (omega arith) in
    let here : result k ≡ end_result (end_of edition fates d f) = subst (λ m. result m ≡ end_result (end_of edition fates d f)) (let z : k + 0 ≡ k = omega arith in z) first.0 in
    let verdict : row.1 ≡ verdict_of_outcome f = told_here edition fates d f h.0 (result k) here first.1 row.1 told.1 in
    let rest = told_report edition fates result (suc k) ds fs rows h.1
    (λ j lt. (let it = same (suc j) (omega arith) in (subst (λ m. result m ≡ end_result (end_at (ends_by edition fates ds fs) j)) (let z : k + suc j ≡ suc k + j = omega arith in z) it.0, it.1))) told.2 in
    ap (λ z. z ∷ rows) (one_row row d.path (verdict_of_outcome f) told.0 verdict) ∙ ap (λ zs. (d.path, verdict_of_outcome f) ∷ zs) rest

-- ---- ranks

pub ends_length : (edition : Edition) (fates : List DirectoryOutcome) (ds : List Directory) (fs : List DirectoryOutcome) → AllZip (IsDirectoryOutcome fates) ds fs → length (ends_by edition fates ds fs) ≡ length ds
ends_length edition fates [] [] h = refl
ends_length edition fates [] (f ∷ fs) h = absurd h
ends_length edition fates (d ∷ ds) [] h = absurd h
ends_length edition fates (d ∷ ds) (f ∷ fs) h = ap suc (ends_length edition fates ds fs h.1)

sound_by : (edition : Edition) (d : Directory) (p : Planned) (w : Work) → d.planned ≡ p → work_of edition d.path p ≡ Some w → (files : List Parsed) × (d.planned ≡ Sound files)
sound_by edition d NoFiles w same f = cc (f)
sound_by edition d (Faulty fault) w same f = cc (f)
sound_by edition d (Sound files) w same f = (files, same)

-- the job of a number that has work is a sound directory's
job_at : (edition : Edition) (ds : List Directory) (k : ℕ) (w : Work) → work_at (map job_of (map (reached_by edition) ds)) k ≡ Some w
    → (d : Directory) × (slice_get ds k ≡ Some d) × ((files : List Parsed) × (d.planned ≡ Sound files)) × (job_imports_at (map job_of (map (reached_by edition) ds)) k ≡ d.imports)
job_at edition [] k w e = cc
job_at edition (d ∷ ds) zero w e = (d, refl, sound_by edition d d.planned w refl e, refl)
job_at edition (d ∷ ds) (suc k) w e = job_at edition ds k w e

pub jobs_ranked : (edition : Edition) (ds : List Directory) (rank : ℕ → ℕ) → AreRanks ds rank → IsRanked rank (map job_of (map (reached_by edition) ds))
jobs_ranked edition ds rank lower j k v w has among also =
    let at = job_at edition ds j v has in
    lower j k at.0 at.2.0 at.1 at.2.1 (subst (λ ks. Contains ks k) at.3 among)
