-- How jobs stand on a board of a target's directories that nobody works at.
use Rattle.std.proofs.Common.{◌≡◌, ℕ, zero, suc, ◌+◌, ◌<◌, Bool, true, List, [], ◌∷◌, ◌++◌, length, map, Option, None, Some, refl, sym, ap, subst, ◌∙◌, arith}
use Rattle.std.specs.List.{Contains, slice_get}
use Rattle.std.specs.FinMap.{FinMap}
use Rattle.go_text.specs.declared.edition.Edition.{Edition}
use Rattle.go_typed.specs.Trees.{Package}
use Rattle.go_export.specs.Summaries.{summary_of}
use Rattle.ws_version.specs.Writes.{Write}
use Rattle.ws_register.specs.Sources.{HasFiles}
use Rattle.ws_action.specs.Actions.{Action}
use Rattle.ws_action.specs.Clash.{NoClash, AllSized, hashed_actions}
use Rattle.ws_board.specs.declared.work.JobStatus.{JobStatus}
use Rattle.ws_board.specs.declared.work.JobStatus.TheVariants.{Waiting, Ready, Running, Blocked as Stays, Done}
use Rattle.ws_board.specs.Machine.{is_good_result, status_at, action_at}
use Rattle.ws_board.specs.Work.{Job, Seen, Opening}
use Rattle.ws_board.specs.Ends.{End, summary_in, end_at, AreEnds, end_results, job_imports_at, IsRanked, AreClear, IsEndOfJob}
use Rattle.ws_board.specs.Ends as ends
use Rattle.ws_cache.specs.Compiles.{Compiled}
use Rattle.ws_cache.specs.Compiles as compiled
use Rattle.ws_cache.specs.Held.{id_cmp, CacheStandsFor}
use Rattle.ws_graph.specs.BuildPlan.{Directory, IsBuildPlanOf, AreRanks}
use Rattle.ws_graph.proofs.RankedPlan.{ranked_build_plan}
use Rattle.ws_replica.specs.Jobs.{reached_by, job_after}
use Rattle.ws_replica.specs.Stopped.{IsOpened}
use Rattle.ws_replica.specs.Reports.{DirectoryOutcome, Good, outcome_at, AreDirectoryOutcomes, TargetBuild, actions_of}
use Rattle.ws_replica.proofs.EndFates.{ends_by, end_of, came_are, are_ends, jobs_ranked, summary_at, summaries_at, good_by}
use Rattle.ws_replica.proofs.Numbered.{some_same}
use Rattle.ws_replica.proofs.PlanMakes.{plan_makes}
use Rattle.ws_replica.proofs.SeveralPlans.{after_ranked, ranked_whole}
use Rattle.ws_replica.proofs.TargetPieces.{plan_inside}

-- what stands at a directory's number
pub end_here : (edition : Edition) (all : List DirectoryOutcome) (ds : List Directory) (fs : List DirectoryOutcome) (k : ℕ) (d : Directory) (f : DirectoryOutcome) → slice_get ds k ≡ Some d → slice_get fs k ≡ Some f → end_at (ends_by edition all ds fs) k ≡ end_of edition all d f
end_here edition all [] fs k d f at its = cc (at)
end_here edition all (x ∷ ds) [] k d f at its = cc (its)
end_here edition all (x ∷ ds) (y ∷ fs) zero d f at its =
    ap (λ (z : Directory). end_of edition all z y) (some_same x d at) ∙ ap (end_of edition all d) (some_same y f its)
end_here edition all (x ∷ ds) (y ∷ fs) (suc k) d f at its = end_here edition all ds fs k d f at its

pub imports_here : (edition : Edition) (n : ℕ) (ds : List Directory) (k : ℕ) (d : Directory) → slice_get ds k ≡ Some d → job_imports_at (map (job_after n) (map (reached_by edition) ds)) k ≡ map (λ j. n + j) d.imports
imports_here edition n [] k d at = cc (at)
imports_here edition n (x ∷ ds) zero d at = ap (λ (z : Directory). map (λ j. n + j) z.imports) (some_same x d at)
imports_here edition n (x ∷ ds) (suc k) d at = imports_here edition n ds k d at

abbrev pub jobs_by : Edition → List Directory → List Job
jobs_by edition ds = map (job_after 0) (map (reached_by edition) ds)

-- a good end is a good fate's
pub good_end : (edition : Edition) (ds : List Directory) (fates : List DirectoryOutcome) → AreDirectoryOutcomes ds fates → (k : ℕ) (a : Action) (r : Compiled) → end_at (ends_by edition fates ds fates) k ≡ ends.Came a r → is_good_result r ≡ true → (p : Package) × (outcome_at fates k ≡ Good p)
good_end edition ds fates are k a (compiled.Good s o) e good =
    let its = good_by (outcome_at fates k) s (sym (summaries_at edition fates ds fates are k) ∙ ap summary_in e) in
    (its.0, its.1)
good_end edition ds fates are k a (compiled.Faulty f) e good = cc (good)

-- and the other way round
pub good_result : (edition : Edition) (ds : List Directory) (fates : List DirectoryOutcome) → AreDirectoryOutcomes ds fates → (k : ℕ) (p : Package) → outcome_at fates k ≡ Good p → (a : Action) (r : Compiled) → end_at (ends_by edition fates ds fates) k ≡ ends.Came a r → is_good_result r ≡ true
good_result edition ds fates are k p good a (compiled.Good s o) e = refl
good_result edition ds fates are k p good a (compiled.Faulty f) e =
    let none : None ≡ Some (summary_of p) = sym (ap summary_in e) ∙ summaries_at edition fates ds fates are k ∙ ap summary_at good in
    cc (none)

module _ (edition : Edition) (W : List Write) (paths : HasFiles W) (target : List ℕ) (build : TargetBuild) (of : IsBuildPlanOf edition W target build.directories) (are : AreDirectoryOutcomes build.directories build.fates) (E : List Action) (sized : AllSized E)
    (clear : NoClash (hashed_actions (E ++ actions_of edition build))) (cache : FinMap id_cmp Action) (stands : CacheStandsFor cache E) (seen : Seen) (opened : IsOpened (map (reached_by edition) build.directories) cache seen) where
  abbrev ds : List Directory
  ds = build.directories

  abbrev fates : List DirectoryOutcome
  fates = build.fates

  abbrev whole : List End
  whole = ends_by edition fates ds fates

  abbrev statuses : List JobStatus
  statuses = seen.state.standings.statuses

  abbrev actions : List (Option Action)
  actions = seen.state.standings.actions

  jobs_are : seen.opening.jobs ≡ jobs_by edition ds
  jobs_are = ap (λ (o : Opening). o.jobs) opened.opening

  cache_is : seen.opening.cache ≡ cache
  cache_is = ap (λ (o : Opening). o.cache) opened.opening

  same_end : (k : ℕ) → k < length ds → end_at whole (0 + k) ≡ end_at whole k
  same_end k lt = ap (end_at whole) (let z : 0 + k ≡ k = omega arith in z)

  its_ends : AreEnds (jobs_by edition ds) whole
  its_ends = are_ends edition ds fates are whole 0 same_end ds fates (λ d c. (plan_inside edition W target ds of d c, plan_makes edition W paths target ds fates of are d c)) are

  its_clear : AreClear E (end_results whole)
  its_clear = record { sized = sized; clear = subst (λ (F : List Action). NoClash (hashed_actions (E ++ F))) (sym (came_are edition fates ds fates)) clear }

  ranks : (rank : ℕ → ℕ) × AreRanks ds rank
  ranks = ranked_build_plan edition W target ds of

  its_ranks : IsRanked ranks.0 (jobs_by edition ds)
  its_ranks = ranked_whole ranks.0 (jobs_by edition ds) (after_ranked 0 (map (reached_by edition) ds) ranks.0 (jobs_ranked edition ds ranks.0 ranks.1))

  shown_by : (k : ℕ) → IsEndOfJob E statuses (job_imports_at seen.opening.jobs k) (end_at whole k) (status_at statuses k) (action_at actions k)
  shown_by = opened.shows E ranks.0 whole (subst (λ (m : FinMap id_cmp Action). CacheStandsFor m E) (sym cache_is) stands) (subst (IsRanked ranks.0) (sym jobs_are) its_ranks)
      (subst (λ js. AreEnds js whole) (sym jobs_are) its_ends) its_clear

  -- how the job of a directory stands
  pub shown : (k : ℕ) (d : Directory) (f : DirectoryOutcome) → slice_get ds k ≡ Some d → slice_get fates k ≡ Some f → IsEndOfJob E statuses (map (λ j. 0 + j) d.imports) (end_of edition fates d f) (status_at statuses k) (action_at actions k)
  shown k d f at its =
      subst (λ ks. IsEndOfJob E statuses ks (end_of edition fates d f) (status_at statuses k) (action_at actions k)) (ap (λ js. job_imports_at js k) jobs_are ∙ imports_here edition 0 ds k d at)
      (subst (λ e. IsEndOfJob E statuses (job_imports_at seen.opening.jobs k) e (status_at statuses k) (action_at actions k)) (end_here edition fates ds fates k d f at its) (shown_by k))

  -- a job that is done and good is a good directory's, whose action is held
  pub record IsDone (k : ℕ) : Type 0 where
    pub typed : Package
    pub good : outcome_at fates k ≡ Good typed
    pub its : Action
    pub has : action_at actions k ≡ Some its
    pub status : status_at statuses k ≡ Done true
    pub held : Contains E its

  done_by : (k : ℕ) (s : JobStatus) (a : Option Action) → status_at statuses k ≡ s → action_at actions k ≡ a → IsEndOfJob E statuses (job_imports_at seen.opening.jobs k) (end_at whole k) s a → s ≡ Done true → IsDone k
  done_by k Waiting a same also h e = cc (e)
  done_by k Stays a same also h e = cc (e)
  done_by k (Running hand) a same also h e = absurd h
  done_by k Ready a same also h e = cc (e)
  done_by k (Done good) a same also h e =
      let on : good ≡ true = cc (e) in
      let w = h.1 in
      let fate = good_end edition ds fates are k w.0 w.1 w.3 (sym w.5 ∙ on) in
      record { typed = fate.0; good = fate.1; its = w.0; has = also ∙ w.2; status = same ∙ e; held = w.4 }

  pub is_done : (k : ℕ) → status_at statuses k ≡ Done true → IsDone k
  is_done k e = done_by k (status_at statuses k) (action_at actions k) refl refl (shown_by k) e

  -- a good directory's job that is done is good
  done_good_by : (k : ℕ) (p : Package) → outcome_at fates k ≡ Good p → (s : JobStatus) (a : Option Action) (good : Bool) → s ≡ Done good → IsEndOfJob E statuses (job_imports_at seen.opening.jobs k) (end_at whole k) s a → s ≡ Done true
  done_good_by k p fate Waiting a good e h = cc (e)
  done_good_by k p fate Stays a good e h = cc (e)
  done_good_by k p fate (Running hand) a good e h = absurd h
  done_good_by k p fate Ready a good e h = cc (e)
  done_good_by k p fate (Done its) a good e h =
      let w = h.1 in
      ap Done (w.5 ∙ good_result edition ds fates are k p fate w.0 w.1 w.3)

  pub done_good : (k : ℕ) (p : Package) (good : Bool) → outcome_at fates k ≡ Good p → status_at statuses k ≡ Done good → status_at statuses k ≡ Done true
  done_good k p good fate e = done_good_by k p fate (status_at statuses k) (action_at actions k) good e (shown_by k)
