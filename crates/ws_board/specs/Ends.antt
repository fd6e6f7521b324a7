-- What becomes of jobs, from the jobs alone: no ids, no cache, no workers, no order.
use Rattle.std.specs.Prelude.{◌≡◌, ℕ, ◌<◌, true, List, [], ◌∷◌, ◌++◌, map, length, Option, Some, None}
use Rattle.std.specs.List.{All, AllZip, slice_get, slice_index_or, Contains, IsDistinct, count_by}
use Rattle.std.specs.Str.{bytes_eq}
use Rattle.std.specs.FinMap.{get}
use Rattle.ws_map.specs.Kept.{joined}
use Rattle.go_check.specs.Names.{importable_by}
use Rattle.go_export.specs.Summaries.{Summary}
use Rattle.ws_action.specs.Actions.{Action, MakeAction, IsSized, action_id}
use Rattle.ws_action.specs.Clash.{NoClash, AllSized, Includes, hashed_actions}
use Rattle.ws_cache.specs.Compiles.{Compiled, Compiles, Good, IsResult}
use Rattle.ws_cache.specs.Count.{compiled_count}
use Rattle.ws_cache.specs.Held.{CacheStandsFor}
use Rattle.ws_cache.specs.Joined.{lesser}
use Rattle.ws_board.specs.declared.work.JobStatus.{JobStatus}
use Rattle.ws_board.specs.declared.work.JobStatus.TheVariants.{Waiting, Ready, Running, Blocked as Stays, Done}
use Rattle.ws_board.specs.declared.work.Taken.{Taken}
use Rattle.ws_board.specs.declared.work.Taken.TheVariants as taken
use Rattle.ws_board.specs.Work.{Work, Job, Opening, JobStates, Seen, acted}
use Rattle.ws_board.specs.Machine.{is_good_result, status_at, action_at, is_finish}
use Rattle.ws_board.specs.Calls.{result_at}

-- a job is blocked, or its action came to what compiling it gives
pub data End : Type 0 where
  Blocked : End
  Came : Action → Compiled → End

-- the summary of a good package
abbrev pub summary_in : End → Option Summary
summary_in (Came action (Good summary object)) = Some summary
summary_in _ = None

-- where there is no job, that of one that is blocked
abbrev pub end_at : List End → ℕ → End
end_at ends k = slice_index_or ends k Blocked

-- Where the jobs end so, the job has this action: its imports are good, and its work makes it with their summaries.
pub record HasAction (ends : List End) (job : Job) (action : Action) : Type 0 where
  pub work : Work
  pub its : job.work ≡ Some work
  pub summaries : List Summary
  pub have : AllZip (λ k summary. summary_in (end_at ends k) ≡ Some summary) job.imports summaries
  pub make : MakeAction work.edition work.files summaries
  pub is : action ≡ acted work summaries

-- Where the jobs end so, this job ends so: it is blocked where it has no action, and else it comes to what its files come to by its imports' summaries.
abbrev pub IsEnd : List End → Job → End → Type 0
IsEnd ends job Blocked = (action : Action) → ¬ (HasAction ends job action)
IsEnd ends job (Came action result) = (has : HasAction ends job action) × IsResult has.work.path has.work.files (map importable_by has.summaries) result

abbrev pub AreEnds : List Job → List End → Type 0
AreEnds jobs ends = AllZip (IsEnd ends) jobs ends

abbrev pub end_result : End → Option Action
end_result Blocked = None
end_result (Came action result) = Some action

abbrev pub somes : {X : Type 0} → List (Option X) → List X
somes [] = []
somes (None ∷ xs) = somes xs
somes (Some x ∷ xs) = x ∷ somes xs

-- the actions that have a result
abbrev pub end_results : List End → List Action
end_results ends = somes (map end_result ends)

abbrev pub work_in : Option Job → Option Work
work_in None = None
work_in (Some job) = job.work

abbrev pub work_at : List Job → ℕ → Option Work
work_at jobs k = work_in (slice_get jobs k)

abbrev pub job_imports : Option Job → List ℕ
job_imports None = []
job_imports (Some job) = job.imports

abbrev pub job_imports_at : List Job → ℕ → List ℕ
job_imports_at jobs k = job_imports (slice_get jobs k)

-- imports lead down, among jobs that have work
abbrev pub IsRanked : (ℕ → ℕ) → List Job → Type 0
IsRanked rank jobs = (j k : ℕ) (v w : Work) → work_at jobs j ≡ Some v → Contains (job_imports_at jobs j) k → work_at jobs k ≡ Some w → rank k < rank j

-- the numbers in the entries' texts fit, and no two of the texts of the entries and of what came clash
pub record AreClear (entries came : List Action) : Type 0 where
  pub sized : AllSized entries
  pub clear : NoClash (hashed_actions (entries ++ came))

-- What a board came to over a cache that stands for E, where its jobs end so: each answer is the job's end, and compiling its action gives that; both
-- caches stand for what came as well, and as many were finished as actions were new.
pub record HasResultsOf (seen : Seen) (E : List Action) (ends : List End) : Type 0 where
  pub told : (k : ℕ) → result_at seen k ≡ end_result (end_at ends k)
  pub compiled : (k : ℕ) (action : Action) (result : Compiled) → end_at ends k ≡ Came action result → Compiles action result
  pub sized : AllSized (end_results ends)
  pub stands : CacheStandsFor (joined lesser seen.opening.cache seen.state.added) (E ++ end_results ends)
  pub count : count_by is_finish seen.history ≡ compiled_count E (end_results ends)

-- Over any such E, where imports lead down, the jobs end so, and the texts of E, of other entries N and of what comes don't clash, it came to these ends.
abbrev pub HasResults : Seen → List Action → Type 0
HasResults seen N =
    (E : List Action) (rank : ℕ → ℕ) (ends : List End) → CacheStandsFor seen.opening.cache E → IsRanked rank seen.opening.jobs → AreEnds seen.opening.jobs ends
    → AreClear (E ++ N) (end_results ends) → HasResultsOf seen E ends

-- The entries that were finished, whatever the ids: the new entries are these, each finish added one, and each has an id that neither the opening's
-- cache has nor another one of them.
pub record AreFinished (seen : Seen) (entries : List Action) : Type 0 where
  pub stands : CacheStandsFor seen.state.added entries
  pub count : count_by is_finish seen.history ≡ length entries
  pub apart : (entry : Action) → Contains entries entry → get seen.opening.cache (action_id entry) ≡ None
  pub distinct : IsDistinct bytes_eq (map action_id entries)

-- The entries that were added are those of jobs' own actions: wherever no other texts clash, each is one that comes.
pub record AddsOwn (seen : Seen) : Type 0 where
  pub entries : List Action
  pub stands : CacheStandsFor seen.state.added entries
  pub sized : AllSized entries
  pub among : (E : List Action) (rank : ℕ → ℕ) (ends : List End) → CacheStandsFor seen.opening.cache E
      → IsRanked rank seen.opening.jobs → AreEnds seen.opening.jobs ends → AreClear E (end_results ends) → Includes (end_results ends) entries

-- If no other texts clash, the action is one of the board's results; and the numbers in its text fit.
pub record MayBeResult (opening : Opening) (action : Action) : Type 0 where
  pub sized : IsSized action
  pub among : (E : List Action) (rank : ℕ → ℕ) (ends : List End) → CacheStandsFor opening.cache E
      → IsRanked rank opening.jobs → AreEnds opening.jobs ends → AreClear E (end_results ends) → Contains (end_results ends) action

-- a task that was given is of such an action, where only such were added
abbrev pub GivesOwn : Seen → Taken → Type 0
GivesOwn old (taken.Job task) = AddsOwn old → MayBeResult old.opening task.action
GivesOwn old taken.Idle = Unit {0}
GivesOwn old taken.Later = Unit {0}

-- ---- boards that are opened and never run

-- all imports are done and good
abbrev pub AllGood : List JobStatus → List ℕ → Type 0
AllGood statuses = All (λ k. status_at statuses k ≡ Done true)

-- The status of a job that has this end, where E is held: with all imports done and good it has its action, is ready where that isn't held, and done where
-- it is, with what compiling it gives; else it has none.
abbrev pub IsEndOfJob : List Action → List JobStatus → List ℕ → End → JobStatus → Option Action → Type 0
IsEndOfJob E statuses imports end Waiting action = (action ≡ None) × ¬ (AllGood statuses imports)
IsEndOfJob E statuses imports end Stays action = (action ≡ None) × (end ≡ Blocked)
IsEndOfJob E statuses imports end (Running hand) action = ⊥
IsEndOfJob E statuses imports end Ready action =
    AllGood statuses imports × ((its : Action) × (result : Compiled) × (action ≡ Some its) × (end ≡ Came its result) × ¬ (Contains E its))
IsEndOfJob E statuses imports end (Done good) action =
    AllGood statuses imports
    × ((its : Action) × (result : Compiled) × (action ≡ Some its) × (end ≡ Came its result)
    × Contains E its × (good ≡ is_good_result result) × Compiles its result)

abbrev pub IsEndOfJobAt : List Action → List Job → JobStates → End → ℕ → Type 0
IsEndOfJobAt E jobs now end k = IsEndOfJob E now.statuses (job_imports_at jobs k) end (status_at now.statuses k) (action_at now.actions k)

-- Over any such E, where imports lead down, the jobs end so, and the texts of E and of what comes don't clash, each job stands so.
abbrev pub ShowsEnds : Seen → Type 0
ShowsEnds seen =
    (E : List Action) (rank : ℕ → ℕ) (ends : List End) → CacheStandsFor seen.opening.cache E → IsRanked rank seen.opening.jobs → AreEnds seen.opening.jobs ends
    → AreClear E (end_results ends) → (k : ℕ) → IsEndOfJobAt E seen.opening.jobs seen.state.standings (end_at ends k) k
