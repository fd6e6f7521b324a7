-- What a build of several targets comes to.
use Rattle.std.specs.Prelude.{◌≡◌, ◌==◌, ℕ, Bool, if◌then◌else◌, List, [], ◌++◌, map, None, Some, slice_index_or}
use Rattle.std.specs.List.{AllZip, Contains, flat_map, list_any, slice_get}
use Rattle.std.specs.FinMap.{FinMap}
use Rattle.go_text.specs.declared.edition.Edition.{Edition}
use Rattle.ws_action.specs.Actions.{Action}
use Rattle.ws_action.specs.Clash.{NoClash, AllSized, hashed_actions}
use Rattle.ws_map.specs.Kept.{SameMembers}
use Rattle.ws_cache.specs.Count.{compiled_count}
use Rattle.ws_cache.specs.Held.{id_cmp, CacheStandsFor}
use Rattle.ws_graph.specs.declared.planned.PlanError.{PlanError}
use Rattle.ws_graph.specs.declared.planned.PlanError.TheVariants as plan
use Rattle.ws_report.specs.declared.Report.{Report}
use Rattle.ws_report.specs.Reports.{verdict_rows}
use Rattle.ws_replica.specs.declared.BuildError.{BuildError}
use Rattle.ws_replica.specs.declared.building.Target.{Target}
use Rattle.ws_replica.specs.declared.BuildError.TheVariants as build
use Rattle.ws_replica.specs.Holdings.{Replica, ReplicaStandsFor, Took, AllStandFor}
use Rattle.ws_replica.specs.Reports.{TargetBuild, IsTargetBuild, all_actions, report_of}

-- what is answered where there is no plan
abbrev pub refusal_of : PlanError → BuildError
refusal_of plan.NoPackage = build.NoPackage
refusal_of plan.Memory = build.Memory

-- the number of a target's replica, and its directory
abbrev pub target_of : Target → ℕ × List ℕ
target_of t = (t.replica, t.directory.now)

-- what the replica of that number took; a number without a replica took nothing
abbrev pub took_at : List Took → ℕ → Took
took_at took k = slice_index_or took k (record { writes = []; actions = [] })

-- the entries that the replicas of these targets hold
abbrev pub held_by : List Took → List (ℕ × List ℕ) → List Action
held_by took targets = flat_map (λ t. (took_at took t.0).actions) targets

-- the entries that the replicas of these numbers hold
abbrev pub held_at : List Took → List ℕ → List Action
held_at took numbers = flat_map (λ k. (took_at took k).actions) numbers

-- the texts of the entries that each took are sized
abbrev pub AllTookSized : List Took → Type 0
AllTookSized took = AllSized (flat_map (λ (t : Took). t.actions) took)

-- the replicas of these numbers hold together what those of the targets hold
abbrev pub HoldAll : List Took → List ℕ → List (ℕ × List ℕ) → Type 0
HoldAll took holders targets = SameMembers (held_at took holders) (held_by took targets)

-- some target is the replica's of that number
abbrev pub builds : List (ℕ × List ℕ) → ℕ → Bool
builds targets k = list_any (λ t. t.0 == k) targets

-- a replica stands for what it took, and for these actions where it is one that builds
abbrev pub StandsAfter : List (ℕ × List ℕ) → List Action → ℕ → Took → Replica → Type 0
StandsAfter targets actions k took replica = ReplicaStandsFor replica took.writes (if builds targets k then took.actions ++ actions else took.actions)

-- each report is its target's, and each count that of the whole build
pub record AreReports (edition : Edition) (took : List Took) (targets : List (ℕ × List ℕ)) (all : List TargetBuild) (given : List Report) : Type 0 where
  pub reports : map (λ (r : Report). verdict_rows r.directories.items) given ≡ map report_of all
  pub counts : (r : Report) → Contains given r → r.compiled ≡ compiled_count (held_by took targets) (all_actions edition all)

-- Where no two texts clash: so it is told, the numbers in the texts of what was compiled fit, and all replicas that build took what they
-- hold together and what was compiled.
pub record AreRight (edition : Edition) (took : List Took) (targets : List (ℕ × List ℕ)) (all : List TargetBuild) (given : List Report) (new : List Replica) : Type 0 where
  pub told : AreReports edition took targets all given
  pub sized : AllSized (all_actions edition all)
  pub stand : (k : ℕ) (t : Took) (replica : Replica) → slice_get took k ≡ Some t → slice_get new k ≡ Some replica →
      StandsAfter targets (held_by took targets ++ all_actions edition all) k t replica

-- what becomes of the directories of each target, by the writes that its replica took
abbrev pub AreBuildsOfTargets : Edition → List Took → List (ℕ × List ℕ) → List TargetBuild → Type 0
AreBuildsOfTargets edition took targets all = AllZip (λ t b. IsTargetBuild edition (took_at took t.0).writes t.1 (Some b)) targets all

-- What a build that succeeds says of replicas that took this: what becomes of the directories of their writes, and that the reports and the
-- replicas say so.
pub record AreBuilt (edition : Edition) (took : List Took) (targets : List (ℕ × List ℕ)) (reports : List Report) (new : List Replica) : Type 0 where
  pub all : List TargetBuild
  pub are : AreBuildsOfTargets edition took targets all
  pub right : NoClash (hashed_actions (held_by took targets ++ all_actions edition all)) → AreRight edition took targets all reports new

-- the same, of replicas of which some, by their numbers, hold together all that those of the targets hold
abbrev pub AreBuiltOver : Edition → List ℕ → List (ℕ × List ℕ) → List Replica → List Report → List Replica → Type 0
AreBuiltOver edition holders targets old reports new =
    (took : List Took) → AllStandFor old took → AllTookSized took → HoldAll took holders targets → AreBuilt edition took targets reports new

-- The same of a build that changes no replica, and gives a cache with what those that build hold together and what was compiled.
pub record AreRightFrom (edition : Edition) (took : List Took) (targets : List (ℕ × List ℕ)) (all : List TargetBuild) (given : List Report) (cache : FinMap id_cmp Action) : Type 0 where
  pub told : AreReports edition took targets all given
  pub sized : AllSized (all_actions edition all)
  pub stands : CacheStandsFor cache (held_by took targets ++ all_actions edition all)

pub record AreBuiltFrom (edition : Edition) (took : List Took) (targets : List (ℕ × List ℕ)) (reports : List Report) (cache : FinMap id_cmp Action) : Type 0 where
  pub all : List TargetBuild
  pub are : AreBuildsOfTargets edition took targets all
  pub right : NoClash (hashed_actions (held_by took targets ++ all_actions edition all)) → AreRightFrom edition took targets all reports cache

-- a target without package files
abbrev pub LacksPackage : Edition → List Took → List (ℕ × List ℕ) → Type 0
LacksPackage edition took targets = (k : ℕ) × (directory : List ℕ) × Contains targets (k, directory) × IsTargetBuild edition (took_at took k).writes directory None
