-- The steps of a build of several targets.
use Rattle.std.specs.Prelude.{◌≡◌, ◌==◌, ℕ, true, false, List, length, map, Some, slice_set}
use Rattle.std.specs.List.{slice_get, filter}
use Rattle.std.specs.List.Sorted.{IsStrictlySortedBy}
use Rattle.std.specs.FinMap.{FinMap}
use Rattle.go_text.specs.declared.edition.Edition.{Edition}
use Rattle.ws_version.specs.Writes.{Write, held_cmp, path_cmp}
use Rattle.ws_map.specs.Kept.{StandsFor, joined}
use Rattle.ws_register.specs.Edits.{Contents}
use Rattle.ws_register.specs.Sources.{HasFiles}
use Rattle.ws_action.specs.Actions.{Action}
use Rattle.ws_cache.specs.Held.{id_cmp, CacheStandsFor}
use Rattle.ws_cache.specs.Joined.{lesser}
use Rattle.ws_graph.specs.BuildPlan.{Directory, IsJointPlanFor, SomeHasNoFiles}
use Rattle.ws_reach.specs.Reach.{EdgesStayWithin}
use Rattle.ws_replica.specs.Holdings.{Replica, Took, AllStandFor}
use Rattle.ws_replica.specs.Jobs.{ReachedDirectory, reached_by}
use Rattle.ws_replica.specs.Parts.{reached_paths, reached_rows}
use Rattle.ws_replica.specs.Builds.{held_at, held_by, builds, HoldAll}

-- what is reached of some directories, from the sources of these registers, which are of files
pub record IsReachedBy (edition : Edition) (registers : Contents) (targets : List (List ℕ)) (reached : List ReachedDirectory) : Type 0 where
  pub directories : List Directory
  pub planned : IsJointPlanFor edition registers targets directories
  pub files : (W : List Write) → StandsFor held_cmp registers W → HasFiles W
  pub same : reached ≡ map (reached_by edition) directories

-- the same of the replica of that number
pub record IsReachedAt (edition : Edition) (replicas : List Replica) (k : ℕ) (targets : List (List ℕ)) (reached : List ReachedDirectory) : Type 0 where
  pub replica : Replica
  pub at : slice_get replicas k ≡ Some replica
  pub by : IsReachedBy edition replica.registers targets reached

-- one of them has no files there
pub record LacksFilesAt (edition : Edition) (replicas : List Replica) (k : ℕ) (targets : List (List ℕ)) : Type 0 where
  pub replica : Replica
  pub at : slice_get replicas k ≡ Some replica
  pub lacks : (W : List Write) → StandsFor held_cmp replica.registers W → SomeHasNoFiles edition W targets

-- the directories of those targets that are the replica's of that number
abbrev pub directories_at : List (ℕ × List ℕ) → ℕ → List (List ℕ)
directories_at targets k = map (λ t. t.1) (filter (λ t. t.0 == k) targets)

-- what is reached of the targets of the replica of that number
abbrev pub IsReached : Edition → List Replica → List (ℕ × List ℕ) → ℕ → List ReachedDirectory → Type 0
IsReached edition replicas targets k reached = IsReachedAt edition replicas k (directories_at targets k) reached

-- the same of the first replicas
abbrev pub AreReachedOf : Edition → List Replica → List (ℕ × List ℕ) → List (List ReachedDirectory) → Type 0
AreReachedOf edition replicas targets all =
    (k : ℕ) (reached : List ReachedDirectory) → slice_get all k ≡ Some reached → IsReached edition replicas targets k reached

-- the same of each replica
pub record AreReached (edition : Edition) (replicas : List Replica) (targets : List (ℕ × List ℕ)) (all : List (List ReachedDirectory)) : Type 0 where
  pub size : length all ≡ length replicas
  pub are : AreReachedOf edition replicas targets all

-- paths ascend, and imports are numbers of the same list
pub record AreInOrder (reached : List ReachedDirectory) : Type 0 where
  pub ascending : IsStrictlySortedBy path_cmp (reached_paths reached)
  pub within : EdgesStayWithin (reached_rows reached)

abbrev pub AllInOrder : List (List ReachedDirectory) → Type 0
AllInOrder all = (k : ℕ) (reached : List ReachedDirectory) → slice_get all k ≡ Some reached → AreInOrder reached

-- the cache stands for all that the replicas of these numbers hold
abbrev pub IsOpening : List Replica → List ℕ → FinMap id_cmp Action → Type 0
IsOpening replicas numbers cache = (took : List Took) → AllStandFor replicas took → CacheStandsFor cache (held_at took numbers)

-- it stands for all that the replicas of the targets hold, where those of these numbers hold it together
abbrev pub IsOpeningBy : List Replica → List ℕ → List (ℕ × List ℕ) → FinMap id_cmp Action → Type 0
IsOpeningBy replicas holders targets cache = (took : List Took) → AllStandFor replicas took → HoldAll took holders targets → CacheStandsFor cache (held_by took targets)

-- each replica that a target names has this cache now; the others and all registers stay
pub record HaveCache (targets : List (ℕ × List ℕ)) (cache : FinMap id_cmp Action) (old new : List Replica) : Type 0 where
  pub registers : map (λ r. r.registers) new ≡ map (λ r. r.registers) old
  pub named : (k : ℕ) (r : Replica) → builds targets k ≡ true → slice_get new k ≡ Some r → r.cache ≡ cache
  pub others : (k : ℕ) → builds targets k ≡ false → slice_get new k ≡ slice_get old k

-- the replica of that number takes these entries into its cache
pub record TakesInto (number : ℕ) (added : FinMap id_cmp Action) (old new : List Replica) : Type 0 where
  pub replica : Replica
  pub at : slice_get old number ≡ Some replica
  pub new_is : new ≡ slice_set old number (record replica { cache = joined lesser replica.cache added })

-- each replica that a target names takes what all of these hold, and the new entries, where those of some numbers hold it together
pub record TakeResults (holders : List ℕ) (targets : List (ℕ × List ℕ)) (added : FinMap id_cmp Action) (old new : List Replica) : Type 0 where
  pub opening : FinMap id_cmp Action
  pub opens : IsOpeningBy old holders targets opening
  pub have : HaveCache targets (joined lesser opening added) old new
