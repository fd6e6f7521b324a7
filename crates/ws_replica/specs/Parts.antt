-- What a target reaches of all that is reached from its replica, and what is told of it.
use Rattle.std.specs.Prelude.{◌≡◌, ◌↔◌, ◌<◌, ℕ, List, map, Some}
use Rattle.std.specs.List.{AllZip, Contains, filter_map, slice_get}
use Rattle.std.specs.List.Sorted.{IsStrictlyIncreasing}
use Rattle.std.specs.FinMap.{FinMap}
use Rattle.std.specs.Global.{Vec}
use Rattle.ws_action.specs.Actions.{Action}
use Rattle.ws_cache.specs.Held.{id_cmp}
use Rattle.ws_reach.specs.Reach.{Edge, Reaches}
use Rattle.ws_reach.specs.Reach.{rows_of as rows_of_code}
use Rattle.ws_report.specs.declared.Report.{Report}
use Rattle.ws_replica.specs.declared.parts.Part.{Part as RustPart}
use Rattle.ws_replica.specs.Jobs.{ReachedDirectory, report_rows, IsRun}

-- a replica's number, and numbers of directories that are reached from it
pub record TargetPart : Type 0 where
  pub replica : ℕ
  pub numbers : List ℕ

abbrev pub target_part : RustPart → TargetPart
target_part p = record { replica = p.replica; numbers = p.numbers.items }

abbrev pub reached_paths : List ReachedDirectory → List (List ℕ)
reached_paths reached = map (λ r. r.place.path) reached

-- the numbers that each imports
abbrev pub reached_rows : List ReachedDirectory → List (List ℕ)
reached_rows reached = map (λ r. r.imports) reached

-- of what the code keeps
abbrev pub all_rows_of : List (Vec (Vec ℕ)) → List (List (List ℕ))
all_rows_of all = map (λ rows. rows_of_code rows.items) all

-- the numbers, ascending, of what the directory of that path reaches along these rows
pub record ArePart (paths rows : List (List ℕ)) (target : List ℕ) (numbers : List ℕ) : Type 0 where
  pub ascending : IsStrictlyIncreasing numbers
  pub are : (k : ℕ) → Contains numbers k ↔ ((n : ℕ) × (slice_get paths n ≡ Some target) × Reaches (Edge rows) n k)

-- the target's part of what is reached from its replica
pub record IsPartOf (all : List (List ReachedDirectory)) (target : ℕ × List ℕ) (part : TargetPart) : Type 0 where
  pub reached : List ReachedDirectory
  pub at : slice_get all target.0 ≡ Some reached
  pub replica : part.replica ≡ target.0
  pub are : ArePart (reached_paths reached) (reached_rows reached) target.1 part.numbers

-- the rows of these numbers of the report on what is reached from the replica
pub record IsReportPart (told : List Report) (part : TargetPart) (report : Report) : Type 0 where
  pub whole : Report
  pub at : slice_get told part.replica ≡ Some whole
  pub rows : report_rows report ≡ filter_map (slice_get (report_rows whole)) part.numbers
  pub compiled : report.compiled ≡ whole.compiled

-- what a board came to with the jobs of all that is reached, and what was said of each part
pub record IsRunOf (cache : FinMap id_cmp Action) (all : List (List ReachedDirectory)) (parts : List TargetPart) (reports : List Report) (added : FinMap id_cmp Action) : Type 0 where
  pub told : List Report
  pub run : IsRun cache all told added
  pub reports_are : AllZip (IsReportPart told) parts reports

-- each is of one of so many replicas
abbrev pub AllPartsWithin : ℕ → List RustPart → Type 0
AllPartsWithin count parts = (part : RustPart) → Contains parts part → part.replica < count
