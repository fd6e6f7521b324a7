-- What stands between the files of directories and the plan of a build: directories by number, and the imports that lead to them.
use Rattle.std.specs.Prelude.{◌≡◌, ◌⊎◌, ◌↔◌, ℕ, Bool, true, false, IsTrue, List, [], ◌∷◌, ◌++◌, map, Option, Some, None, MatchOption, Result, IfOk, Ok, Err, codes, String, string_bytes}
use Rattle.std.specs.List.{AllByRecursion, AllZip, Contains, slice_get}
use Rattle.std.specs.List.Sorted.{IsStrictlySortedBy, IsStrictlyIncreasing}
use Rattle.std.specs.Global.{Global, Vec}
use Rattle.std.specs.declared.alloc.AllocError.{AllocError}
use Rattle.std.specs.FinMap.{entries}
use Rattle.std.specs.Map.{keys_of}
use Rattle.go_text.specs.declared.edition.Edition.{Edition}
use Rattle.go_text.specs.Faults.{Fault}
use Rattle.go_text.specs.declared.fault.FaultKind.{FaultKind}
use Rattle.go_text.specs.declared.fault.FaultKind.TheVariants as kinds
use Rattle.go_text.specs.Named.{Source}
use Rattle.go_text.specs.declared.place.Place.{Place}
use Rattle.go_ast.specs.Trees.{File}
use Rattle.go_ast.specs.Parse.{Parsed, Derived, IsParse, IsNamed}
use Rattle.ws_reach.specs.Reach as reach
use Rattle.ws_reach.specs.Reach.{Edge, Reaches, rows_of}
use Rattle.ws_version.specs.Writes.{Write, path_cmp}
use Rattle.ws_register.specs.Edits.{Contents}
use Rattle.ws_register.specs.Sources.{texts_of, pair_of, IsSources}
use Rattle.ws_graph.specs.Packages.{package_files}
use Rattle.ws_graph.specs.Plan.{Planned, NoFiles, Faulty, Sound, IsFileIn, Stops, IsPlan, source_of_parsed}
use Rattle.ws_graph.specs.BuildPlan.{Sources, Import, directory_imports, AreDirectoryImports, IsJointPlan, Directory, HasImport, HasNoFiles, IsMainPackage, Imports, IsReachedFromTargets}
use Rattle.ws_graph.specs.Node.{planned_of}
use Rattle.ws_graph.specs.declared.target.Target.{Target}
use Rattle.ws_graph.specs.declared.wave.Found.{Found}
use Rattle.ws_graph.specs.declared.waiting.Waiting.{Waiting}
use Rattle.ws_graph.specs.declared.FileError.{FileError}
use Rattle.ws_graph.specs.declared.FileError.TheVariants.{Stopped, Memory}
use Rattle.ws_graph.specs.declared.link.Links.{Links}

-- the sources that are held
abbrev pub held_sources : Contents → Sources
held_sources m = texts_of (entries m)

abbrev pub string_texts : List (String Global) → List (List ℕ)
string_texts = map string_bytes

-- the number of a path among some
abbrev pub IsNumber : List (List ℕ) → List ℕ → Option ℕ → Type 0
IsNumber all path number = MatchOption number (¬ (Contains all path)) (λ k. slice_get all k ≡ Some path)

-- where an import is written, and the number of the directory that it names
pub record IsTarget (all : List (List ℕ)) (import : Import) (target : Target) : Type 0 where
  pub file : string_bytes target.file ≡ import.file
  pub place : target.place ≡ import.spec.place
  pub path : target.path.items ≡ import.spec.path
  pub number : IsNumber all import.spec.path target.number

-- the same of each, in order
abbrev pub AreTargets : List (List ℕ) → List Import → List Target → Type 0
AreTargets all = AllZip (IsTarget all)

-- of the imports of some files
pub record HaveTargets (all : List (List ℕ)) (parsed : List Parsed) (targets : List Target) : Type 0 where
  pub imports : List Import
  pub are : AreDirectoryImports parsed imports
  pub targets_are : AreTargets all imports targets

-- of what becomes of a directory's own files: where they have a fault there are none
abbrev pub AreTargetsOf : List (List ℕ) → Planned → List Target → Type 0
AreTargetsOf all NoFiles targets = targets ≡ []
AreTargetsOf all (Faulty fault) targets = targets ≡ []
AreTargetsOf all (Sound parsed) targets = HaveTargets all parsed targets

-- some target has this number
abbrev pub HasNumber : List Target → ℕ → Type 0
HasNumber targets k = (t : Target) × Contains targets t × (t.number ≡ Some k)

-- what becomes of a directory's own files, and whether it is a program
pub record IsFound (edition : Edition) (sources : Sources) (path : List ℕ) (found : Found) : Type 0 where
  pub plan : IsPlan edition (package_files path sources) (planned_of found.node)
  pub program : IsTrue found.program ↔ IsMainPackage edition sources path

-- an import leads from one number to another
pub record ImportLeads (edition : Edition) (sources : Sources) (all : List (List ℕ)) (p q : ℕ) : Type 0 where
  pub from : List ℕ
  pub to : List ℕ
  pub at_from : slice_get all p ≡ Some from
  pub at_to : slice_get all q ≡ Some to
  pub imports : Imports edition sources from to

-- the first of some files has a package named main
abbrev pub IsFirstMain : List Parsed → Type 0
IsFirstMain parsed = (first : Parsed) × (rest : List Parsed) × (parsed ≡ first ∷ rest) × IsNamed first.edition (codes "main") first.text

-- an import has a fault of this kind: it leads nowhere, closes a cycle, or leads to a program
abbrev pub HasFault : List (List ℕ) → List Bool → ℕ → FaultKind → Option ℕ → Type 0
HasFault closing programs here kinds.NoImport number = number ≡ None
HasFault closing programs here kinds.Cycle number = (q : ℕ) × (number ≡ Some q) × Edge closing q here
HasFault closing programs here kinds.Program number = (q : ℕ) × (number ≡ Some q) × (slice_get programs q ≡ Some true)
HasFault closing programs here kind number = ⊥

abbrev pub NoneHas : (Option ℕ → Type 0) → List Target → Type 0
NoneHas P targets = (t : Target) → Contains targets t → ¬ (P t.number)

-- the first target of which P holds
pub record IsFirst (P : Option ℕ → Type 0) (targets : List Target) (target : Target) : Type 0 where
  pub front : List Target
  pub rest : List Target
  pub whole : targets ≡ front ++ target ∷ rest
  pub before : NoneHas P front
  pub holds : P target.number

abbrev pub target_fault : Target → FaultKind → Fault
target_fault target kind = record { file = string_bytes target.file; place = target.place; kind = kind }

-- the targets of these imports are added
abbrev pub AddsTargets : List (List ℕ) → List Import → List Target → List Target → Type 0
AddsTargets all imports old new = (more : List Target) × (new ≡ old ++ more) × AreTargets all imports more

-- ---- discovery

-- a source is parsed to this
abbrev pub IsFileOf : Edition → Source → Parsed → Type 0
IsFileOf edition source p = (source_of_parsed p ≡ pair_of source) × IsFileIn edition p

-- a source stops being a file at the fault's place
abbrev pub StopsAs : Edition → Source → Fault → Type 0
StopsAs edition source fault = (kind : FaultKind) × (place : Place) × Stops edition source.text kind place × (fault ≡ record { file = source.name; place = place; kind = kind })

-- what a source comes to
pub record ParsesTo (edition : Edition) (source : Source) (result : Result Parsed FileError) : Type 0 where
  pub parsed : IfOk result (IsFileOf edition source)
  pub stopped : (fault : Fault) → result ≡ Err (Stopped fault) → StopsAs edition source fault

-- memory ran out there
abbrev pub is_refused : Result Parsed FileError → Bool
is_refused result = elim result [ Ok p ↦ false | Err e ↦ elim e [ Memory ↦ true | Stopped fault ↦ false ] ]

-- a directory has files, and waits with them
pub record IsWaiting (sources : Sources) (waiting : Waiting) : Type 0 where
  pub files : map pair_of waiting.files.items ≡ package_files (string_bytes waiting.path) sources
  pub some : ¬ (HasNoFiles sources (string_bytes waiting.path))

abbrev pub AreWaiting : Sources → List Waiting → Type 0
AreWaiting sources = AllByRecursion (IsWaiting sources)

abbrev pub IsWaitingAt : Sources → List ℕ → Waiting → Type 0
IsWaitingAt sources path waiting = (string_bytes waiting.path ≡ path) × IsWaiting sources waiting

-- where the directory has no files none waits
abbrev pub WaitsIfFilled : Sources → List ℕ → Option Waiting → Type 0
WaitsIfFilled sources path waiting = MatchOption waiting (HasNoFiles sources path) (IsWaitingAt sources path)

-- where a path has no text its directory has no files
abbrev pub IsTextOf : Sources → List ℕ → Option (String Global) → Type 0
IsTextOf sources path text = MatchOption text (HasNoFiles sources path) (λ t. string_bytes t ≡ path)

abbrev pub waiting_paths : List Waiting → List (List ℕ)
waiting_paths = map (λ w. string_bytes w.path)

-- a directory that waited, read
abbrev pub IsReadAs : Edition → Sources → Waiting → String Global × Found → Type 0
IsReadAs edition sources waiting read = (string_bytes read.0 ≡ string_bytes waiting.path) × IsFound edition sources (string_bytes waiting.path) read.1

-- of those of a wave, in their order
abbrev pub AreRead : Edition → Sources → List Waiting → List (Result (String Global × Found) AllocError) → Type 0
AreRead edition sources = AllZip (λ waiting read. IfOk read (IsReadAs edition sources waiting))

-- those that were met, by their paths
abbrev pub Met : Type 0
Met = List (String Global × Found)

abbrev pub met_paths : Met → List (List ℕ)
met_paths met = string_texts (keys_of met)

-- A walk under way: directories were read, others wait, and further paths are imported by those that were read.
pub record Walking (edition : Edition) (sources : Sources) (targets : List (List ℕ)) (met : Met) (waiting imported : List (List ℕ)) : Type 0 where
  pub first : (target : List ℕ) → Contains targets target → Contains (met_paths met) target ⊎ Contains waiting target
  pub reached : (path : List ℕ) → Contains (met_paths met) path ⊎ Contains waiting path → IsReachedFromTargets edition sources targets path
  pub from : (path : List ℕ) → Contains imported path → (p : List ℕ) × IsReachedFromTargets edition sources targets p × HasImport edition sources p path
  pub closed : (p q : List ℕ) → Contains (met_paths met) p → Imports edition sources p q → Contains (met_paths met) q ⊎ (Contains waiting q ⊎ Contains imported q)
  pub founds : (e : String Global × Found) → Contains met e → IsFound edition sources (string_bytes e.0) e.1

-- a whole wave is taken in
pub record TakesWave (edition : Edition) (sources : Sources) (targets : List (List ℕ)) (wave : List Waiting) (old new : Met) (imported : List (List ℕ)) : Type 0 where
  pub walking : Walking edition sources targets new [] imported
  pub kept : (path : List ℕ) → Contains (met_paths old) path ⊎ Contains (waiting_paths wave) path → Contains (met_paths new) path

-- the same of any wave that was read so
abbrev pub TakesAll : Sources → List (Result (String Global × Found) AllocError) → Met → Met → List (List ℕ) → Type 0
TakesAll sources read old new imported =
    (edition : Edition) (targets : List (List ℕ)) (wave : List Waiting) → AreRead edition sources wave read → Walking edition sources targets old (waiting_paths wave) [] → TakesWave edition sources targets wave old new imported

-- the paths that a directory's files import are added, those at least that have files
pub record AddsImported (sources : Sources) (planned : Planned) (old new : List (List ℕ)) : Type 0 where
  pub more : List (List ℕ)
  pub is : new ≡ old ++ more
  pub from : (edition : Edition) (p q : List ℕ) → IsPlan edition (package_files p sources) planned → Contains more q → HasImport edition sources p q
  pub all : (edition : Edition) (p q : List ℕ) → IsPlan edition (package_files p sources) planned → Imports edition sources p q → Contains more q

-- a path is added, at least if its directory has files
abbrev pub AddsPath : Sources → List ℕ → List (List ℕ) → List (List ℕ) → Type 0
AddsPath sources path old new = (new ≡ old ++ path ∷ []) ⊎ (HasNoFiles sources path × (new ≡ old))

-- the same of the paths of some targets
pub record AddsPaths (sources : Sources) (targets : List Target) (old new : List (List ℕ)) : Type 0 where
  pub more : List (List ℕ)
  pub is : new ≡ old ++ more
  pub from : (path : List ℕ) → Contains more path → (t : Target) × Contains targets t × (t.path.items ≡ path)
  pub all : (t : Target) → Contains targets t → HasNoFiles sources t.path.items ⊎ Contains more t.path.items

-- the directory of a path has files and wasn't met: it is added
abbrev pub AddsWaiting : Sources → List (List ℕ) → List ℕ → List Waiting → List Waiting → Type 0
AddsWaiting sources met path old new = (w : Waiting) × IsWaitingAt sources path w × ¬ (Contains met path) × (new ≡ old ++ w ∷ [])

-- it is added, or has no files, or was met
abbrev pub AddsUnmet : Sources → List (List ℕ) → List ℕ → List Waiting → List Waiting → Type 0
AddsUnmet sources met path old new = AddsWaiting sources met path old new ⊎ ((HasNoFiles sources path ⊎ Contains met path) × (new ≡ old))

-- those of some paths wait that have files and weren't met
pub record IsNextWave (sources : Sources) (met imported : List (List ℕ)) (wave : List Waiting) : Type 0 where
  pub waiting : AreWaiting sources wave
  pub from : (path : List ℕ) → Contains (waiting_paths wave) path → Contains imported path × ¬ (Contains met path)
  pub all : (path : List ℕ) → Contains imported path → HasNoFiles sources path ⊎ (Contains met path ⊎ Contains (waiting_paths wave) path)

-- ---- links

-- the imports of a file lead to these targets, which are added
abbrev pub AddsFile : List (List ℕ) → Parsed → List Target → List Target → Type 0
AddsFile all file old new = (tree : File) × IsParse file.edition file.text (Derived tree) × AddsTargets all (directory_imports file.name tree.imports) old new

-- the files of a directory's package, for a set of writes
abbrev pub AreFilesOf : List Write → List ℕ → Sources → Type 0
AreFilesOf writes directory files = (sources : Sources) × IsSources writes sources × (files ≡ package_files directory sources)

-- the paths are those of the directories that the targets reach, each with what was found
pub record AreAll (edition : Edition) (sources : Sources) (targets : List (List ℕ)) (paths : List (List ℕ)) (founds : List Found) : Type 0 where
  pub files : (target : List ℕ) → Contains targets target → ¬ (HasNoFiles sources target)
  pub ascending : IsStrictlySortedBy path_cmp paths
  pub reached : (path : List ℕ) → Contains paths path ↔ IsReachedFromTargets edition sources targets path
  pub founds_are : AllZip (IsFound edition sources) paths founds

-- where paths and what was found are those of targets, this is the plan of their build
abbrev pub ArePlanned : List (List ℕ) → List Found → List Directory → Type 0
ArePlanned paths founds directories =
    (edition : Edition) (sources : Sources) (targets : List (List ℕ)) → AreAll edition sources targets paths founds → IsJointPlan edition sources targets directories

-- the first wave: of each target, once
pub record IsFirstWave (sources : Sources) (targets : List (List ℕ)) (wave : List Waiting) : Type 0 where
  pub waiting : AreWaiting sources wave
  pub are : (path : List ℕ) → Contains (waiting_paths wave) path ↔ Contains targets path

-- one of the targets has no files
abbrev pub LacksFiles : Sources → List (List ℕ) → Type 0
LacksFiles sources targets = (target : List ℕ) × Contains targets target × HasNoFiles sources target

-- where one of them has no files there is none
abbrev pub IsWaveIfFilled : Sources → List (List ℕ) → Option (Vec Waiting) → Type 0
IsWaveIfFilled sources targets wave = MatchOption wave (LacksFiles sources targets) (λ w. IsFirstWave sources targets w.items)

-- the numbers of some targets, ascending
pub record AreNumbersOf (targets : Vec Target) (numbers : Vec ℕ) : Type 0 where
  pub ascending : IsStrictlyIncreasing numbers.items
  pub are : (k : ℕ) → Contains numbers.items k ↔ HasNumber targets.items k

-- where imports lead: the targets of each directory, their numbers, the ends of those that close a cycle, and which are programs
pub record AreLinks (paths : List (List ℕ)) (founds : List Found) (links : Links) : Type 0 where
  pub targets : AllZip (λ found targets. AreTargetsOf paths (planned_of found.node) targets.items) founds links.targets.items
  pub rows : AllZip AreNumbersOf links.targets.items links.rows.items
  pub closing : (q p : ℕ) → Edge (rows_of links.closing.items) q p ↔ (Edge (rows_of links.rows.items) p q × Reaches (Edge (rows_of links.rows.items)) q p)
  pub programs : links.programs.items ≡ map (λ found. found.program) founds

-- the fault of these targets stands at this one
pub data IsFaultAt (closing : List (List ℕ)) (programs : List Bool) (here : ℕ) (targets : List Target) (target : Target) (fault : Fault) : Type 0 where
  of_missing : IsFirst (HasFault closing programs here kinds.NoImport) targets target → fault ≡ target_fault target kinds.NoImport → IsFaultAt closing programs here targets target fault
  of_cycle : NoneHas (HasFault closing programs here kinds.NoImport) targets → IsFirst (HasFault closing programs here kinds.Cycle) targets target → fault ≡ target_fault target kinds.Cycle → IsFaultAt closing programs here targets target fault
  of_program : NoneHas (HasFault closing programs here kinds.NoImport) targets → NoneHas (HasFault closing programs here kinds.Cycle) targets → IsFirst (HasFault closing programs here kinds.Program) targets target → fault ≡ target_fault target kinds.Program → IsFaultAt closing programs here targets target fault

-- the fault of a directory's targets, or none: of the first that leads nowhere; else of the first that closes a cycle; else of the first program
abbrev pub TargetFault : List (List ℕ) → List Bool → ℕ → List Target → Option Fault → Type 0
TargetFault closing programs here targets None =
    NoneHas (HasFault closing programs here kinds.NoImport) targets × NoneHas (HasFault closing programs here kinds.Cycle) targets × NoneHas (HasFault closing programs here kinds.Program) targets
TargetFault closing programs here targets (Some fault) = (target : Target) × IsFaultAt closing programs here targets target fault

-- what becomes of a directory, with the fault of its imports if they have one
abbrev pub planned_with : Planned → Option Fault → Planned
planned_with planned None = planned
planned_with planned (Some fault) = Faulty fault

-- the directory of a number, of whose own files this becomes
pub record IsLinkedAt (paths : List (List ℕ)) (links : Links) (here : ℕ) (planned : Planned) (directory : Directory) : Type 0 where
  pub targets : Vec Target
  pub row : Vec ℕ
  pub fault : Option Fault
  pub path : slice_get paths here ≡ Some directory.path
  pub targets_at : slice_get links.targets.items here ≡ Some targets
  pub row_at : slice_get links.rows.items here ≡ Some row
  pub fault_is : TargetFault (rows_of links.closing.items) links.programs.items here targets.items fault
  pub planned_is : directory.planned ≡ planned_with planned fault
  pub imports_are : directory.imports ≡ row.items
