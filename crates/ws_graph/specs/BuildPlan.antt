-- The plan of a build: each directory that its target reaches by imports, with its files or the fault that stands in the way.
-- The definitions speak of sources, each a path and a text; the last one of the sources of a set of writes.
use Rattle.std.specs.Prelude.{◌≡◌, ◌⊎◌, ◌↔◌, ◌<◌, ℕ, Bool, not, List, [], ◌∷◌, ◌++◌, map, Some, codes}
use Rattle.std.specs.List.{Contains, filter, slice_get}
use Rattle.std.specs.List.Sorted.{IsStrictlySortedBy, IsStrictlyIncreasing}
use Rattle.std.specs.Str.{bytes_eq}
use Rattle.go_text.specs.declared.edition.Edition.{Edition}
use Rattle.go_text.specs.Faults.{Fault}
use Rattle.go_text.specs.declared.fault.FaultKind.{FaultKind}
use Rattle.go_text.specs.declared.fault.FaultKind.TheVariants.{NoImport, Cycle, Program}
use Rattle.go_ast.specs.Trees.{ImportSpec, File}
use Rattle.go_ast.specs.Parse.{Parsed, Derived, IsParse, IsNamed}
use Rattle.ws_reach.specs.Reach as reach
use Rattle.ws_version.specs.Writes.{Write, held_cmp, path_cmp}
use Rattle.ws_map.specs.Kept.{StandsFor}
use Rattle.ws_register.specs.Edits.{Contents}
use Rattle.ws_register.specs.Sources.{IsSources}
use Rattle.ws_graph.specs.Packages.{package_files}
use Rattle.ws_graph.specs.Plan.{Planned, NoFiles, Faulty, Sound, AreParsed, IsPlan, IsPlanOf}

-- path and text of each
abbrev pub Sources : Type 0
Sources = List (List ℕ × List ℕ)

-- ---- imports

-- an import, and the name of the file that it is written in
pub record Import : Type 0 where
  pub file : List ℕ
  pub spec : ImportSpec

-- the built-in package `fmt` is no directory
abbrev pub names_directory : ImportSpec → Bool
names_directory spec = not (bytes_eq spec.path (codes "fmt"))

-- those of a file's imports that name directories, in the order of its text
abbrev pub directory_imports : List ℕ → List ImportSpec → List Import
directory_imports name specs = map (λ spec. record { file = name; spec = spec }) (filter names_directory specs)

-- the imports of directories in some files, in their order
abbrev pub AreDirectoryImports : List Parsed → List Import → Type 0
AreDirectoryImports [] imports = imports ≡ []
AreDirectoryImports (p ∷ ps) imports = (file : File) × (rest : List Import) × IsParse p.edition p.text (Derived file) × AreDirectoryImports ps rest × (imports ≡ directory_imports p.name file.imports ++ rest)

-- the directory's own files have no fault, and these are their imports of directories
pub record HasImports (edition : Edition) (sources : Sources) (path : List ℕ) (imports : List Import) : Type 0 where
  pub parsed : List Parsed
  pub sound : IsPlan edition (package_files path sources) (Sound parsed)
  pub are : AreDirectoryImports parsed imports

-- one of the imports of the directory p is of the path q
pub record HasImport (edition : Edition) (sources : Sources) (p q : List ℕ) : Type 0 where
  pub imports : List Import
  pub has : HasImports edition sources p imports
  pub import : Import
  pub among : Contains imports import
  pub path : import.spec.path ≡ q

-- no file belongs to the package of the directory
abbrev pub HasNoFiles : Sources → List ℕ → Type 0
HasNoFiles sources path = package_files path sources ≡ []

-- the directory p imports the directory q, which has files
pub record Imports (edition : Edition) (sources : Sources) (p q : List ℕ) : Type 0 where
  pub import : HasImport edition sources p q
  pub files : ¬ (HasNoFiles sources q)

-- q is p, or p imports it, or p imports one that reaches it
abbrev pub ReachesByImports : Edition → Sources → List ℕ → List ℕ → Type 0
ReachesByImports edition sources p q = reach.Reaches (Imports edition sources) p q

-- the files of the directory all parse, and the first one's package is named main
pub record IsMainPackage (edition : Edition) (sources : Sources) (path : List ℕ) : Type 0 where
  pub first : Parsed
  pub rest : List Parsed
  pub parses : AreParsed edition (package_files path sources) (first ∷ rest)
  pub named : IsNamed first.edition (codes "main") first.text

-- ---- the fault of a directory's imports

-- P holds of no path that is imported
abbrev pub HasNone : (List ℕ → Type 0) → List Import → Type 0
HasNone P imports = (import : Import) → Contains imports import → ¬ (P import.spec.path)

-- the fault is of this kind, and stands at the first of the imports of whose path P holds
pub record IsAtFirst (P : List ℕ → Type 0) (imports : List Import) (kind : FaultKind) (fault : Fault) : Type 0 where
  pub front : List Import
  pub import : Import
  pub rest : List Import
  pub whole : imports ≡ front ++ import ∷ rest
  pub before : HasNone P front
  pub holds : P import.spec.path
  pub is : fault ≡ record { file = import.file; place = import.spec.place; kind = kind }

-- what is imported reaches the directory that imports it
abbrev pub LeadsBack : Edition → Sources → List ℕ → List ℕ → Type 0
LeadsBack edition sources path imported = ReachesByImports edition sources imported path

-- The fault of a directory with these imports: at the first that has no files; else at the first that leads back; else at the first program.
pub data IsImportFault (edition : Edition) (sources : Sources) (path : List ℕ) (imports : List Import) (fault : Fault) : Type 0 where
  of_missing : IsAtFirst (HasNoFiles sources) imports NoImport fault → IsImportFault edition sources path imports fault
  of_cycle : HasNone (HasNoFiles sources) imports → IsAtFirst (LeadsBack edition sources path) imports Cycle fault → IsImportFault edition sources path imports fault
  of_program : HasNone (HasNoFiles sources) imports → HasNone (LeadsBack edition sources path) imports → IsAtFirst (IsMainPackage edition sources) imports Program fault → IsImportFault edition sources path imports fault

-- the directory's own files are sound, and its imports have this fault
pub record ImportFault (edition : Edition) (sources : Sources) (path : List ℕ) (fault : Fault) : Type 0 where
  pub imports : List Import
  pub has : HasImports edition sources path imports
  pub is : IsImportFault edition sources path imports fault

-- each of the directory's imports has files, doesn't lead back, and is no program
pub record ImportsAreSound (edition : Edition) (sources : Sources) (path : List ℕ) : Type 0 where
  pub imports : List Import
  pub has : HasImports edition sources path imports
  pub none_missing : HasNone (HasNoFiles sources) imports
  pub none_leads_back : HasNone (LeadsBack edition sources path) imports
  pub none_program : HasNone (IsMainPackage edition sources) imports

-- ---- the plan

-- what becomes of a directory: its own fault comes before that of its imports
abbrev pub IsPlannedAs : Edition → Sources → List ℕ → Planned → Type 0
IsPlannedAs edition sources path NoFiles = ⊥
IsPlannedAs edition sources path (Faulty fault) = IsPlan edition (package_files path sources) (Faulty fault) ⊎ ImportFault edition sources path fault
IsPlannedAs edition sources path (Sound parsed) = IsPlan edition (package_files path sources) (Sound parsed) × ImportsAreSound edition sources path

-- a directory of a plan: what becomes of it, and the numbers of the directories that it imports, in the plan's list
pub record Directory : Type 0 where
  pub path : List ℕ
  pub planned : Planned
  pub imports : List ℕ

abbrev pub paths_of : List Directory → List (List ℕ)
paths_of directories = map (λ d. d.path) directories

-- these are the numbers, in a list of paths, of the directories that this one imports
pub record AreNumbers (edition : Edition) (sources : Sources) (paths : List (List ℕ)) (path : List ℕ) (numbers : List ℕ) : Type 0 where
  pub ascending : IsStrictlyIncreasing numbers
  pub are : (k : ℕ) → Contains numbers k ↔ ((q : List ℕ) × (slice_get paths k ≡ Some q) × Imports edition sources path q)

-- The plan of a build has each directory that the target reaches, the target too, in the order of paths' bytes. A target without files has none.
pub record IsBuildPlan (edition : Edition) (sources : Sources) (target : List ℕ) (directories : List Directory) : Type 0 where
  pub files : ¬ (HasNoFiles sources target)
  pub ascending : IsStrictlySortedBy path_cmp (paths_of directories)
  pub reached : (path : List ℕ) → Contains (paths_of directories) path ↔ ReachesByImports edition sources target path
  pub planned : (d : Directory) → Contains directories d → IsPlannedAs edition sources d.path d.planned
  pub imports : (d : Directory) → Contains directories d → AreNumbers edition sources (paths_of directories) d.path d.imports

-- the plan of a build for a set of writes: from the sources alone
abbrev pub IsBuildPlanOf : Edition → List Write → List ℕ → List Directory → Type 0
IsBuildPlanOf edition writes target directories = (sources : Sources) × IsSources writes sources × IsBuildPlan edition sources target directories

-- one of the targets reaches the directory
abbrev pub IsReachedFromTargets : Edition → Sources → List (List ℕ) → List ℕ → Type 0
IsReachedFromTargets edition sources targets path = (target : List ℕ) × Contains targets target × ReachesByImports edition sources target path

-- The joint plan of some targets has each directory that one of them reaches, once. They have none where one of them has no files.
pub record IsJointPlan (edition : Edition) (sources : Sources) (targets : List (List ℕ)) (directories : List Directory) : Type 0 where
  pub files : (target : List ℕ) → Contains targets target → ¬ (HasNoFiles sources target)
  pub ascending : IsStrictlySortedBy path_cmp (paths_of directories)
  pub reached : (path : List ℕ) → Contains (paths_of directories) path ↔ IsReachedFromTargets edition sources targets path
  pub planned : (d : Directory) → Contains directories d → IsPlannedAs edition sources d.path d.planned
  pub imports : (d : Directory) → Contains directories d → AreNumbers edition sources (paths_of directories) d.path d.imports

abbrev pub IsJointPlanOf : Edition → List Write → List (List ℕ) → List Directory → Type 0
IsJointPlanOf edition writes targets directories = (sources : Sources) × IsSources writes sources × IsJointPlan edition sources targets directories

-- of each set of writes that the registers stand for
abbrev pub IsJointPlanFor : Edition → Contents → List (List ℕ) → List Directory → Type 0
IsJointPlanFor edition registers targets directories = (W : List Write) → StandsFor held_cmp registers W → IsJointPlanOf edition W targets directories

-- one of the targets has no files
abbrev pub SomeHasNoFiles : Edition → List Write → List (List ℕ) → Type 0
SomeHasNoFiles edition writes targets = (target : List ℕ) × Contains targets target × IsPlanOf edition writes target NoFiles

-- Ranks of a plan's directories: what a sound directory imports lies lower. So a sound directory lies on no cycle.
abbrev pub AreRanks : List Directory → (ℕ → ℕ) → Type 0
AreRanks directories rank =
    (k j : ℕ) (d : Directory) (parsed : List Parsed) → slice_get directories k ≡ Some d → d.planned ≡ Sound parsed → Contains d.imports j → rank j < rank k
