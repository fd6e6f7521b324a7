-- The program of a directory, and the image of what is compiled.
use Rattle.std.specs.Prelude.{◌≡◌, ℕ, List, ◌++◌, map, Option, None, Some}
use Rattle.std.specs.List.{All, Contains}
use Rattle.go_text.specs.declared.edition.Edition.{Edition}
use Rattle.go_code.specs.Images.{Image}
use Rattle.go_typed.specs.Trees.{Package}
use Rattle.go_meaning.specs.Programs.{IsProgram}
use Rattle.go_init.specs.Packages.{package_order}
use Rattle.go_translation_laws.specs.Programs.{IsLinked}
use Rattle.ws_version.specs.Writes.{Write}
use Rattle.ws_register.specs.Sources.{IsSources}
use Rattle.ws_action.specs.Actions.{Action}
use Rattle.ws_action.specs.Clash.{NoClash, hashed_actions}
use Rattle.ws_replica.specs.Reports.{DirectoryOutcome, Good, ArePackages, actions_of, TargetBuild, IsTargetBuild}

abbrev pub IsGood : DirectoryOutcome → Type 0
IsGood fate = (typed : Package) × (fate ≡ Good typed)

-- these are the packages, in the order in which they are initialized
abbrev pub IsPackageOrder : TargetBuild → List Package → Type 0
IsPackageOrder build = ArePackages build.fates (package_order (map (λ d. d.imports) build.directories))

-- All that a target reaches is good and held, and these are its packages, in the order in which they are initialized, the target's own at
-- last. They are a program.
pub record IsHeldProgram (edition : Edition) (held : List Action) (build : TargetBuild) (packages : List Package) : Type 0 where
  pub good : All IsGood build.fates
  pub compiled : All (Contains held) (actions_of edition build)
  pub in_order : IsPackageOrder build packages
  pub program : IsProgram packages

abbrev pub IsPlannedProgram : Edition → List Action → Option TargetBuild → List Package → Type 0
IsPlannedProgram edition held None packages = ⊥
IsPlannedProgram edition held (Some build) packages = IsHeldProgram edition held build packages

-- the image that the objects of the program's packages are linked to, and none where there is no program
abbrev pub IsImageOf : Edition → List Action → TargetBuild → Option Image → Type 0
IsImageOf edition held build None = (packages : List Package) → ¬ (IsHeldProgram edition held build packages)
IsImageOf edition held build (Some image) =
    (packages : List Package) × IsHeldProgram edition held build packages × IsLinked packages image

-- What is known of the image of a target: what becomes of its directories, and, where no two hashed texts clash, that this is the image.
pub record IsImage (edition : Edition) (W : List Write) (E : List Action) (target : List ℕ) (image : Option Image) : Type 0 where
  pub build : TargetBuild
  pub are : IsTargetBuild edition W target (Some build)
  pub right : NoClash (hashed_actions (E ++ actions_of edition build)) → IsImageOf edition E build image

-- what a replica with these sources gives as the image of a target, where no two hashed texts clash
pub record IsImageOfSources (edition : Edition) (sources : List (List ℕ × List ℕ)) (target : List ℕ) (image : Image) : Type 0 where
  pub writes : List Write
  pub held : List Action
  pub of_writes : IsSources writes sources
  pub given : IsImage edition writes held target (Some image)
  pub clear : NoClash (hashed_actions (held ++ actions_of edition given.build))
