-- The packages that a target reaches, where all of them are good.
use Rattle.std.specs.Prelude.{ℕ, List, Some}
use Rattle.std.specs.List.{All}
use Rattle.go_text.specs.declared.edition.Edition.{Edition}
use Rattle.go_typed.specs.Trees.{Package}
use Rattle.ws_version.specs.Writes.{Write}
use Rattle.ws_register.specs.Sources.{HasFiles}
use Rattle.ws_replica.specs.Reports.{TargetBuild, IsTargetBuild}
use Rattle.ws_replica.specs.Programs.{IsGood, IsPackageOrder}

-- By some writes of files a target reaches directories that are all good, and these are their packages, in the order in which they are
-- initialized. Each held program is such packages.
pub record AreGoodPackages (packages : List Package) : Type 0 where
  pub edition : Edition
  pub writes : List Write
  pub files : HasFiles writes
  pub target : List ℕ
  pub build : TargetBuild
  pub are : IsTargetBuild edition writes target (Some build)
  pub good : All IsGood build.fates
  pub in_order : IsPackageOrder build packages
