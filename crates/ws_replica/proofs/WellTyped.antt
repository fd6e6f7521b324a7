-- The packages of a target's program are well typed together: their code is linked, and means what they do.
use Rattle.std.proofs.Common.{◌≡◌, ◌∙◌, ℕ, List, map, None, Some, sym, ap}
use Rattle.go_text.specs.declared.edition.Edition.{Edition}
use Rattle.go_code.specs.Images.{Image}
use Rattle.go_link.specs.declared.link.LinkError.{LinkError}
use Rattle.go_link.specs.declared.link.LinkError.TheVariants.{NoMain}
use Rattle.go_link.specs.Links.{link_refusal}
use Rattle.go_typed.specs.Trees.{Package}
use Rattle.go_meaning.specs.Programs.{IsProgram}
use Rattle.go_gen.specs.Translation.{object_of}
use Rattle.go_translation_laws.specs.Programs.{HaveOneEdition, IsLinked, MeansTheSame, MakesSense}
use Rattle.go_translation_laws.proofs.Editions.{have_one}
use Rattle.go_translation_laws.proofs.Refusals.{linked_program}
use Rattle.go_package_laws.specs.Packages.{AreChecked, IsNamedMain, HasMeaning}
use Rattle.go_package_laws.proofs.Given.{named_main}
use Rattle.go_package_laws.proofs.Meant.{packages_linked, packages_refused, packages_same, packages_sense, packages_mean}
use Rattle.ws_version.specs.Writes.{Write}
use Rattle.ws_register.specs.Sources.{HasFiles}
use Rattle.ws_graph.specs.BuildPlan.{IsBuildPlanOf}
use Rattle.ws_replica.specs.GoodPackages.{AreGoodPackages}
use Rattle.ws_replica.specs.Programs.{IsPackageOrder}
use Rattle.ws_replica.specs.Reports.{AreDirectoryOutcomes, TargetBuild}
use Rattle.ws_replica.proofs.CheckedPackages.{all_checked, all_edition}

module _ (packages : List Package) (are : AreGoodPackages packages) where
  pub packages_checked : AreChecked packages
  packages_checked = all_checked are.edition are.writes are.files are.target are.build.directories are.build.fates (are.are).0 (are.are).1 packages are.in_order

  one_edition : HaveOneEdition packages
  one_edition = have_one are.edition packages (all_edition are.edition are.writes are.files are.target are.build.directories are.build.fates (are.are).0 (are.are).1 packages are.in_order)

  linked_by : IsNamedMain packages → link_refusal (map object_of packages) ≡ None
  linked_by named = packages_linked packages packages_checked named one_edition

  -- packages without a main aren't linked
  named_by : (image : Image) → IsLinked packages image → IsNamedMain packages
  named_by image (objects, order, same, links) = named_main packages (linked_program packages (ap link_refusal (sym same) ∙ links.0))

pub good_checked : (packages : List Package) → AreGoodPackages packages → AreChecked packages × HaveOneEdition packages
good_checked packages are = (packages_checked packages are, one_edition packages are)

pub good_linked : (packages : List Package) → AreGoodPackages packages → IsProgram packages → link_refusal (map object_of packages) ≡ None
good_linked packages are program = linked_by packages are (named_main packages program)

pub good_refused : (packages : List Package) (e : LinkError) → AreGoodPackages packages → link_refusal (map object_of packages) ≡ Some e → e ≡ NoMain
good_refused packages e are refused =
    let unnamed : IsNamedMain packages → ⊥ = λ named. (let wrong : None ≡ Some e = sym (linked_by packages are named) ∙ refused in cc (wrong)) in
    let same : Some e ≡ Some NoMain = sym refused ∙ packages_refused packages unnamed in
    cc (same)

pub good_means : (packages : List Package) (image : Image) → AreGoodPackages packages → IsLinked packages image → MeansTheSame packages image
good_means packages image are linked = packages_same packages (packages_checked packages are) (named_by packages are image linked) image linked

pub good_sense : (packages : List Package) (image : Image) (ticks : ℕ) → AreGoodPackages packages → IsLinked packages image → MakesSense image ticks
good_sense packages image ticks are linked = packages_sense packages (packages_checked packages are) (named_by packages are image linked) image ticks linked

pub good_ends : (packages : List Package) (ticks : ℕ) → AreGoodPackages packages → IsProgram packages → HasMeaning packages ticks
good_ends packages ticks are program = packages_mean packages (packages_checked packages are) (named_main packages program) ticks

-- also where not all that the target reaches is known to be good
pub always_linked : (edition : Edition) (W : List Write) → HasFiles W → (target : List ℕ) (build : TargetBuild) → IsBuildPlanOf edition W target build.directories → AreDirectoryOutcomes build.directories build.fates → (packages : List Package) → IsPackageOrder build packages → IsProgram packages → link_refusal (map object_of packages) ≡ None
always_linked edition W has target build of are packages order program =
    packages_linked packages (all_checked edition W has target build.directories build.fates of are packages order) (named_main packages program)
    (have_one edition packages (all_edition edition W has target build.directories build.fates of are packages order))
