-- The target's package is the last in package order.
use Rattle.std.proofs.Common.{◌≡◌, ℕ, ◌+◌, ◌<◌, List, [], ◌∷◌, ◌++◌, length, map, Some, refl, sym, ap, subst, ◌∙◌, arith}
use Rattle.std.specs.Option.{option_map}
use Rattle.std.specs.List.{All, Contains, slice_get}
use Rattle.std.proofs.lemmas.List.{length-map}
use Rattle.std.proofs.lemmas.Option.{slice_get_within, slice_get-map}
use Rattle.go_text.specs.declared.edition.Edition.{Edition}
use Rattle.go_typed.specs.Trees.{Package}
use Rattle.go_init.specs.Packages.{package_order}
use Rattle.go_init.proofs.Orders.{ranked, last}
use Rattle.ws_reach.specs.Reach as reach
use Rattle.ws_reach.specs.Reach.{Edge}
use Rattle.ws_version.specs.Writes.{Write}
use Rattle.ws_action.specs.Actions.{Action}
use Rattle.ws_graph.specs.BuildPlan.{Directory, Imports, ReachesByImports, IsBuildPlanOf, AreRanks, paths_of}
use Rattle.ws_graph.proofs.RankedPlan.{ranked_build_plan}
use Rattle.ws_replica.specs.Programs.{IsGood, IsHeldProgram}
use Rattle.ws_replica.specs.Reports.{DirectoryOutcome, Good, outcome_at, ArePackages, IsDirectoryOutcome, AreDirectoryOutcomes, TargetBuild, IsTargetBuild}
use Rattle.ws_replica.proofs.HeldImages.{all_at, there}
use Rattle.ws_replica.proofs.Numbered.{some_same, at_member, member_at}
use Rattle.ws_replica.proofs.OneBuild.{fate_of}
use Rattle.ws_replica.proofs.OrderedPackages.{one_number}
use Rattle.ws_replica.proofs.PlanMakes.{further, package_at}

module _ (edition : Edition) (W : List Write) (target : List ℕ) (ds : List Directory) (of : IsBuildPlanOf edition W target ds) where
  abbrev rows : List (List ℕ)
  rows = map (λ (d : Directory). d.imports) ds

  abbrev paths : List (List ℕ)
  paths = paths_of ds

  -- the directory of a number's path
  directory_at : (k : ℕ) (p : List ℕ) → slice_get paths k ≡ Some p → (d : Directory) × (slice_get ds k ≡ Some d) × (d.path ≡ p)
  directory_at k p at =
      let d = there ds k (let lt = slice_get_within paths k p at in omega (arith, lt, length-map ds (λ (d : Directory). d.path))) in
      (d.0, d.1, some_same d.0.path p (sym (slice_get-map (λ (d : Directory). d.path) ds k ∙ ap (option_map (λ (d : Directory). d.path)) d.1) ∙ at))

  row_at : (k : ℕ) (d : Directory) → slice_get ds k ≡ Some d → slice_get rows k ≡ Some d.imports
  row_at k d at = slice_get-map (λ (d : Directory). d.imports) ds k ∙ ap (option_map (λ (d : Directory). d.imports)) at

  -- an import is an edge
  edge : (k : ℕ) (p q : List ℕ) → slice_get paths k ≡ Some p → Imports edition of.0 p q → (j : ℕ) × (slice_get paths j ≡ Some q) × Edge rows k j
  edge k p q at leads =
      let d = directory_at k p at in
      let among : Contains ds d.0 = at_member ds k d.0 d.1 in
      let here : ReachesByImports edition of.0 target p = (of.2.reached p).0 (at_member paths k p at) in
      let j = member_at paths q ((of.2.reached q).1 (further edition of.0 target p q here leads)) in
      let its : Imports edition of.0 d.0.path q = subst (λ x. Imports edition of.0 x q) (sym d.2) leads in
      (j.0, j.1, (d.0.imports, row_at k d.0 d.1, ((of.2.imports d.0 among).are j.0).1 (q, j.1, its)))

  -- a walk over imports is one over numbers
  walk : (steps : List (List ℕ)) (k : ℕ) (p q : List ℕ) → slice_get paths k ≡ Some p → reach.Walks (Imports edition of.0) p steps q → (j : ℕ) → slice_get paths j ≡ Some q → reach.Reaches (Edge rows) k j
  walk [] k p q at same j also = ([], one_number paths of.2.ascending q k j (at ∙ ap Some same) also)
  walk (r ∷ steps) k p q at (leads, more) j also =
      let next = edge k p r at leads in
      let rest = walk steps next.0 r q next.1 more j also in
      (next.0 ∷ rest.0, (next.2, rest.1))

  -- the target reaches all
  reaches_all : (k : ℕ) → slice_get paths k ≡ Some target → (j : ℕ) → j < length rows → reach.Reaches (Edge rows) k j
  reaches_all k at j lt =
      let d = there ds j (omega (arith, lt, length-map ds (λ (d : Directory). d.imports))) in
      let its : slice_get paths j ≡ Some d.0.path = slice_get-map (λ (d : Directory). d.path) ds j ∙ ap (option_map (λ (d : Directory). d.path)) d.1 in
      let from : ReachesByImports edition of.0 target d.0.path = (of.2.reached d.0.path).0 (at_member paths j d.0.path its) in
      walk from.0 k target d.0.path at from.1 j its

  target_at : (k : ℕ) × (slice_get paths k ≡ Some target)
  target_at = member_at paths target ((of.2.reached target).1 ([], refl))

  module _ (fates : List DirectoryOutcome) (are : AreDirectoryOutcomes ds fates) (good : All IsGood fates) where
    -- imports of good directories lie lower
    falls : (rank : ℕ → ℕ) → AreRanks ds rank → (p q : ℕ) → Edge rows p q → rank q < rank p
    falls rank ranks p q (row, at, c) =
        let d = there ds p (let lt = slice_get_within rows p row at in omega (arith, lt, length-map ds (λ (d : Directory). d.imports))) in
        let f = fate_of fates ds fates are p d.0 d.1 in
        let its = all_at IsGood fates good p f.fate f.at in
        let is : IsDirectoryOutcome fates d.0 (Good its.0) = subst (IsDirectoryOutcome fates d.0) its.1 f.is in
        let same : row ≡ d.0.imports = some_same row d.0.imports (sym at ∙ row_at p d.0 d.1) in
        ranks p q d.0 is.0 d.1 (is.2).sound (subst (λ r. Contains r q) same c)

    target_last : (before : List ℕ) × (package_order rows ≡ before ++ target_at.0 ∷ [])
    target_last =
        let ranks = ranked_build_plan edition W target ds of in
        let inside : target_at.0 < length rows =
        (let lt = slice_get_within paths target_at.0 target target_at.1 in omega (arith, lt, length-map ds (λ (d : Directory). d.path), length-map ds (λ (d : Directory). d.imports))) in
        last rows target_at.0 (ranked rows ranks.0 (falls ranks.0 ranks.1) target_at.0 inside) (reaches_all target_at.0 target_at.1)

    -- the packages of numbers, the last of which is a number
    last_of : (front : List ℕ) (k : ℕ) (packages : List Package) → ArePackages fates (front ++ k ∷ []) packages → (before : List Package) × (p : Package) × (packages ≡ before ++ p ∷ []) × (outcome_at fates k ≡ Good p)
    last_of [] k [] h = absurd h
    last_of [] k (p ∷ []) h = ([], p, refl, h.0)
    last_of [] k (p ∷ q ∷ packages) h = absurd (h.1)
    last_of (j ∷ front) k [] h = absurd h
    last_of (j ∷ front) k (p ∷ packages) h =
        let rest = last_of front k packages h.1 in
        (p ∷ rest.0, rest.1, ap (λ ps. p ∷ ps) rest.2, rest.3)

    pub last_package : (packages : List Package) → ArePackages fates (package_order rows) packages → (before : List Package) × (p : Package) × (packages ≡ before ++ p ∷ []) × (p.path ≡ target)
    last_package packages h =
        let order = target_last in
        let end = last_of order.0 target_at.0 packages (subst (λ ks. ArePackages fates ks packages) order.1 h) in
        let its = package_at ds fates are target_at.0 end.1 end.3 in
        let d = directory_at target_at.0 target target_at.1 in
        let same : its.0 ≡ d.0 = some_same its.0 d.0 (sym its.1 ∙ d.1) in
        (end.0, end.1, end.2, its.2 ∙ ap (λ (x : Directory). x.path) same ∙ d.2)

pub target_is_last : (edition : Edition) (W : List Write) (target : List ℕ) (build : TargetBuild) (held : List Action) (packages : List Package) → IsTargetBuild edition W target (Some build) → IsHeldProgram edition held build packages
    → (before : List Package) × (p : Package) × (packages ≡ before ++ p ∷ []) × (p.path ≡ target)
target_is_last edition W target build held packages of program = last_package edition W target build.directories of.0 build.fates of.1 program.good packages program.in_order
