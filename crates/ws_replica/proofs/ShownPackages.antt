-- The good packages of a build can be shown by their summaries' texts.
use Rattle.std.proofs.Common.{◌≡◌, ℕ, suc, true, List, [], ◌∷◌, map, Some, refl, sym, ap, subst, ◌∙◌}
use Rattle.std.specs.List.{All, Contains, slice_get}
use Rattle.std.specs.Map.{values_of}
use Rattle.std.proofs.lemmas.List.Elements.{All-nil, All-cons}
use Rattle.go_text.specs.declared.edition.Edition.{Edition}
use Rattle.go_ast.specs.Parse.{Parsed}
use Rattle.go_typed.specs.Trees.{Package}
use Rattle.go_package.specs.Imports.{Importable}
use Rattle.go_check.specs.Names.{importable_by, importable_of}
use Rattle.go_check.proofs.BySummaries.{seen_same}
use Rattle.go_export.specs.Exports.{exports_of}
use Rattle.go_export.specs.Summaries.{Summary, summary_of}
use Rattle.go_export.specs.Writable.{IsShown, IsWritten}
use Rattle.go_package_laws.specs.Packages.{AreChecked, is_plain, HavePlainPaths}
use Rattle.go_package_laws.proofs.Shown.{checked_shown}
use Rattle.ws_version.specs.Writes.{Write}
use Rattle.ws_path.specs.Paths.{directory}
use Rattle.ws_register.specs.Sources.{IsSources, HasFiles}
use Rattle.ws_action.specs.Actions.{source_with_name, action_of, HaveEdition}
use Rattle.ws_action.proofs.Imports.{same_imports, parsed_again}
use Rattle.ws_action.proofs.Members.{at_head}
use Rattle.ws_cache.specs.Compiles.{AreGood}
use Rattle.ws_pool.specs.Unshown.{IsUnshown}
use Rattle.ws_graph.specs.Packages.{package_files}
use Rattle.ws_graph.specs.Plan.{IsSound}
use Rattle.ws_graph.specs.BuildPlan.{Directory}
use Rattle.ws_graph.proofs.RankedPlan.{ranked_build_plan}
use Rattle.ws_replica.specs.Reports.{DirectoryOutcome, Good, outcome_at, ArePackages, IsReady, TargetBuild, IsTargetBuild}
use Rattle.ws_replica.proofs.Numbered.{at_member, member_at}
use Rattle.ws_replica.proofs.OneBuild.{at_fate, fate_of, one_fate, agree_refl}
use Rattle.ws_replica.proofs.OrderedPackages.{package_of, one_good}
use Rattle.ws_replica.proofs.CheckedPackages.{placed, sound, ordered_checked}
use Rattle.ws_replica.proofs.GoodPackages.{ordered, are_ordered, all_ordered, all_packages}
use Rattle.ws_replica.proofs.PlainPaths.{directory_plain}
use Rattle.ws_replica.proofs.PlanMakes.{files_from, sources_good}

abbrev Pair : Type 0
Pair = List ℕ × List ℕ

-- the directory of sound files is plain
sound_plain : (edition : Edition) (W : List Write) → HasFiles W → (sources : List Pair) → IsSources W sources → (path : List ℕ) (files : List Parsed) → IsSound edition (package_files path sources) files → is_plain path ≡ true
sound_plain edition W has sources of path files its =
    let first : Contains (package_files path sources) (source_with_name its.first) = subst (λ (xs : List Pair). Contains xs (source_with_name its.first)) (ap (map source_with_name) (sym its.is) ∙ its.parses.sources) (at_head {A = Pair} (map source_with_name its.rest) (source_with_name its.first) (source_with_name its.first) refl) in
    let s = files_from path sources (source_with_name its.first) first in
    subst (λ (x : List ℕ). is_plain x ≡ true) s.2 (directory_plain (s.0).0 ((sources_good W has sources of).1 s.0 s.1))

every : (ps : List Package) → ((k : ℕ) (p : Package) → slice_get ps k ≡ Some p → is_plain p.path ≡ true) → HavePlainPaths ps
every [] h = All-nil (λ (p : Package). is_plain p.path ≡ true)
every (p ∷ ps) h = All-cons (λ (p : Package). is_plain p.path ≡ true) p ps (h 0 p refl) (every ps (λ k q at. h (suc k) q at))

module _ (edition : Edition) (W : List Write) (has : HasFiles W) (target : List ℕ) (build : TargetBuild) (are : IsTargetBuild edition W target (Some build)) where
  abbrev ds : List Directory
  ds = build.directories

  abbrev fates : List DirectoryOutcome
  fates = build.fates

  abbrev packages : List Package
  packages = (all_packages ds fates are.1).0

  abbrev order : ArePackages fates (ordered ds fates are.1) packages
  order = (all_packages ds fates are.1).1

  pub good_checked : AreChecked packages
  good_checked = ordered_checked edition W has target ds fates are.0 are.1 (ordered ds fates are.1) (are_ordered ds fates are.1) packages order

  plain_at : (place : ℕ) (p : Package) → slice_get packages place ≡ Some p → is_plain p.path ≡ true
  plain_at place p at =
      let its = placed edition W has target ds fates are.0 are.1 (ordered ds fates are.1) (are_ordered ds fates are.1) packages order place p at in
      subst (λ (x : List ℕ). is_plain x ≡ true) (sym its.path)
      (sound_plain edition W has (are.0).0 (are.0).1 its.directory.path its.files (sound edition W has target ds fates are.0 are.1 (ordered ds fates are.1) (are_ordered ds fates are.1) packages order place p its))

  pub packages_shown : (p : Package) → Contains fates (Good p) → All IsShown (values_of (exports_of p))
  packages_shown p c =
      let k = member_at fates (Good p) c in
      let good : outcome_at fates k.0 ≡ Good p = at_fate fates k.0 (Good p) k.1 in
      let rank = ranked_build_plan edition W target ds are.0 in
      let place = member_at (ordered ds fates are.1) k.0 (all_ordered ds fates are.1 rank.0 rank.1 k.0 p good) in
      let q = package_of fates (ordered ds fates are.1) packages order place.0 k.0 place.1 in
      let at : slice_get packages place.0 ≡ Some p = q.1 ∙ ap (λ (x : Package). Some x) (one_good fates k.0 q.0 p q.2 good) in
      checked_shown packages good_checked (every packages plain_at) place.0 p at

  -- an action of the build whose files are a good package has a summary
  pub summaries_shown : (d : Directory) → Contains ds d → (files : List Parsed) (imports : List Package) → HaveEdition edition files (map summary_of imports) → IsReady fates d files imports → All IsWritten (map summary_of imports)
      → IsUnshown (action_of edition d.path files (map summary_of imports)) → ⊥
  summaries_shown d among files imports have ready written h =
      let typed = (h.are).0 in
      let same : h.summaries ≡ map summary_of imports = same_imports edition h.summaries (map summary_of imports) (h.imports).written written (h.imports).alike have.of_summaries (h.imports).texts in
      let by_files : AreGood d.path files (map importable_by h.summaries) typed = subst (λ (fs : List Parsed). AreGood d.path fs (map importable_by h.summaries) typed) (parsed_again edition files have.of_files) (h.are).1 in
      let by_imports : AreGood d.path files (map importable_by (map summary_of imports)) typed = subst (λ (ss : List Summary). AreGood d.path files (map importable_by ss) typed) same by_files in
      let good : AreGood d.path files (map importable_of imports) typed = subst (λ (is : List Importable). AreGood d.path files is typed) (seen_same imports) by_imports in
      let k = member_at ds d among in
      let here = fate_of fates ds fates are.1 k.0 d k.1 in
      let fate : here.fate ≡ Good typed = one_fate d fates fates (λ fs sound. agree_refl fates d.imports) here.fate (Good typed) here.is (files, imports, ready, good) in
      (h.are).2 (packages_shown typed (at_member fates k.0 (Good typed) (here.at ∙ ap (λ (f : DirectoryOutcome). Some f) fate)))
