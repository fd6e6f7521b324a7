-- Ids and images of a target, from the board that is opened for it.
use Rattle.std.proofs.Common.{◌≡◌, ℕ, List, [], ◌∷◌, ◌++◌, length, map, Option, None, Some, refl, sym, ap, subst, ◌∙◌}
use Rattle.std.specs.FinMap.{FinMap}
use Rattle.std.proofs.lemmas.List.{length-map}
use Rattle.go_text.specs.declared.edition.Edition.{Edition}
use Rattle.go_code.specs.Images.{Image}
use Rattle.go_code.specs.Packages.{Object}
use Rattle.go_init.specs.Packages.{package_order}
use Rattle.ws_version.specs.Writes.{Write}
use Rattle.ws_register.specs.Sources.{HasFiles}
use Rattle.ws_action.specs.Actions.{Action}
use Rattle.ws_action.specs.Clash.{NoClash, AllSized, hashed_actions}
use Rattle.ws_board.specs.Work.{Seen}
use Rattle.ws_cache.specs.Held.{id_cmp, CacheStandsFor}
use Rattle.ws_graph.specs.BuildPlan.{Directory, IsBuildPlanOf}
use Rattle.ws_graph.proofs.RankedPlan.{ranked_build_plan}
use Rattle.ws_report.specs.declared.IdStatus.{IdStatus}
use Rattle.ws_replica.specs.Ids.{AreIdRows, AreIds}
use Rattle.ws_replica.specs.Jobs.{ReachedDirectory, reached_by}
use Rattle.ws_replica.specs.Stopped.{IsOpened, rows_from, AreObjects, SomeLacks, IsLinkedTo}
use Rattle.ws_replica.specs.Programs.{IsImage, IsImageOf}
use Rattle.ws_replica.specs.Reports.{DirectoryOutcome, AreDirectoryOutcomes, TargetBuild, actions_of}
use Rattle.ws_replica.proofs.HeldIds.{are_id_rows}
use Rattle.ws_replica.proofs.HeldImages.{some_image, refused_image, lacking_image}
use Rattle.ws_replica.proofs.SomeBuild.{some_fates}
use Rattle.ws_replica.proofs.TargetPieces.{places_same}

-- what a plan's directories come to
its_fates : (edition : Edition) (W : List Write) (target : List ℕ) (ds : List Directory) → IsBuildPlanOf edition W target ds → (fates : List DirectoryOutcome) × AreDirectoryOutcomes ds fates
its_fates edition W target ds of = let ranks = ranked_build_plan edition W target ds of in some_fates edition of.0 ds of.2.planned ranks.0 ranks.1

imports_same : (edition : Edition) (xs : List Directory) → map (λ (r : ReachedDirectory). r.imports) (map (reached_by edition) xs) ≡ map (λ (d : Directory). d.imports) xs
imports_same edition [] = refl
imports_same edition (x ∷ xs) = ap (λ rest. x.imports ∷ rest) (imports_same edition xs)

module _ (edition : Edition) (W : List Write) (E : List Action) (target : List ℕ) (ds : List Directory) (of : IsBuildPlanOf edition W target ds) (paths : HasFiles W) (sized : AllSized E) (cache : FinMap id_cmp Action) (stands : CacheStandsFor cache E)
    (reached : List ReachedDirectory) (same : reached ≡ map (reached_by edition) ds) (seen : Seen) (opened : IsOpened reached cache seen) where
  abbrev fates : (fates : List DirectoryOutcome) × AreDirectoryOutcomes ds fates
  fates = its_fates edition W target ds of

  abbrev build : TargetBuild
  build = record { directories = ds; fates = fates.0 }

  its_opened : IsOpened (map (reached_by edition) ds) cache seen
  its_opened = subst (λ rs. IsOpened rs cache seen) same opened

  pub are_ids : (rows : List (List ℕ × IdStatus)) → rows ≡ rows_from seen.state 0 (map (λ (r : ReachedDirectory). r.place) reached) → AreIds edition W E target rows
  are_ids rows is = record {
    build = build;
    are = (of, fates.1);
    right = λ clear. subst (AreIdRows edition E build) (sym (is ∙ ap (rows_from seen.state 0) (ap (map (λ (r : ReachedDirectory). r.place)) same ∙ places_same edition [] ds)))
        (are_id_rows edition W paths target build of fates.1 E sized clear cache stands seen its_opened);
  }

  rows_are : map (λ (r : ReachedDirectory). r.imports) reached ≡ map (λ (d : Directory). d.imports) ds
  rows_are = ap (map (λ (r : ReachedDirectory). r.imports)) same ∙ imports_same edition ds

  its_size : length reached ≡ length ds
  its_size = ap length same ∙ length-map ds (reached_by edition)

  image_by : (objects : List Object) → AreObjects seen (length ds) objects → (image : Option Image) → IsLinkedTo objects (package_order (map (λ (d : Directory). d.imports) ds)) image → NoClash (hashed_actions (E ++ actions_of edition build)) → IsImageOf edition E build image
  image_by objects have None (e, refused) clear = refused_image edition W paths target build of fates.1 E sized clear cache stands seen its_opened objects have e refused
  image_by objects have (Some image) (allowed, is) clear = some_image edition W paths target build of fates.1 E sized clear cache stands seen its_opened objects have image allowed is

  pub linked_image : (objects : List Object) (count : ℕ) → count ≡ length reached → AreObjects seen count objects → (image : Option Image) → IsLinkedTo objects (package_order (map (λ (r : ReachedDirectory). r.imports) reached)) image → IsImage edition W E target image
  linked_image objects count size have image linked = record {
    build = build;
    are = (of, fates.1);
    right = image_by objects (subst (λ n. AreObjects seen n objects) (size ∙ its_size) have) image (subst (λ rows. IsLinkedTo objects (package_order rows) image) rows_are linked);
  }

  pub no_image : (count : ℕ) → count ≡ length reached → SomeLacks seen count → IsImage edition W E target None
  no_image count size lacks = record {
    build = build;
    are = (of, fates.1);
    right = λ clear. lacking_image edition W paths target build of fates.1 E sized clear cache stands seen its_opened (subst (SomeLacks seen) (size ∙ its_size) lacks);
  }
