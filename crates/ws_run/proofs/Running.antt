-- What the image of what a replica built says of the files.
use Rattle.std.proofs.Common.{◌≡◌, ℕ, List, ◌++◌, Option, None, Some, sym, subst, inl, inr}
use Rattle.std.specs.List.{Contains}
use Rattle.std.proofs.lemmas.Grind.{flat_map-append}
use Rattle.std.proofs.lemmas.List.Elements.{All-contains_itself, Contains-append_cases}
use Rattle.go_text.specs.declared.edition.Edition.{Edition}
use Rattle.go_code.specs.Finals.{Ends}
use Rattle.go_code.specs.Images.{Image}
use Rattle.go_code.specs.Machine.{MachineMeaning}
use Rattle.go_translation_laws.specs.Programs.{MeansTheSame}
use Rattle.go_vm.specs.Outcomes.{ProgramOutcome}
use Rattle.ws_register.specs.Sources.{HasFiles}
use Rattle.ws_action.specs.Actions.{Action}
use Rattle.ws_action.specs.Clash.{NoClash, hashed, hashed_actions}
use Rattle.ws_replica.specs.GoodPackages.{AreGoodPackages}
use Rattle.ws_replica.specs.Holdings.{Replica}
use Rattle.ws_replica.specs.Programs.{IsImage, IsImageOf}
use Rattle.ws_replica.specs.Reports.{TargetBuild, actions_of}
use Rattle.ws_run.specs.Files.{Files, writes_of, RunsAs}
use Rattle.ws_run.specs.Steps.{HoldsProgram, IsProgramImage, HasImage}

-- ---- texts that are hashed once more

twice : (texts : List (List ℕ)) (s : List ℕ) → Contains (texts ++ texts) s → Contains texts s
twice texts s c = elim (Contains-append_cases texts texts s c) [ inl l ↦ l | inr r ↦ r ]

hashed_once : (E : List Action) (s : List ℕ) → Contains (hashed_actions (E ++ E)) s → Contains (hashed_actions E) s
hashed_once E s c = twice (hashed_actions E) s (subst (λ (texts : List (List ℕ)). Contains texts s) (flat_map-append hashed E E) c)

clear_twice : (E : List Action) → NoClash (hashed_actions E) → NoClash (hashed_actions (E ++ E))
clear_twice E clear s t c d e = clear s t (hashed_once E s c) (hashed_once E t d) e

-- ---- one build

some_same : (a b : TargetBuild) → Some a ≡ Some b → a ≡ b
some_same a b e = cc (e)

-- a directory with a build has files
pub some_files : (a : TargetBuild) → Some a ≡ None → ⊥
some_files a e = cc (e)

-- ---- images

module _ (edition : Edition) (files : Files) (directory : List ℕ) (replica : Replica) (h : HoldsProgram edition files directory replica) (sources : HasFiles (writes_of files)) where
  abbrev held : List Action
  held = actions_of edition h.build

  its_right : (image : Option Image) → (i : IsImage edition (writes_of files) held directory image) → Some i.build ≡ Some h.build → IsImageOf edition held h.build image
  its_right image i one =
      let same : i.build ≡ h.build = some_same i.build h.build one in
      let clear : NoClash (hashed_actions (held ++ held)) = clear_twice held h.clear in
      subst (λ (b : TargetBuild). IsImageOf edition held b image) same
      (i.right (subst (λ (b : TargetBuild). NoClash (hashed_actions (held ++ actions_of edition b))) (sym same) clear))

  by_image : (image : Option Image) → IsImageOf edition held h.build image → HasImage edition files directory image
  by_image None none = record {
    build = h.build;
    are = h.are;
    good = h.good;
    none = λ packages in_order program. none packages (record { good = h.good; compiled = All-contains_itself held; in_order = in_order; program = program });
  }
  by_image (Some image) (packages, p, linked) = record {
    build = h.build;
    are = h.are;
    sources = sources;
    good = h.good;
    packages = packages;
    in_order = p.in_order;
    linked = linked;
  }

  pub has_image : (image : Option Image) → (i : IsImage edition (writes_of files) held directory image) → Some i.build ≡ Some h.build → HasImage edition files directory image
  has_image image i one = by_image image (its_right image i one)

-- ---- runs

module _ (edition : Edition) (files : Files) (directory : List ℕ) (image : Image) (p : IsProgramImage edition files directory image) where
  pub are_good : AreGoodPackages p.packages
  are_good = record {
    edition = edition;
    writes = writes_of files;
    files = p.sources;
    target = directory;
    build = p.build;
    are = p.are;
    good = p.good;
    in_order = p.in_order;
  }

  pub runs_as : MeansTheSame p.packages image → (ticks : ℕ) (o : ProgramOutcome) → MachineMeaning image ticks (Ends o.ending o.output) → RunsAs edition files directory ticks o
  runs_as same ticks o machine = record {
    build = p.build;
    are = p.are;
    good = p.good;
    packages = p.packages;
    in_order = p.in_order;
    meaning = (same ticks o.ending o.output).1 machine;
  }
