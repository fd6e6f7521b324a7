-- What a run of an image says of the sources.
use Rattle.std.proofs.Common.{ℕ, List, None, Some}
use Rattle.go_text.specs.declared.edition.Edition.{Edition}
use Rattle.go_code.specs.Finals.{Ends, BadCode}
use Rattle.go_code.specs.Images.{Image}
use Rattle.go_code.specs.Machine.{MachineMeaning}
use Rattle.go_translation_laws.specs.Programs.{IsLinked, MakesSense, MeansTheSame}
use Rattle.go_typed.specs.Trees.{Package}
use Rattle.go_vm.specs.Outcomes.{ProgramOutcome}
use Rattle.ws_version.specs.Writes.{Write}
use Rattle.ws_register.specs.Sources.{HasFiles}
use Rattle.ws_action.specs.Actions.{Action}
use Rattle.ws_replica.specs.GoodPackages.{AreGoodPackages}
use Rattle.ws_replica.specs.Programs.{IsHeldProgram, IsImage}
use Rattle.ws_session.proofs.Programs.{held_good}
use Rattle.ws_session.specs.Representation.{RunOf}

pub no_run : (edition : Edition) (directory : List ℕ) (ticks : ℕ) (W : List Write) (E : List Action) → IsImage edition W E directory None → RunOf edition directory ticks W E None
no_run edition directory ticks W E i = record { build = i.build; are = i.are; ran = λ clear. i.right clear }

module _ (edition : Edition) (directory : List ℕ) (ticks : ℕ) (W : List Write) (files : HasFiles W) (E : List Action) (image : Image) (i : IsImage edition W E directory (Some image)) where
  good : (packages : List Package) → IsHeldProgram edition E i.build packages → AreGoodPackages packages
  good packages held = held_good edition W files directory E i.build i.are packages held

  pub image_runs : ((packages : List Package) (other : Image) → AreGoodPackages packages → IsLinked packages other → MeansTheSame packages other) → (outcome : ProgramOutcome) → MachineMeaning image ticks (Ends outcome.ending outcome.output) → RunOf edition directory ticks W E (Some outcome)
  image_runs same outcome machine = record {
    build = i.build;
    are = i.are;
    ran = λ clear.
        let right = i.right clear in
        (right.0, right.1, (same right.0 image (good right.0 right.1) right.2 ticks outcome.ending outcome.output).1 machine);
  }

  -- code that makes no sense comes only where texts clash
  pub nonsense_runs : ((packages : List Package) (other : Image) (n : ℕ) → AreGoodPackages packages → IsLinked packages other → MakesSense other n) → MachineMeaning image ticks BadCode → RunOf edition directory ticks W E None
  nonsense_runs sense machine = record {
    build = i.build;
    are = i.are;
    ran = λ clear.
        let right = i.right clear in
        absurd (sense right.0 image ticks (good right.0 right.1) right.2 machine);
  }
