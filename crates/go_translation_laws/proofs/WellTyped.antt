-- A well typed program that is linked is meant by its image: the image ends, and prints, as its sources do, and in no other way.
use Rattle.std.proofs.Common.{ℕ, List}
use Rattle.go_code.specs.Images.{Image}
use Rattle.go_typed.specs.Trees.{Package}
use Rattle.go_meaning_laws.specs.WellTyped.{IsWellTyped}
use Rattle.go_meaning_laws.proofs.Programs.{never_stuck, means}
use Rattle.go_translation_laws.specs.Programs.{IsLinked, IsSafe, MakesSense, MeansTheSame, ImageHasMeaning}
use Rattle.go_translation_laws.proofs.Linking.{LinksTo, links_to, program_means, program_meant, program_sense}
use Rattle.go_translation_laws.proofs.Refusals.{linked_program}

module _ (packages : List Package) (image : Image) (well : IsWellTyped packages) (linked : IsLinked packages image) where
  abbrev there : LinksTo packages image
  there = links_to packages image linked

  safe : (ticks : ℕ) → IsSafe packages ticks
  safe ticks = never_stuck packages well ticks

  pub means_the_same : MeansTheSame packages image
  means_the_same ticks ending output = (program_means packages image ticks ending output there, program_meant packages image ticks ending output there (safe ticks))

  pub always_sense : (ticks : ℕ) → MakesSense image ticks
  always_sense ticks = program_sense packages image ticks there (safe ticks)

  pub has_meaning : (ticks : ℕ) → ImageHasMeaning image ticks
  has_meaning ticks = (let m = means packages well ticks (linked_program packages there.0) in (m.0, m.1, program_means packages image ticks m.0 m.1 there m.2))
