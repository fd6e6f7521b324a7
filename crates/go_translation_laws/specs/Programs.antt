-- What it is for the image of packages to mean their sources.
use Rattle.std.specs.Prelude.{◌≡◌, ◌↔◌, ℕ, List, map}
use Rattle.std.specs.List.{All}
use Rattle.go_code.specs.declared.ending.Ending.{Ending}
use Rattle.go_code.specs.Finals.{Ends, BadCode}
use Rattle.go_code.specs.Images.{Image}
use Rattle.go_code.specs.Packages.{Object}
use Rattle.go_code.specs.Machine.{MachineMeaning}
use Rattle.go_link.specs.Links.{objects_in_order, Links}
use Rattle.go_typed.specs.Trees.{Package}
use Rattle.go_meaning.specs.Meaning.{Stuck}
use Rattle.go_meaning.specs.Programs.{SourceMeaning, program_edition, last_package, run_program}
use Rattle.go_gen.specs.Translation.{object_of}

-- all packages are of the edition of the last, which is that of their program
abbrev pub HaveOneEdition : List Package → Type 0
HaveOneEdition packages = All (λ (p : Package). p.edition ≡ program_edition (last_package packages)) packages

-- the packages' objects, in the packages' order, are linked to it
abbrev pub IsLinked : List Package → Image → Type 0
IsLinked packages image = (objects : List Object) × (order : List ℕ) × (objects_in_order objects order ≡ map object_of packages) × Links objects order image

-- what the sources mean the image means
abbrev pub Simulates : List Package → Image → Type 0
Simulates packages image =
    (ticks : ℕ) (ending : Ending) (output : List ℕ) → SourceMeaning packages ticks ending output → MachineMeaning image ticks (Ends ending output)

-- given so many ticks the sources break no rule of the language
abbrev pub IsSafe : List Package → ℕ → Type 0
IsSafe packages ticks = run_program packages ticks ≡ Stuck → ⊥

-- what the image does the sources mean
abbrev pub IsMeant : List Package → Image → ℕ → Type 0
IsMeant packages image ticks =
    (ending : Ending) (output : List ℕ) → MachineMeaning image ticks (Ends ending output) → SourceMeaning packages ticks ending output

-- its code makes sense
abbrev pub MakesSense : Image → ℕ → Type 0
MakesSense image ticks = MachineMeaning image ticks BadCode → ⊥

-- the image ends and prints as its sources do, and in no other way
abbrev pub MeansTheSame : List Package → Image → Type 0
MeansTheSame packages image =
    (ticks : ℕ) (ending : Ending) (output : List ℕ) → SourceMeaning packages ticks ending output ↔ MachineMeaning image ticks (Ends ending output)

-- given so many ticks the image ends in a way, and has an output
abbrev pub ImageHasMeaning : Image → ℕ → Type 0
ImageHasMeaning image ticks = (ending : Ending) × (output : List ℕ) × MachineMeaning image ticks (Ends ending output)
