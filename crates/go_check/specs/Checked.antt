-- What the files of a package come to, which may import the library fmt and other packages: a typed package, or its first fault.
use Rattle.std.specs.Prelude.{◌≡◌, ◌⊎◌, ◌↔◌, ℕ, codes, List, [], ◌∷◌, map, Some}
use Rattle.std.specs.List.{slice_get}
use Rattle.go_text.specs.Faults.{Fault}
use Rattle.go_text.specs.declared.edition.Edition.{Edition}
use Rattle.go_text.specs.declared.edition.Edition.TheVariants.{One}
use Rattle.go_ast.specs.Trees.{File}
use Rattle.go_ast.specs.Parse.{Parsed, Derived, IsParse}
use Rattle.go_typed.specs.Trees.{Package}
use Rattle.go_expr.specs.Known.{library}
use Rattle.go_export.specs.Summaries.{summary_of}
use Rattle.go_check.specs.Names.{importable_by, importable_of}
use Rattle.go_package.specs.Claims.{SomeOne}
use Rattle.go_package.specs.Imports.{Importable}
use Rattle.go_package.specs.Packages.{package_in, IsFaultOf}
use Rattle.go_package.specs.Typed.{IsTypedIn}

-- the trees of some files, one after another: what their texts parse to
abbrev pub AreTrees : List Parsed → List File → Type 0
AreTrees [] [] = Unit {0}
AreTrees [] (tree ∷ trees) = ⊥
AreTrees (file ∷ files) [] = ⊥
AreTrees (file ∷ files) (tree ∷ trees) = IsParse file.edition file.text (Derived tree) × AreTrees files trees

-- the library, which each package may import
abbrev pub fmt : Importable
fmt = record { path = codes "fmt"; name = codes "fmt"; exports = library }

-- the edition that the files of a package are written in: where they differ, that of the first
abbrev pub package_edition : List Parsed → Edition
package_edition files = elim files [ [] ↦ One | file ∷ rest ↦ file.edition ]

-- the files at a path, which may import these packages too, are typed to this one
pub record AreTyped (path : List ℕ) (files : List Parsed) (imports : List Importable) (typed : Package) : Type 0 where
  pub trees : List File
  pub parse : AreTrees files trees
  pub is : IsTypedIn (package_edition files) (package_in (package_edition files) path trees (fmt ∷ imports)) trees (fmt ∷ imports) (map (λ f. f.name) files) typed

-- or this is the first fault of their package, in the file of that number
pub record HaveFault (path : List ℕ) (files : List Parsed) (imports : List Importable) (fault : Fault) : Type 0 where
  pub trees : List File
  pub parse : AreTrees files trees
  pub number : ℕ
  pub name : slice_get (map (λ f. f.name) files) number ≡ Some fault.file
  pub is : IsFaultOf (package_edition files) path trees (fmt ∷ imports) (Some (number, (fault.place, fault.kind)))

-- they are typed, or have a fault
abbrev pub AreTypedOrFaulty : List ℕ → List Parsed → List Importable → Type 0
AreTypedOrFaulty path files imports = SomeOne (AreTyped path files imports) ⊎ SomeOne (HaveFault path files imports)

-- this holds by the summaries of packages where it holds by the packages themselves, and nowhere else
abbrev pub HoldsBySummaries : List Package → (List Importable → Type 0) → Type 0
HoldsBySummaries packages Holds = Holds (map importable_by (map summary_of packages)) ↔ Holds (map importable_of packages)
