-- What the answers about a package and its declarations say.
use Rattle.std.specs.Prelude.{ℕ, if◌then◌else◌, List, [], ◌∷◌, Option, Some, None, Result, Ok, Err}
use Rattle.std.specs.List.{flat_map}
use Rattle.go_text.specs.declared.edition.Edition.{Edition}
use Rattle.go_text.specs.declared.place.Place.{Place}
use Rattle.go_text.specs.declared.fault.FaultKind.{FaultKind}
use Rattle.go_ast.specs.Trees.{Name, TopLevel, File}
use Rattle.go_typed.specs.Trees.{Function, Package}
use Rattle.go_typed.specs.Views.{typed_of}
use Rattle.go_typed.specs.declared.package.Typed.{Typed}
use Rattle.go_scope.specs.Scopes.{is_blank}
use Rattle.go_objects.specs.Table as table
use Rattle.go_package.specs.declared.error.DeclError.{DeclError}
use Rattle.go_package.specs.declared.error.DeclError.TheVariants as errors
use Rattle.go_package.specs.Imports.{Importable}
use Rattle.go_package.specs.Packages.{IsFaultIn}
use Rattle.go_package.specs.Typed.{IsTypedIn}

-- a function that is checked is one of the package, unless its name is blank
abbrev pub kept : Name → Option Function → List Function
kept n known = elim known [ None ↦ [] | Some f ↦ if is_blank n.text then [] else f ∷ [] ]

-- what the declarations of a file come to
abbrev pub in_file : {A : Type 0} → (ℕ → TopLevel → List A) → ℕ → File → List A
in_file f number file = flat_map (f number) file.declarations

-- Ok has the typed package, Faulty tells the first fault
abbrev pub Types : Result Typed DeclError → (Package → Type 0) → (Option (ℕ × (Place × FaultKind)) → Type 0) → Type 0
Types (Ok t) IsTyped IsFault = IsTyped (typed_of t)
Types (Err (errors.Faulty file p kind)) IsTyped IsFault = IsFault (Some (file, (p, kind)))
Types (Err errors.Memory) IsTyped IsFault = Unit {0}

-- of these files and what they may import: their typed package, or the fault of theirs
abbrev pub TypesIn : Edition → table.PackageTable → List File → List Importable → List (List ℕ) → Result Typed DeclError → Type 0
TypesIn edition p files ps names result = Types result (IsTypedIn edition p files ps names) (IsFaultIn p files ps)
