-- How the code's values stand for those of the definitions, and what its answers say.
use Rattle.std.specs.Prelude.{◌≡◌, ℕ, List, [], ◌∷◌, Result, Ok, Err, map}
use Rattle.std.specs.Borrow.{Bor}
use Rattle.go_text.specs.declared.place.Place.{Place}
use Rattle.go_text.specs.declared.fault.FaultKind.{FaultKind}
use Rattle.go_ast.specs.Trees as trees
use Rattle.go_ast.specs.Views.{file_of}
use Rattle.go_ast.specs.declared.file.File.{File}
use Rattle.go_typed.specs.Trees as typed
use Rattle.go_typed.specs.Views.{initialization_of, uses_of, as_function}
use Rattle.go_expr.specs.Known.{Names}
use Rattle.go_expr.specs.declared.error.ExprError.{ExprError}
use Rattle.go_expr.specs.Views.{names_of, Fails}
use Rattle.go_objects.specs.Packages.{package_of}
use Rattle.go_package.specs.declared.bodies.Bodies.{Bodies}
use Rattle.go_package.specs.declared.error.DeclError.{DeclError}
use Rattle.go_package.specs.declared.error.DeclError.TheVariants as errors
use Rattle.go_package.specs.declared.facts.Facts as facts
use Rattle.go_package.specs.Faults.{Facts, Faults}
use Rattle.go_package.specs.Imports as imports
use Rattle.go_package.specs.declared.import.Importable.{Importable}
use Rattle.go_package.specs.declared.import.Imported.{Imported}

abbrev pub importable_view : Importable → imports.Importable
importable_view p = record { path = p.path.now; name = p.name.now; exports = names_of p.exports.now }

-- what an import declares, with its place
abbrev pub imported_of : Imported → Place × (List ℕ × Names)
imported_of i = (i.place, (i.import.name.now, names_of i.import.exports.now))

abbrev pub importables_of : List Importable → List imports.Importable
importables_of ps = map importable_view ps

abbrev pub files_of : List (Bor File) → List trees.File
files_of fs = map (λ f. file_of f.now) fs

-- the texts of names
abbrev pub texts_in : List (Bor (List ℕ)) → List (List ℕ)
texts_in names = map (λ n. n.now) names

-- what is kept of declarations: initial values, what functions use, and functions
abbrev pub initial_in : Bodies → List typed.Initialization
initial_in b = map initialization_of b.initializations.items

abbrev pub uses_in : Bodies → List (List ℕ × List (List ℕ))
uses_in b = map uses_of b.uses.items

abbrev pub functions_in : Bodies → List typed.Function
functions_in b = map as_function b.functions.items

unfoldable pub facts_of : facts.Facts → Facts
facts_of f = record { «package» = package_of f.package.now; known = names_of f.known.now; recursive = f.recursive.items }

-- Ok where a file has no fault, else its first one
abbrev pub Finds : {X : Type 0} → Result X ExprError → Faults → Type 0
Finds (Ok x) faults = faults ≡ []
Finds (Err e) faults = Fails e faults

-- the first of the faults of some files, unless memory ran out
abbrev pub FailsIn : DeclError → List (ℕ × (Place × FaultKind)) → Type 0
FailsIn errors.Memory faults = Unit {0}
FailsIn (errors.Faulty file place kind) faults = (others : List (ℕ × (Place × FaultKind))) × (faults ≡ (file, (place, kind)) ∷ others)

-- Ok where some files have no fault, else their first one
abbrev pub FindsIn : {X : Type 0} → Result X DeclError → List (ℕ × (Place × FaultKind)) → Type 0
FindsIn (Ok x) faults = faults ≡ []
FindsIn (Err e) faults = FailsIn e faults
