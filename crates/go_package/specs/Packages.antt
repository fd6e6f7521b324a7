-- The first fault of a package.
use Rattle.std.specs.Prelude.{◌≡◌, ℕ, suc, ◌&&◌, ◌||◌, not, Bool, bytes_eq, codes, is_some, if◌then◌else◌, List, [], ◌∷◌, ◌++◌, map, Option}
use Rattle.std.specs.List.{slice_get, flat_map, list_any}
use Rattle.go_text.specs.declared.edition.Edition.{Edition}
use Rattle.go_text.specs.declared.place.Place.{Place}
use Rattle.go_text.specs.declared.fault.FaultKind.{FaultKind}
use Rattle.go_text.specs.declared.fault.FaultKind.TheVariants.{Redeclared, UnusedImport, Main}
use Rattle.go_ast.specs.Trees.{Name, ConstSpec, VarSpec, TypeSpec, constants, variables, types, FunctionDecl, TopLevel, declared, function, File}
use Rattle.go_expr.specs.Known.{Names}
use Rattle.go_uses.specs.Uses.{file_refers}
use Rattle.go_objects.specs.Objects.{DeclaredObject, objects_from, objects_of}
use Rattle.go_objects.specs.Table.{PackageTable, number_of, rows, IsTable}
use Rattle.go_package.specs.Faults.{Facts, Faults, AreRecursive, object_faults, top_faults}
use Rattle.go_package.specs.Imports.{Importable, imports_in, imports_of}

-- the package of an edition at a path: what its files import and declare
abbrev pub package_in : Edition → List ℕ → List File → List Importable → PackageTable
package_in edition path files ps = record { path = path; edition = edition; imports = imports_of ps files; objects = objects_of files }

-- what holds of a package: what is known of its names, and which of them depend on themselves
pub record AreFacts (p : PackageTable) (t : Facts) : Type 0 where
  pub package_is : t.package ≡ p
  pub known : IsTable p t.known
  pub recursive : AreRecursive (rows p) t.recursive

-- ---- imports: https://go.dev/ref/spec#Import_declarations

-- an import's name is that of one before it or of a declaration of the package, or the file doesn't refer to it
abbrev pub import_faults : Facts → File → List (List ℕ) → Place → List ℕ → Faults
import_faults t file before p x =
    if list_any (bytes_eq x) before || is_some (number_of t.package.objects x) then (p, Redeclared) ∷ []
    else (if file_refers x file then [] else (p, UnusedImport) ∷ [])

abbrev pub imports_faults : Facts → File → List (List ℕ) → List (Place × (List ℕ × Names)) → Faults
imports_faults t file before [] = []
imports_faults t file before (i ∷ is) = import_faults t file before i.0 (i.1).0 ++ imports_faults t file (before ++ (i.1).0 ∷ []) is

-- ---- files: imports, then declarations in the order of the text

abbrev pub file_faults : List Importable → Facts → ℕ → File → Faults
file_faults ps t number file = imports_faults t file [] (imports_in ps file.imports) ++ flat_map (top_faults t number) file.declarations

-- each fault behind the number of its file
abbrev pub FileFaults : Type 0
FileFaults = List (ℕ × (Place × FaultKind))

abbrev pub each_file : (ℕ → File → Faults) → ℕ → List File → FileFaults
each_file faults number [] = []
each_file faults number (f ∷ fs) = map (λ x. (number, x)) (faults number f) ++ each_file faults (suc number) fs

-- ---- specifications that hide one another

-- Each names a faulty one of another, so none is asked. The first constant, or variable without a type, that is faulty by itself is told behind the others,
-- whether its name is blank or not.
abbrev pub numbered_faults : Facts → DeclaredObject → FileFaults
numbered_faults t o = map (λ x. (o.file, x)) (object_faults t o)

abbrev pub objects_faults : Facts → List File → FileFaults
objects_faults t files = flat_map (numbered_faults t) (objects_from 0 files)

-- ---- main and init: https://go.dev/ref/spec#Program_execution and https://go.dev/ref/spec#Package_initialization

-- names that nothing has but functions without parameters and results
abbrev pub is_reserved_name : List ℕ → Name → Bool
is_reserved_name clause n = bytes_eq n.text (codes "init") || (bytes_eq clause (codes "main") && bytes_eq n.text (codes "main"))

abbrev pub reserved_faults : List ℕ → Name → Faults
reserved_faults clause n = if is_reserved_name clause n then (n.place, Main) ∷ [] else []

abbrev pub function_name_faults : List ℕ → FunctionDecl → Faults
function_name_faults clause f = elim f.parameters [
  | [] ↦ elim f.results [ [] ↦ [] | t ∷ ts ↦ reserved_faults clause f.name ]
  | p ∷ ps ↦ reserved_faults clause f.name
]

abbrev pub reserved_names_faults : List ℕ → TopLevel → Faults
reserved_names_faults clause (declared (constants p ss)) = flat_map (λ (s : ConstSpec). flat_map (reserved_faults clause) s.names) ss
reserved_names_faults clause (declared (variables p ss)) = flat_map (λ (s : VarSpec). flat_map (reserved_faults clause) s.names) ss
reserved_names_faults clause (declared (types p ss)) = flat_map (λ (s : TypeSpec). reserved_faults clause s.name) ss
reserved_names_faults clause (function f) = function_name_faults clause f

-- a package that is named main has a function main
abbrev pub absent_main_faults : Facts → Name → FileFaults
absent_main_faults t clause =
    if bytes_eq clause.text (codes "main") && not (is_some (number_of t.package.objects (codes "main"))) then (0, (clause.place, Main)) ∷ [] else []

-- a package is named by its first file's clause
abbrev pub main_faults : Facts → List File → FileFaults
main_faults t [] = []
main_faults t (f ∷ fs) =
    each_file (λ number file. flat_map (reserved_names_faults f.package.text) file.declarations) 0 (f ∷ fs) ++ absent_main_faults t f.package

-- ---- packages

abbrev pub package_faults : List Importable → Facts → List File → FileFaults
package_faults ps t files = each_file (file_faults ps t) 0 files ++ (objects_faults t files ++ main_faults t files)

-- the fault of the package that some files are, if it has one
pub record IsFaultIn (p : PackageTable) (files : List File) (ps : List Importable) (fault : Option (ℕ × (Place × FaultKind))) : Type 0 where
  pub facts : Facts
  pub are : AreFacts p facts
  pub first : slice_get (package_faults ps facts files) 0 ≡ fault

abbrev pub IsFaultOf : Edition → List ℕ → List File → List Importable → Option (ℕ × (Place × FaultKind)) → Type 0
IsFaultOf edition path files ps = IsFaultIn (package_in edition path files ps) files ps
