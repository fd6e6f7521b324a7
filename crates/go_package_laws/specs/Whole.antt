-- A typed package that leaves out nothing that its files declare.
use Rattle.std.specs.Prelude.{◌≡◌, ℕ, suc, Bool, true, false, not, bytes_eq, codes, if◌then◌else◌, List, [], ◌∷◌, ◌++◌, Option, map}
use Rattle.std.specs.Fmt.{decimal}
use Rattle.std.specs.List.{filter, flat_map}
use Rattle.go_text.specs.declared.edition.Edition.{Edition}
use Rattle.go_ast.specs.Parse.{IsParse, Derived}
use Rattle.go_ast.specs.Trees.{no_exprs, some_exprs, VarSpec, variables, TopLevel, declared, function, File}
use Rattle.go_typed.specs.Trees as typed
use Rattle.go_objects.specs.Objects.{Form, constant, type', typed_variable, valued_variable, result_variable, DeclaredObject, objects_from, objects_of}
use Rattle.go_objects.specs.Table.{own_names}
use Rattle.go_package.specs.Typed.{own_name}

-- in an edition some text is parsed to each file
abbrev pub AreParsed : Edition → List File → Type 0
AreParsed edition [] = Unit {0}
AreParsed edition (f ∷ fs) = ((text : List ℕ) × IsParse edition text (Derived f)) × AreParsed edition fs

-- ---- objects by their forms

abbrev pub is_constant_form : Form → Bool
is_constant_form form = elim form [ constant t e iota ↦ true | _ ↦ false ]

abbrev pub is_type : Form → Bool
is_type form = elim form [ type' t ↦ true | _ ↦ false ]

abbrev pub is_variable : Form → Bool
is_variable form = elim form [ typed_variable t ↦ true | valued_variable e ↦ true | result_variable number count e ↦ true | _ ↦ false ]

-- the names of such objects
abbrev pub objects_named : (Form → Bool) → List DeclaredObject → List (List ℕ)
objects_named is os = map (λ (o : DeclaredObject). o.name.text) (filter (λ (o : DeclaredObject). is o.form) os)

-- an object whose name isn't blank
abbrev pub is_named : DeclaredObject → Bool
is_named o = not (bytes_eq o.name.text (codes "_"))

-- all that files declare, in the order of the text, but the blank names
abbrev pub all_declared_by : List File → List DeclaredObject
all_declared_by files = filter is_named (objects_from 0 files)

-- the objects of files are all that these declare
abbrev pub DropNothing : List File → Type 0
DropNothing files = objects_of files ≡ all_declared_by files

-- ---- declarations

abbrev pub in_files : {A : Type 0} → (TopLevel → List A) → List File → List A
in_files of files = flat_map (λ (f : File). flat_map of f.declarations) files

-- the name of a function, unless it is blank
abbrev pub function_names : TopLevel → List (List ℕ)
function_names top = elim top [ function f ↦ own_names (f.name ∷ []) | _ ↦ [] ]

-- functions init count from 1, by names that are no words
abbrev pub numbered_names : ℕ → List (List ℕ) → List (List ℕ)
numbered_names n [] = []
numbered_names n (x ∷ xs) = if bytes_eq x (codes "init") then (codes "init." ++ decimal n) ∷ numbered_names (suc n) xs else x ∷ numbered_names n xs

-- variables that get values where they are declared; a blank one has no name
abbrev pub valued_names : VarSpec → List (Option (List ℕ))
valued_names s = elim s.values [ no_exprs ↦ [] | some_exprs e es ↦ map own_name s.names ]

abbrev pub valued_in : TopLevel → List (Option (List ℕ))
valued_in top = elim top [ declared (variables p ss) ↦ flat_map valued_names ss | _ ↦ [] ]

-- each constant, type and variable that the files declare, the initialization of each variable that gets a value, and each function
pub record HasAllDeclarations (files : List File) (p : typed.Package) : Type 0 where
  pub constants : map (λ c. c.0) p.constants ≡ objects_named is_constant_form (all_declared_by files)
  pub types : map (λ t. t.0) p.types ≡ objects_named is_type (all_declared_by files)
  pub variables : map (λ (v : typed.Variable). v.name) p.variables ≡ objects_named is_variable (all_declared_by files)
  pub initializations : flat_map (λ (i : typed.Initialization). i.variables) p.initializations ≡ in_files valued_in files
  pub uses : map (λ u. u.0) p.uses ≡ in_files function_names files
  pub functions : map (λ (f : typed.Function). f.name) p.functions ≡ numbered_names 1 (in_files function_names files)
