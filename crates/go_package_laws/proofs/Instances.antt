-- Packages without fault: with an initial value, with a function init, with a value that depends on itself, and one that calls another's function.
use Rattle.std.proofs.Common.{◌≡◌, ℕ, zero, suc, List, [], ◌∷◌, ◌++◌, Option, Some, None, map, codes, refl, sym, ap, subst, arith}
use Rattle.std.specs.Prelude.{option_map}
use Rattle.std.specs.Fmt.{decimal}
use Rattle.std.specs.List.{slice_get, Contains}
use Rattle.std.specs.Str.{chars}
use Rattle.ucd_category.specs.GeneralCategory.{general_category}
use Rattle.ucd_category.specs.GeneralCategoryRows.{general_category_rows}
use Rattle.ucd_table.specs.Rows.{value_in}
use Rattle.go_text.specs.declared.edition.Edition.{Edition}
use Rattle.go_text.specs.declared.edition.Edition.TheVariants.{One}
use Rattle.go_text.specs.declared.place.Place.{Place}
use Rattle.go_ast.specs.Trees.{Name, named as type_named, name as name_expr, integer, selector, call, call_statement, simple, no_exprs, some_exprs, variables, Block, block, no_stmts, some_stmts, ImportSpec, TopLevel, declared, function, File}
use Rattle.ws_reach.specs.Reach.{Edge}
use Rattle.go_typed.specs.Trees as typed_trees
use Rattle.go_typed.specs.Trees.{Initialization, Package, Function as TypedFunction, global}
use Rattle.go_init.specs.Variables.{variable_order}
use Rattle.go_meaning.specs.Programs.{calls, package_steps, package_symbol}
use Rattle.go_expr.specs.Known.{Declared, value, function as known_function, Names, universe}
use Rattle.go_expr.specs.Rules.{fine, int}
use Rattle.go_objects.specs.Objects.{DeclaredObject}
use Rattle.go_objects.specs.Table.{rows, object_verdict, declared_in}
use Rattle.go_objects.specs.Table as objects
use Rattle.go_package.specs.Faults.{Facts}
use Rattle.go_stmt.specs.Functions.{function_at}
use Rattle.go_package.specs.Imports.{Importable}
use Rattle.go_package.specs.Packages.{package_in, package_faults, AreFacts}
use Rattle.go_package.specs.Typed.{typed_package, IsTypedIn}
use Rattle.go_export.specs.Exports.{exports_of}
use Rattle.go_check.specs.Names.{importable_of}

-- ---- what stands on nothing

abbrev AllEmpty : List (List ℕ) → Type 0
AllEmpty [] = Unit {0}
AllEmpty ([] ∷ others) = AllEmpty others
AllEmpty ((x ∷ xs) ∷ others) = ⊥

no_edge : (all : List (List ℕ)) → AllEmpty all → (i j : ℕ) → Edge all i j → ⊥
no_edge [] h i j (row, at, c) = cc (at)
no_edge ([] ∷ others) h zero j (row, at, c) = (let same : [] ≡ row = cc (at) in let none = subst (λ (r : List ℕ). Contains r j) (sym same) c in absurd (omega (arith, none.1)))
no_edge ([] ∷ others) h (suc i) j e = no_edge others h i j e
no_edge ((x ∷ xs) ∷ others) h i j e = h

each_at : {A B : Type 0} (f : A → B) (xs : List A) (k : ℕ) (x : A) → slice_get xs k ≡ Some x → slice_get (map f xs) k ≡ Some (f x)
each_at f [] k x at = absurd cc
each_at f (y ∷ ys) zero x at = ap (option_map f) at
each_at f (y ∷ ys) (suc k) x at = each_at f ys k x at

-- ---- trees

abbrev here : Place
here = record { line = 1; column = 1 }

abbrev name : List ℕ → Name
name x = record { text = x; place = here }

abbrev function_with : List ℕ → Block → TopLevel
function_with x body = function (record { place = here; name = name x; parameters = []; results = []; body = body })

-- func x() {}
abbrev function_named : List ℕ → TopLevel
function_named x = function_with x (block here no_stmts here)

-- var x = 5
abbrev valued : TopLevel
valued = declared (variables here (record { names = name (codes "x") ∷ []; type = None; values = some_exprs (integer here (codes "5")) no_exprs } ∷ []))

-- var x int = x
abbrev circular : TopLevel
circular = declared (variables here (record { names = name (codes "x") ∷ []; type = Some (type_named here (name (codes "int"))); values = some_exprs (name_expr here (codes "x")) no_exprs } ∷ []))

-- one file
abbrev pub files_with : List ℕ → List ImportSpec → List TopLevel → List File
files_with clause imports ds = record { «package» = name clause; imports = imports; declarations = ds } ∷ []

-- package main
abbrev pub files_of : List TopLevel → List File
files_of ds = files_with (codes "main") [] ds

abbrev pub file_names : List (List ℕ)
file_names = codes "a.go" ∷ []

module _ (edition : Edition) (path : List ℕ) (files : List File) (ps : List Importable) where
  abbrev pub whole : objects.PackageTable
  whole = package_in edition path files ps

  abbrev entry : Names → DeclaredObject → List ℕ × Option Declared
  entry known o = (o.name.text, declared_in (fine (object_verdict whole known o)))

  abbrev facts_of : Names → Facts
  facts_of known = record { «package» = whole; known = known; recursive = [] }

  are_facts : (known : Names) → known ≡ map (entry known) whole.objects → map (λ n. n.0) known ≡ map (λ (o : DeclaredObject). o.name.text) whole.objects → AllEmpty (rows whole) → AreFacts whole (facts_of known)
  are_facts known is named none = record {
    package_is = refl;
    known = record {
      named = named;
      grounded = λ k o at g. subst (λ (ks : Names). slice_get ks k ≡ Some (entry known o)) (sym is) (each_at (entry known) whole.objects k o at);
      others = λ k o at loops. absurd (loops (1, λ j edge. absurd (no_edge (rows whole) none k j edge)));
    };
    recursive = λ k. (λ marked. cc (marked), λ d. absurd (no_edge (rows whole) none d.0 k d.2));
  }

  abbrev pub typed : Names → Package
  typed known = typed_package edition (facts_of known) file_names files

  pub typed_in : (known : Names) → known ≡ map (entry known) whole.objects → map (λ n. n.0) known ≡ map (λ (o : DeclaredObject). o.name.text) whole.objects → AllEmpty (rows whole) → package_faults ps (facts_of known) files ≡ []
      → IsTypedIn edition whole files ps file_names (typed known)
  typed_in known is named empty none = record { facts = facts_of known; are = are_facts known is named empty; none = none; is = refl }

-- ---- packages

abbrev pub plain_tops : List TopLevel
plain_tops = function_named (codes "main") ∷ []

abbrev pub valued_tops : List TopLevel
valued_tops = valued ∷ plain_tops

abbrev pub circular_tops : List TopLevel
circular_tops = circular ∷ plain_tops

abbrev pub init_tops : List TopLevel
init_tops = function_named (codes "init") ∷ plain_tops

module _ (path : List ℕ) where
  abbrev pub main_known : Names
  main_known = (codes "main", Some (known_function (record { path = path; name = codes "main" }) [] [])) ∷ []

  abbrev pub valued_known : Names
  valued_known = (codes "x", Some (value (global int (record { path = path; name = codes "x" })))) ∷ main_known

  abbrev pub a_valued : Package
  a_valued = typed One path (files_of valued_tops) [] valued_known

  pub valued_typed : IsTypedIn One (package_in One path (files_of valued_tops) []) (files_of valued_tops) [] file_names a_valued
  unfolding function_at
  valued_typed = typed_in One path (files_of valued_tops) [] valued_known refl refl tt refl

  pub valued_is : (i : Initialization) × (variable_order a_valued ≡ (i ∷ [], []))
  unfolding function_at
  valued_is = (_, refl)

  abbrev pub a_circular : Package
  a_circular = typed One path (files_of circular_tops) [] valued_known

  pub circular_typed : IsTypedIn One (package_in One path (files_of circular_tops) []) (files_of circular_tops) [] file_names a_circular
  unfolding function_at universe
  circular_typed = typed_in One path (files_of circular_tops) [] valued_known refl refl tt refl

  pub circular_is : (i : Initialization) × (variable_order a_circular ≡ ([], i ∷ []))
  unfolding function_at universe
  circular_is = (_, refl)

  abbrev pub an_init : Package
  an_init = typed One path (files_of init_tops) [] main_known

  pub init_typed : IsTypedIn One (package_in One path (files_of init_tops) []) (files_of init_tops) [] file_names an_init
  unfolding function_at
  init_typed = typed_in One path (files_of init_tops) [] main_known refl refl tt refl

  pub init_is : package_steps an_init ≡ calls (package_symbol an_init (codes "init." ++ decimal 1)) ∷ []
  unfolding function_at
  init_is = refl

-- ---- one that calls another's function

abbrev pub library_path : List ℕ
library_path = codes "lib"

-- package lib; func F() {}
abbrev pub library_files : List File
library_files = files_with (codes "lib") [] (function_named (codes "F") ∷ [])

abbrev pub library_known : Names
library_known = (codes "F", Some (known_function (record { path = library_path; name = codes "F" }) [] [])) ∷ []

abbrev pub a_library : Package
a_library = typed One library_path library_files [] library_known

pub library_typed : IsTypedIn One (package_in One library_path library_files []) library_files [] file_names a_library
unfolding function_at
library_typed = typed_in One library_path library_files [] library_known refl refl tt refl

abbrev imports_library : ImportSpec
imports_library = record { place = here; name = None; path = library_path; path_place = here }

-- package main; import "lib"; func main() { lib.F() }
abbrev pub caller_files : List File
caller_files = files_with (codes "main") (imports_library ∷ []) (function_with (codes "main")
    (block here (some_stmts (simple here (call_statement (call here (selector here (name_expr here (codes "lib")) (name (codes "F"))) no_exprs))) no_stmts) here) ∷ [])

module _ (path : List ℕ) where
  abbrev pub a_caller : Package
  a_caller = typed One path caller_files (importable_of a_library ∷ []) (main_known path)

  pub caller_typed : IsTypedIn One (package_in One path caller_files (importable_of a_library ∷ [])) caller_files (importable_of a_library ∷ []) file_names a_caller
  unfolding function_at exports_of chars general_category value_in general_category_rows
  caller_typed = typed_in One path caller_files (importable_of a_library ∷ []) (main_known path) refl refl tt refl

  pub caller_calls : map (λ (f : TypedFunction). f.body) a_caller.functions ≡ typed_trees.some_stmts (typed_trees.run [] (package_symbol a_library (codes "F")) typed_trees.no_exprs) typed_trees.no_stmts ∷ []
  unfolding function_at exports_of chars general_category value_in general_category_rows
  caller_calls = refl

  pub caller_is : (variable_order a_caller).1 ≡ []
  unfolding function_at exports_of chars general_category value_in general_category_rows
  caller_is = refl

pub library_is : (variable_order a_library).1 ≡ []
unfolding function_at
library_is = refl
