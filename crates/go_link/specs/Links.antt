-- What objects are linked to.
use Rattle.std.specs.Prelude.{◌≡◌, ℕ, ◌+◌, ◌-◌, Bool, false, ◌&&◌, not, if◌then◌else◌, List, [], ◌∷◌, ◌++◌, length, map, slice_get, codes, Option, Some, None}
use Rattle.std.specs.List.{filter, filter_map, flat_map, list_any, position_or_len, starts_with}
use Rattle.std.specs.Str.{bytes_eq}
use Rattle.std.specs.Prelude.{nat_eq}
use Rattle.go_text.specs.declared.edition.Edition.{Edition}
use Rattle.go_text.specs.declared.edition.Edition.TheVariants.{One}
use Rattle.go_text.specs.Editions.{edition_number}
use Rattle.go_code.specs.declared.cell.Cell.{Cell}
use Rattle.go_code.specs.declared.image.Start.{Start}
use Rattle.go_code.specs.declared.image.Start.TheVariants.{Setup as Set_up, Function as Run}
use Rattle.go_code.specs.declared.instr.Instr.{Instr}
use Rattle.go_code.specs.declared.instr.Instr.TheVariants.{Global as On_globals, Calls as By_call}
use Rattle.go_code.specs.declared.instr.CallInstr.{CallInstr}
use Rattle.go_code.specs.declared.instr.CallInstr.TheVariants.{Call, Return}
use Rattle.go_code.specs.Functions.{FunctionCode, Setup}
use Rattle.go_code.specs.Images.{Image}
use Rattle.go_code.specs.Packages.{Object, PackageFunction}
use Rattle.go_code.specs.Referred.{Changes, reference_of, refer_function, refer_setup}
use Rattle.go_symbol.specs.Symbols.{Symbol, same_symbol}
use Rattle.go_link.specs.declared.link.LinkError.{LinkError}
use Rattle.go_link.specs.declared.link.LinkError.TheVariants.{Memory, NoMain, NameMissing, EditionsDiffer}

-- the objects at these indexes
abbrev pub objects_in_order : List Object → List ℕ → List Object
objects_in_order objects order = filter_map (slice_get objects) order

-- ---- names

abbrev pub object_symbol : Object → List ℕ → Symbol
object_symbol o name = record { path = o.path; name = name }

-- the functions, one package's behind another's, each package's in declaration order
abbrev pub function_symbols : List Object → List Symbol
function_symbols packages = flat_map (λ o. map (λ f. object_symbol o f.name) o.functions) packages

-- the number of the function that a symbol names: its index among all
abbrev pub function_number : List Symbol → Symbol → ℕ
function_number names s = position_or_len (same_symbol s) names

-- a variable's symbol, and how many cells it has
abbrev pub LinkedVariable : Type 0
LinkedVariable = Symbol × ℕ

-- the variables, one package's behind another's, each package's in declaration order
abbrev pub variables : List Object → List LinkedVariable
variables packages = flat_map (λ o. map (λ v. (object_symbol o v.name, length v.zero)) o.variables) packages

-- the first cell of the variable that a symbol names, where the variables lie side by side
abbrev pub first_cell_of : List LinkedVariable → Symbol → ℕ
first_cell_of [] s = 0
first_cell_of (v ∷ vs) s = if same_symbol s v.0 then 0 else v.1 + first_cell_of vs s

-- the call goes to none of the functions
abbrev pub misses : List Symbol → CallInstr Symbol → Bool
misses names (Call s) = not (list_any (same_symbol s) names)
misses names (Return count) = false

-- the instruction refers to none of the functions, or to none of the variables
abbrev pub is_missing_symbol : List Symbol → List LinkedVariable → Instr Symbol → Bool
is_missing_symbol names held (By_call i) = misses names i
is_missing_symbol names held (On_globals i) = not (list_any (λ v. same_symbol (reference_of i) v.0) held)
is_missing_symbol names held other = false

-- all code of a package
abbrev pub code_of : Object → List (Instr Symbol)
code_of o = flat_map (λ f. f.function.code) o.functions ++ flat_map (λ s. s.code) o.setups

-- some instruction of the packages refers to no function or variable
abbrev pub name_missing : List Object → Bool
name_missing packages = list_any (is_missing_symbol (function_symbols packages) (variables packages)) (flat_map code_of packages)

-- ---- main

abbrev pub last_object : List Object → Option Object
last_object packages = slice_get packages (length packages - 1)

abbrev pub has_main_in : Option Object → Bool
has_main_in None = false
has_main_in (Some o) = bytes_eq o.name (codes "main") && list_any (λ f. bytes_eq f.name (codes "main")) o.functions

-- the last package is named main and has a function main
abbrev pub has_main : List Object → Bool
has_main packages = has_main_in (last_object packages)

-- ---- editions

-- the edition that the last package is of
abbrev pub object_edition : Option Object → Edition
object_edition None = One
object_edition (Some o) = o.edition

-- the package is of another edition
abbrev pub is_of_other : Edition → Object → Bool
is_of_other edition o = not (nat_eq (edition_number o.edition) (edition_number edition))

-- some package is of another edition than the last
abbrev pub editions_differ : List Object → Bool
editions_differ packages = list_any (is_of_other (object_edition (last_object packages))) packages

-- ---- refusals

-- why packages are not linked: the first that holds
abbrev pub link_refusal : List Object → Option LinkError
link_refusal packages =
    if not (has_main packages) then Some NoMain
    else (if name_missing packages then Some NameMissing
    else (if editions_differ packages then Some EditionsDiffer
    else None))

-- memory may run out for any objects; each other answer is right
abbrev pub IsLinkRefusal : LinkError → Option LinkError → Type 0
IsLinkRefusal Memory wrong = Unit {0}
IsLinkRefusal NoMain wrong = wrong ≡ Some NoMain
IsLinkRefusal NameMissing wrong = wrong ≡ Some NameMissing
IsLinkRefusal EditionsDiffer wrong = wrong ≡ Some EditionsDiffer

-- ---- the image

-- functions by their numbers, variables by their first cells
abbrev pub symbol_numbers : List Symbol → List LinkedVariable → Changes Symbol ℕ
symbol_numbers names held = record { functions = function_number names; variables = first_cell_of held }

-- the function with numbers in place of symbols
abbrev pub linked_function : List Symbol → List LinkedVariable → PackageFunction → FunctionCode ℕ
linked_function names held f = refer_function (symbol_numbers names held) f.function

abbrev pub linked_setup : List Symbol → List LinkedVariable → Setup Symbol → Start
linked_setup names held s = Set_up (refer_setup (symbol_numbers names held) s)

-- a function that is called as its package is initialized: the name is `init.` and a number
abbrev pub is_init_symbol : PackageFunction → Bool
is_init_symbol f = starts_with nat_eq f.name (codes "init.")

abbrev pub start_of : List Symbol → Object → List ℕ → Start
start_of names o name = Run (function_number names (object_symbol o name))

-- a package's setups, then its inits
abbrev pub package_starts : List Symbol → List LinkedVariable → Object → List Start
package_starts names held o = map (linked_setup names held) o.setups ++ map (λ f. start_of names o f.name) (filter is_init_symbol o.functions)

abbrev pub main_start : List Symbol → Option Object → List Start
main_start names None = []
main_start names (Some o) = start_of names o (codes "main") ∷ []

abbrev pub zero_cells : Object → List Cell
zero_cells o = flat_map (λ v. v.zero) o.variables

-- variables and functions package by package, each package's in declaration order; the start steps package by package, and main at last
abbrev pub linked : List Object → Image
linked packages = record {
  edition = object_edition (last_object packages);
  globals = flat_map zero_cells packages;
  functions = flat_map (λ o. map (linked_function (function_symbols packages) (variables packages)) o.functions) packages;
  starts = flat_map (package_starts (function_symbols packages) (variables packages)) packages ++ main_start (function_symbols packages) (last_object packages);
}

-- the image that objects are linked to, the packages in an order
abbrev pub Links : List Object → List ℕ → Image → Type 0
Links objects order image = (link_refusal (objects_in_order objects order) ≡ None) × (image ≡ linked (objects_in_order objects order))
