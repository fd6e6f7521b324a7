-- What the objects of packages are linked to: their functions by their numbers, their variables' cells and their start steps.
use Rattle.std.proofs.Common.{◌≡◌, ℕ, ◌+◌, Bool, true, false, not, List, [], ◌∷◌, ◌++◌, length, map, Option, None, Some, refl, sym, ap, ◌∙◌, cond}
use Rattle.std.specs.Prelude.{◌-◌, slice_get}
use Rattle.std.specs.List.{filter, find, flat_map, position_or_len, prefix_len}
use Rattle.std.specs.Option.{option_map}
use Rattle.std.proofs.lemmas.List.{map-append, length-map}
use Rattle.std.proofs.lemmas.List.Folds.{find_at}
use Rattle.std.proofs.lemmas.Option.{slice_get-map}
use Rattle.go_code.specs.declared.image.Start.{Start}
use Rattle.go_code.specs.declared.image.Start.TheVariants.{Setup as Set_up, Function as Run}
use Rattle.go_code.specs.Functions as in_code
use Rattle.go_code.specs.Images.{Image}
use Rattle.go_code.specs.Packages.{Object, PackageFunction, PackageVariable}
use Rattle.go_symbol.specs.Symbols as symbols
use Rattle.go_symbol.specs.Symbols.{same_symbol}
use Rattle.go_link.specs.Links.{LinkedVariable, object_symbol as code_symbol, function_symbols, variables, first_cell_of, function_number, symbol_numbers, linked_function, linked_setup, zero_cells as object_zeros, is_init_symbol as is_object_init, package_starts, main_start, last_object as last_object, object_edition as object_edition, linked}
use Rattle.go_typed.specs.Trees.{Symbol, Function, Initialization, Variable, Package}
use Rattle.go_init.specs.Variables.{variable_order}
use Rattle.go_meaning.specs.Values.{flat, zero_of}
use Rattle.go_meaning.specs.Programs.{DeclaredFunction, package_symbol, package_functions, function_by_symbol, is_init, last_package, program_edition, StartStep, sets, calls, package_steps, main_steps, start_steps, first_variables}
use Rattle.go_gen.specs.Translation.{translated, symbol_code, translated_function, translated_variable, translated_setup, object_of}
use Rattle.go_translation_laws.proofs.Runs.{held}
use Rattle.go_translation_laws.proofs.FirstVariables.{stored_first, held_behind}
use Rattle.go_translation_laws.proofs.ReferredBodies.{function_referred}
use Rattle.go_translation_laws.proofs.Setups.{setup_referred}

-- ---- places of names

-- two tests that agree element by element find the same place
place_same : {A B : Type 0} (p : A → Bool) (q : B → Bool) (h : A → B) → ((a : A) → q (h a) ≡ p a) → (xs : List A) → position_or_len q (map h xs) ≡ position_or_len p xs
place_same p q h same [] = refl
place_same p q h same (x ∷ xs) =
    ap (λ b. cond (not b) (1 + prefix_len (λ y. not (q y)) (map h xs)) 0) (same x)
    ∙ ap (λ n. cond (not (p x)) (1 + n) 0) (place_same p q h same xs)

-- the objects of packages
abbrev pub objects_of : List Package → List Object
objects_of packages = map object_of packages

-- the functions of packages
abbrev pub all_functions : List Package → List DeclaredFunction
all_functions packages = flat_map package_functions packages

-- the linker's number of a symbol, for the objects of packages
abbrev pub linked_number : List Package → Symbol → ℕ
linked_number packages s = function_number (function_symbols (objects_of packages)) (symbol_code s)

-- where the packages' variables lie
abbrev pub slot_in : List Package → Symbol → ℕ
slot_in packages s = first_cell_of (variables (objects_of packages)) (symbol_code s)

-- a function in the image of packages
abbrev pub compiled : List Package → Function → in_code.FunctionCode ℕ
compiled packages f = translated (slot_in packages) (linked_number packages) f

abbrev pub declared_in : Package → Function → DeclaredFunction
declared_in typed f = record { symbol = package_symbol typed f.name; function = f }

abbrev pub symbol_in : DeclaredFunction → symbols.Symbol
symbol_in d = symbol_code d.symbol

names_each : (typed : Package) (fs : List Function) → map (λ (f : PackageFunction). code_symbol (object_of typed) f.name) (map translated_function fs) ≡ map symbol_in (map (declared_in typed) fs)
names_each typed [] = refl
names_each typed (f ∷ fs) = ap (λ l. symbol_code (package_symbol typed f.name) ∷ l) (names_each typed fs)

-- the linker's names are those of the packages' functions
pub names_linked : (packages : List Package) → function_symbols (objects_of packages) ≡ map symbol_in (all_functions packages)
names_linked [] = refl
names_linked (p ∷ packages) =
    ap (λ l. l ++ function_symbols (objects_of packages)) (names_each p p.functions)
    ∙ ap (λ l. map symbol_in (package_functions p) ++ l) (names_linked packages)
    ∙ sym (map-append symbol_in (package_functions p) (all_functions packages))

number_same : (packages : List Package) (s : Symbol) → linked_number packages s ≡ position_or_len (λ d. same_symbol s d.symbol) (all_functions packages)
number_same packages s =
    ap (position_or_len (same_symbol (symbol_code s))) (names_linked packages)
    ∙ place_same (λ (d : DeclaredFunction). same_symbol s d.symbol) (same_symbol (symbol_code s)) symbol_in (λ d. refl) (all_functions packages)

-- ---- functions

functions_each : (typed : Package) (all : List symbols.Symbol) (held : List LinkedVariable) (fs : List Function) → map (linked_function all held) (map translated_function fs) ≡ map (λ (d : DeclaredFunction). translated (λ s. first_cell_of held (symbol_code s)) (λ s. function_number all (symbol_code s)) d.function) (map (declared_in typed) fs)
functions_each typed all held [] = refl
functions_each typed all held (f ∷ fs) =
    ap (λ g. g ∷ map (linked_function all held) (map translated_function fs)) (function_referred (symbol_numbers all held) symbol_code symbol_code f)
    ∙ ap (λ l. translated (λ s. first_cell_of held (symbol_code s)) (λ s. function_number all (symbol_code s)) f ∷ l) (functions_each typed all held fs)

functions_linked : (all : List symbols.Symbol) (held : List LinkedVariable) (packages : List Package) → flat_map (λ (o : Object). map (linked_function all held) o.functions) (objects_of packages) ≡ map (λ (d : DeclaredFunction). translated (λ s. first_cell_of held (symbol_code s)) (λ s. function_number all (symbol_code s)) d.function) (all_functions packages)
functions_linked all held [] = refl
functions_linked all held (p ∷ packages) =
    let image_of : DeclaredFunction → in_code.FunctionCode ℕ = λ d. translated (λ s. first_cell_of held (symbol_code s)) (λ s. function_number all (symbol_code s)) d.function in
    ap (λ l. l ++ flat_map (λ (o : Object). map (linked_function all held) o.functions) (objects_of packages)) (functions_each p all held p.functions)
    ∙ ap (λ l. map image_of (package_functions p) ++ l) (functions_linked all held packages)
    ∙ sym (map-append image_of (package_functions p) (all_functions packages))

-- what is made of what is found
made_of : {B : Type 0} (h : Function → B) (o : Option DeclaredFunction) (f : Function) → option_map (λ d. d.function) o ≡ Some f → option_map (λ d. h d.function) o ≡ Some (h f)
made_of h None f e = absurd (cc)
made_of h (Some d) f e = let same : d.function ≡ f = cc in ap (λ g. Some (h g)) same

found_linked : (packages : List Package) (s : Symbol) (f : Function) → function_by_symbol packages s ≡ Some f → slice_get (linked (objects_of packages)).functions (linked_number packages s) ≡ Some (compiled packages f)
found_linked packages s f e =
    let ds = all_functions packages in
    let image_of : DeclaredFunction → in_code.FunctionCode ℕ = λ d. compiled packages d.function in
    let is : DeclaredFunction → Bool = λ d. same_symbol s d.symbol in
    ap (λ l. slice_get l (linked_number packages s)) (functions_linked (function_symbols (objects_of packages)) (variables (objects_of packages)) packages)
    ∙ ap (slice_get (map image_of ds)) (number_same packages s)
    ∙ slice_get-map image_of ds _
    ∙ ap (option_map image_of) (sym (find_at is ds))
    ∙ made_of (compiled packages) (find is ds) f e

-- ---- start steps

-- the image's step for one of the source
abbrev pub start_of : (Symbol → ℕ) → (Symbol → ℕ) → StartStep → Start
start_of globals number (sets path i) = Set_up (translated_setup globals number path i)
start_of globals number (calls s) = Run (number s)

-- an element that is kept or not
kept : {A B : Type 0} (b : Bool) (h : A → B) (x : A) (xs : List A) → map h (cond b (x ∷ xs) xs) ≡ cond b (h x ∷ map h xs) (map h xs)
kept true h x xs = refl
kept false h x xs = refl

inits_linked : (typed : Package) (globals number : Symbol → ℕ) (fs : List Function) → map (λ (f : PackageFunction). Run (number (package_symbol typed f.name))) (filter is_object_init (map translated_function fs)) ≡ map (start_of globals number) (map (λ f. calls (package_symbol typed f.name)) (filter is_init fs))
inits_linked typed globals number [] = refl
inits_linked typed globals number (f ∷ fs) =
    kept (is_init f) (λ (g : PackageFunction). Run (number (package_symbol typed g.name))) (translated_function f) (filter is_object_init (map translated_function fs))
    ∙ ap (λ l. cond (is_init f) (Run (number (package_symbol typed f.name)) ∷ l) l) (inits_linked typed globals number fs)
    ∙ sym (ap (map (start_of globals number)) (kept (is_init f) (λ (g : Function). calls (package_symbol typed g.name)) f (filter is_init fs)) ∙ kept (is_init f) (start_of globals number) (calls (package_symbol typed f.name)) (map (λ (g : Function). calls (package_symbol typed g.name)) (filter is_init fs)))

-- a package's setups
setups_linked : (all : List symbols.Symbol) (held : List LinkedVariable) (path : List ℕ) (is : List Initialization) → map (linked_setup all held) (map (translated_setup symbol_code symbol_code path) is) ≡ map (start_of (λ s. first_cell_of held (symbol_code s)) (λ s. function_number all (symbol_code s))) (map (sets path) is)
setups_linked all held path [] = refl
setups_linked all held path (i ∷ is) =
    ap (λ s. Set_up s ∷ map (linked_setup all held) (map (translated_setup symbol_code symbol_code path) is)) (setup_referred (symbol_numbers all held) symbol_code symbol_code path i)
    ∙ ap (λ l. Set_up (translated_setup (λ s. first_cell_of held (symbol_code s)) (λ s. function_number all (symbol_code s)) path i) ∷ l) (setups_linked all held path is)

package_linked : (all : List symbols.Symbol) (held : List LinkedVariable) (p : Package) → package_starts all held (object_of p) ≡ map (start_of (λ s. first_cell_of held (symbol_code s)) (λ s. function_number all (symbol_code s))) (package_steps p)
package_linked all held p =
    let globals : Symbol → ℕ = λ s. first_cell_of held (symbol_code s) in
    let number : Symbol → ℕ = λ s. function_number all (symbol_code s) in
    let inits : List StartStep = map (λ (f : Function). calls (package_symbol p f.name)) (filter is_init p.functions) in
    ap (λ l. l ++ map (λ (f : PackageFunction). Run (number (package_symbol p f.name))) (filter is_object_init (map translated_function p.functions))) (setups_linked all held p.path (variable_order p).0)
    ∙ ap (λ l. map (start_of globals number) (map (sets p.path) (variable_order p).0) ++ l) (inits_linked p globals number p.functions)
    ∙ sym (map-append (start_of globals number) (map (sets p.path) (variable_order p).0) inits)

-- package by package
steps_linked : (all : List symbols.Symbol) (held : List LinkedVariable) (packages : List Package) → flat_map (package_starts all held) (objects_of packages) ≡ map (start_of (λ s. first_cell_of held (symbol_code s)) (λ s. function_number all (symbol_code s))) (flat_map package_steps packages)
steps_linked all held [] = refl
steps_linked all held (p ∷ packages) =
    let start : StartStep → Start = start_of (λ s. first_cell_of held (symbol_code s)) (λ s. function_number all (symbol_code s)) in
    ap (λ l. l ++ flat_map (package_starts all held) (objects_of packages)) (package_linked all held p)
    ∙ ap (λ l. map start (package_steps p) ++ l) (steps_linked all held packages)
    ∙ sym (map-append start (package_steps p) (flat_map package_steps packages))

-- the last package's object is the last
pub last_linked : (packages : List Package) → last_object (objects_of packages) ≡ option_map object_of (last_package packages)
last_linked packages = ap (λ n. slice_get (objects_of packages) (n - 1)) (length-map packages object_of) ∙ slice_get-map object_of packages (length packages - 1)

edition_same : (o : Option Package) → object_edition (option_map object_of o) ≡ program_edition o
edition_same None = refl
edition_same (Some p) = refl

-- the last object is of the edition of the last package
pub last_edition : (packages : List Package) → object_edition (last_object (objects_of packages)) ≡ program_edition (last_package packages)
last_edition packages = ap object_edition (last_linked packages) ∙ edition_same (last_package packages)

-- and so is what the objects are linked to
pub edition_linked : (packages : List Package) → (linked (objects_of packages)).edition ≡ program_edition (last_package packages)
edition_linked packages = last_edition packages

main_linked : (all : List symbols.Symbol) (globals : Symbol → ℕ) (o : Option Package) → main_start all (option_map object_of o) ≡ map (start_of globals (λ s. function_number all (symbol_code s))) (main_steps o)
main_linked all globals None = refl
main_linked all globals (Some p) = refl

starts_linked : (packages : List Package) → (linked (objects_of packages)).starts ≡ map (start_of (slot_in packages) (linked_number packages)) (start_steps packages)
starts_linked packages =
    let all = function_symbols (objects_of packages) in
    ap (λ l. l ++ main_start all (last_object (objects_of packages))) (steps_linked all (variables (objects_of packages)) packages)
    ∙ ap (λ l. map (start_of (slot_in packages) (linked_number packages)) (flat_map package_steps packages) ++ l) (ap (main_start all) (last_linked packages) ∙ main_linked all (slot_in packages) (last_package packages))
    ∙ sym (map-append (start_of (slot_in packages) (linked_number packages)) (flat_map package_steps packages) (main_steps (last_package packages)))

-- ---- package variables

variables_held : (typed : Package) (vs : List Variable) → flat_map (λ (v : PackageVariable). v.zero) (map translated_variable vs) ≡ held (map (stored_first typed) vs)
variables_held typed [] = refl
variables_held typed (v ∷ vs) = ap (λ l. flat (zero_of v.of) ++ l) (variables_held typed vs)

-- the image's globals are the cells of the packages' variables
globals_linked : (packages : List Package) → (linked (objects_of packages)).globals ≡ held (flat_map first_variables packages)
globals_linked [] = refl
globals_linked (p ∷ packages) =
    ap (λ l. l ++ flat_map object_zeros (objects_of packages)) (variables_held p p.variables)
    ∙ ap (λ l. held (first_variables p) ++ l) (globals_linked packages)
    ∙ sym (held_behind (first_variables p) (flat_map first_variables packages))

-- ---- together

-- the image's start steps are those of the start of the packages, its globals are the cells of their variables, and their functions
-- have these numbers
pub record Starts (packages : List Package) (image : Image) (globals numbers : Symbol → ℕ) : Type 0 where
  pub starts : image.starts ≡ map (start_of globals numbers) (start_steps packages)
  pub globals_held : image.globals ≡ held (flat_map first_variables packages)
  pub found : (s : Symbol) (f : Function) → function_by_symbol packages s ≡ Some f → slice_get image.functions (numbers s) ≡ Some (translated globals numbers f)

pub links_starts : (packages : List Package) (image : Image) → image ≡ linked (objects_of packages) → Starts packages image (slot_in packages) (linked_number packages)
links_starts packages image l = record {
  starts = ap (λ i. i.starts) l ∙ starts_linked packages;
  globals_held = ap (λ (i : Image). i.globals) l ∙ globals_linked packages;
  found = λ s f e. ap (λ (i : Image). slice_get i.functions (linked_number packages s)) l ∙ found_linked packages s f e;
}
