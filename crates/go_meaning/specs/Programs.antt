-- What checked packages mean: packages in an order in which each stands behind those that it imports.
use Rattle.std.specs.Prelude.{◌≡◌, ℕ, zero, suc, ◌-◌, List, [], ◌∷◌, ◌++◌, length, map, Bool, slice_get, Option, Some, None, ⊤, codes, nat_eq, IsSome, if◌then◌else◌}
use Rattle.std.specs.List.{filter, find, flat_map, starts_with}
use Rattle.std.specs.Option.{option_map}
use Rattle.std.specs.Str.{bytes_eq}
use Rattle.go_text.specs.declared.edition.Edition.{Edition}
use Rattle.go_text.specs.declared.edition.Edition.TheVariants.{One}
use Rattle.go_text.specs.Editions.{most_open}
use Rattle.go_types.specs.Types.{Type'}
use Rattle.go_code.specs.declared.ending.Ending.{Ending}
use Rattle.go_code.specs.declared.ending.Ending.TheVariants.{Ended, Panicked}
use Rattle.go_code.specs.declared.ending.PanicKind.TheVariants.{Depth}
use Rattle.go_typed.specs.Trees.{Symbol, Function, Initialization, Package}
use Rattle.go_init.specs.Variables.{variable_order}
use Rattle.go_meaning.specs.Values.{Value, are_of, zero_of}
use Rattle.go_symbol.specs.Symbols.{same_symbol}
use Rattle.go_meaning.specs.Meaning.{Stored, ProgramState, Outcome, Gives, Ends, Stuck, Locals, Flow, Normal, Returns, and_then, with_tick, Calls, if_known, with_global, all_put, source, exec_all}

-- ---- calls

-- what a function's body gives its caller; no break or continue leaves a body
abbrev pub results_of : Flow → ProgramState → Outcome (List Value)
results_of (Normal locals) w = Gives [] w
results_of (Returns results) w = Gives results w
results_of flow w = Stuck

-- enters a function with an argument for each parameter: that takes a tick
abbrev pub enter_function : Option Function → List Value → ProgramState → (Function → ProgramState → Outcome (List Value)) → Outcome (List Value)
enter_function None arguments w run = Stuck
enter_function (Some f) arguments w run = if are_of f.parameters arguments then with_tick w (run f) else Stuck

abbrev pub with_arguments : List Type' → List Value → Locals
with_arguments (t ∷ ts) (v ∷ vs) = record { of = t; value = Some v } ∷ with_arguments ts vs
with_arguments ts vs = []

-- the local variables of a function that is entered: the arguments, and the others, none of which is declared yet
abbrev pub first_locals : Function → List Value → Locals
first_locals f arguments = with_arguments f.parameters arguments ++ map (λ t. record { of = t; value = None }) f.locals

abbrev pub package_symbol : Package → List ℕ → Symbol
package_symbol p name = record { path = p.path; name = name }

-- a function with its symbol
pub record DeclaredFunction : Type 0 where
  pub symbol : Symbol
  pub function : Function

abbrev pub package_functions : Package → List DeclaredFunction
package_functions p = map (λ f. record { symbol = package_symbol p f.name; function = f }) p.functions

-- the first function of a symbol
abbrev pub function_by_symbol : List Package → Symbol → Option Function
function_by_symbol packages s = option_map (λ d. d.function) (find (λ d. same_symbol s d.symbol) (flat_map package_functions packages))

-- what calls come to where so many more may be open
abbrev pub call_at : List Package → ℕ → Calls
call_at packages zero s arguments w = enter_function (function_by_symbol packages s) arguments w (λ f w1. Ends (Panicked Depth) w1.output)
call_at packages (suc left) s arguments w =
    enter_function (function_by_symbol packages s) arguments w (λ f w1. and_then (exec_all (call_at packages left) f.body (first_locals f arguments) w1) results_of)

-- ---- programs

-- https://go.dev/ref/spec#Program_execution
abbrev pub last_package : List Package → Option Package
last_package packages = slice_get packages (length packages - 1)

-- a program is of the edition of its last package
abbrev pub program_edition : Option Package → Edition
program_edition None = One
program_edition (Some p) = p.edition

-- the first function of a name
abbrev pub function_named : List ℕ → List Function → Option Function
function_named name functions = find (λ f. bytes_eq name f.name) functions

-- the package is named main and has a function main
abbrev pub HasMain : Option Package → Type 0
HasMain o = elim o [ None ↦ ⊥ | Some p ↦ (p.name ≡ codes "main") × IsSome (function_named (codes "main") p.functions) ]

-- packages are a program by the last of them
abbrev pub IsProgram : List Package → Type 0
IsProgram packages = HasMain (last_package packages)

-- an init function of the source: its name here is `init.` and a number, which is no name in the source
abbrev pub is_init : Function → Bool
is_init f = starts_with nat_eq f.name (codes "init.")

-- a step of a program's start: variables of the package at a path get their values, or a function is called, without arguments
pub data StartStep : Type 0 where
  sets : List ℕ → Initialization → StartStep
  calls : Symbol → StartStep

-- https://go.dev/ref/spec#Package_initialization
-- a package's variables in their order, then its inits in declaration order
abbrev pub package_steps : Package → List StartStep
package_steps p = map (sets p.path) (variable_order p).0 ++ map (λ f. calls (package_symbol p f.name)) (filter is_init p.functions)

abbrev pub main_steps : Option Package → List StartStep
main_steps o = elim o [ None ↦ [] | Some p ↦ calls (package_symbol p (codes "main")) ∷ [] ]

-- the start of a program: package by package, and at last the function main of the last
abbrev pub start_steps : List Package → List StartStep
start_steps packages = flat_map package_steps packages ++ main_steps (last_package packages)

-- variables of the package at a path get values
abbrev pub stored_variables : List ℕ → List (Option (List ℕ)) → List Value → ProgramState → Outcome ⊤
stored_variables path os vs w =
    and_then (if_known (all_put (λ variables x. with_global variables (record { path = path; name = x })) os vs w.variables) w)
    (λ variables w1. Gives tt (record w1 { variables = variables }))

abbrev pub start_step : Calls → StartStep → ProgramState → Outcome ⊤
start_step call (sets path i) w = and_then (source call i.source [] w) (stored_variables path i.variables)
start_step call (calls s) w = and_then (call s [] w) (λ results w1. Gives tt w1)

-- one step after another
abbrev pub run_steps : Calls → List StartStep → ProgramState → Outcome ⊤
run_steps call [] w = Gives tt w
run_steps call (s ∷ ss) w = and_then (start_step call s w) (λ done w1. run_steps call ss w1)

-- a package's variables, at their zero values
abbrev pub first_variables : Package → List Stored
first_variables p = map (λ v. record { symbol = package_symbol p v.name; of = v.of; value = zero_of v.of }) p.variables

-- array 0 has nothing: slices without an array are parts of it
abbrev pub first_arrays : List (List Value)
first_arrays = [] ∷ []

-- the world that a program starts in
abbrev pub first_world : List Package → ℕ → ProgramState
first_world packages ticks = record { ticks = ticks; variables = flat_map first_variables packages; arrays = first_arrays; output = [] }

-- the program is over so where its start comes to this
abbrev pub IsOver : Outcome ⊤ → Ending → List ℕ → Type 0
IsOver outcome ending output = elim outcome [ Gives done w ↦ (ending ≡ Ended) × (output ≡ w.output) | Ends e o ↦ (ending ≡ e) × (output ≡ o) | Stuck ↦ ⊥ ]

-- what a program comes to that is given so many ticks; its edition says how many calls may be open
abbrev pub run_program : List Package → ℕ → Outcome ⊤
run_program packages ticks = run_steps (call_at packages (most_open (program_edition (last_package packages)))) (start_steps packages) (first_world packages ticks)

-- a program that is given so many ticks ends so; it has ended when main returns
abbrev pub SourceMeaning : List Package → ℕ → Ending → List ℕ → Type 0
SourceMeaning packages ticks ending output = IsProgram packages × IsOver (run_program packages ticks) ending output
