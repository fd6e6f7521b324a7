-- What the files of a package come to when they are compiled, and what compiling an action gives.
use Rattle.std.specs.Prelude.{◌≡◌, ◌⊎◌, ℕ, List, [], map}
use Rattle.std.specs.Arc.{arc_value}
use Rattle.std.specs.List.{All}
use Rattle.go_text.specs.Faults.{Fault}
use Rattle.go_text.specs.declared.fault.FaultKind.TheVariants.{InitCycle}
use Rattle.go_ast.specs.Parse.{Parsed}
use Rattle.go_code.specs.Packages.{Object}
use Rattle.go_typed.specs.Trees.{Package}
use Rattle.go_init.specs.Variables.{variable_order, IsCycleAt}
use Rattle.go_package.specs.Imports.{Importable}
use Rattle.go_check.specs.Checked.{AreTyped, HaveFault}
use Rattle.go_gen.specs.Translation.{object_of}
use Rattle.go_check.specs.Names.{importable_by}
use Rattle.go_export.specs.Summaries.{Summary, summary_of}
use Rattle.go_export.specs.Writable.{IsWritten}
use Rattle.ws_action.specs.Actions.{Action, parsed_of, named_summary}
use Rattle.ws_cache.specs.declared.Outcome.{Outcome}
use Rattle.ws_cache.specs.declared.Outcome.TheVariants as outcome

-- ---- files at a path, which may import fmt and these packages

-- they are this typed package, and its variables get their values in some order
pub record AreGood (path : List ℕ) (files : List Parsed) (imports : List Importable) (typed : Package) : Type 0 where
  pub are : AreTyped path files imports typed
  pub ordered : (variable_order typed).1 ≡ []

-- they are a typed package, and values of variables depend on themselves: this tells where the first of those that are left over stands
pub record AreCircular (path : List ℕ) (files : List Parsed) (imports : List Importable) (fault : Fault) : Type 0 where
  pub typed : Package
  pub are : AreTyped path files imports typed
  pub at : IsCycleAt typed fault.file fault.place
  pub kind : fault.kind ≡ InitCycle

-- this is reported of them: their package's first fault, or else a variable whose value depends on itself
abbrev pub AreFaulty : List ℕ → List Parsed → List Importable → Fault → Type 0
AreFaulty path files imports fault = HaveFault path files imports fault ⊎ AreCircular path files imports fault

-- what is kept: what importers know of a good package, and its object; or the fault to report
pub data Compiled : Type 0 where
  Good : Summary → Object → Compiled
  Faulty : Fault → Compiled

abbrev pub compiled_of : Outcome → Compiled
compiled_of (outcome.Good summary object) = Good (arc_value summary) (arc_value object)
compiled_of (outcome.Faulty fault) = Faulty fault

-- the files come to this
abbrev pub IsResult : List ℕ → List Parsed → List Importable → Compiled → Type 0
IsResult path files imports (Good summary object) =
    (typed : Package) × AreGood path files imports typed × (summary ≡ summary_of typed) × (object ≡ object_of typed)
IsResult path files imports (Faulty fault) = AreFaulty path files imports fault

-- ---- actions

-- the texts of the action's imports are those of these summaries of its edition, which their texts tell
pub record AreImportsOf (action : Action) (summaries : List Summary) : Type 0 where
  pub texts : map named_summary summaries ≡ action.imports
  pub written : All IsWritten summaries
  pub alike : All (λ summary. summary.edition ≡ action.edition) summaries

-- Compiling the action gives this, by its edition, its path, its files and its imports alone.
pub record Compiles (action : Action) (result : Compiled) : Type 0 where
  pub summaries : List Summary
  pub imports : AreImportsOf action summaries
  pub is : IsResult action.path (map (parsed_of action.edition) action.files) (map importable_by summaries) result
