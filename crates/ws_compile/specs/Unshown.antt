-- Packages that have no summary.
use Rattle.std.specs.Prelude.{ℕ, List, map}
use Rattle.std.specs.List.{All}
use Rattle.std.specs.Map.{values_of}
use Rattle.go_ast.specs.Parse.{Parsed}
use Rattle.go_typed.specs.Trees.{Package}
use Rattle.go_package.specs.Imports.{Importable}
use Rattle.go_check.specs.Names.{importable_by}
use Rattle.go_export.specs.Exports.{exports_of}
use Rattle.go_export.specs.Summaries.{Summary}
use Rattle.go_export.specs.Writable.{IsShown}
use Rattle.ws_action.specs.Actions.{Action, parsed_of}
use Rattle.ws_cache.specs.Compiles.{AreGood, AreImportsOf}

-- no text tells what it exports
abbrev pub HasNoSummary : Package → Type 0
HasNoSummary typed = ¬ (All IsShown (values_of (exports_of typed)))

-- the files at a path, which may import these packages, are a good package without summary
abbrev pub AreUnshown : List ℕ → List Parsed → List Importable → Type 0
AreUnshown path files imports = (typed : Package) × AreGood path files imports typed × HasNoSummary typed

-- the action's files are
pub record IsUnshown (action : Action) : Type 0 where
  pub summaries : List Summary
  pub imports : AreImportsOf action summaries
  pub are : AreUnshown action.path (map (parsed_of action.edition) action.files) (map importable_by summaries)
