-- Which values the code's exports are.
use Rattle.std.specs.Prelude.{ℕ, List, map, string_bytes, String}
use Rattle.std.specs.Global.{Global}
use Rattle.go_text.specs.declared.edition.Edition.{Edition}
use Rattle.go_types.specs.Views.{go_type}
use Rattle.go_export.specs.Exports as exports
use Rattle.go_export.specs.Summaries.{Summary}
use Rattle.go_export.specs.declared.export.Export.{Export}
use Rattle.go_export.specs.declared.export.Export.TheVariants as variants

abbrev pub export_of : Export → exports.Export
export_of (variants.Constant t c) = exports.constant (go_type t) c
export_of (variants.Variable t) = exports.variable (go_type t)
export_of (variants.Function parameters results) = exports.function (map go_type parameters.items) (map go_type results.items)
export_of (variants.Type t) = exports.type' (go_type t)

-- a name with what it exports
abbrev pub named_of : String Global × Export → List ℕ × exports.Export
named_of e = (string_bytes e.0, export_of e.1)

abbrev pub all_exports : List (String Global × Export) → exports.Exports
all_exports es = map named_of es

-- the summary of a package by its edition, its path, its name and its exports
abbrev pub summary_from : Edition → List ℕ → List ℕ → List (String Global × Export) → Summary
summary_from edition path name es = record { edition = edition; path = path; «package» = name; exports = all_exports es }
