-- What importers find in a package: https://go.dev/ref/spec#Qualified_identifiers
use Rattle.std.specs.Prelude.{ℕ, List, map, Some}
use Rattle.go_typed.specs.Trees as typed
use Rattle.go_typed.specs.Trees.{Symbol, Package}
use Rattle.go_expr.specs.Known.{Declared, value, type', function, Names}
use Rattle.go_export.specs.Exports as exports
use Rattle.go_export.specs.Exports.{Export, Exports, exports_of}
use Rattle.go_export.specs.Summaries.{Summary}
use Rattle.go_package.specs.Imports.{Importable}

abbrev pub symbol_of : List ℕ → List ℕ → Symbol
symbol_of path name = record { path = path; name = name }

-- what a name declares that the package of a path exports
abbrev pub export_declares : List ℕ → List ℕ → Export → Declared
export_declares path name (exports.constant t c) = value (typed.constant t c)
export_declares path name (exports.variable t) = value (typed.global t (symbol_of path name))
export_declares path name (exports.function ts rs) = function (symbol_of path name) ts rs
export_declares path name (exports.type' t) = type' t

abbrev pub names_by : List ℕ → Exports → Names
names_by path es = map (λ e. (e.0, Some (export_declares path e.0 e.1))) es

-- a package that can be imported, by its summary
abbrev pub summary_names : Summary → Names
summary_names s = names_by s.path s.exports

abbrev pub importable_by : Summary → Importable
importable_by s = record { path = s.path; name = s.«package»; exports = summary_names s }

-- and by its typed tree
abbrev pub importable_of : Package → Importable
importable_of p = record { path = p.path; name = p.name; exports = names_by p.path (exports_of p) }
