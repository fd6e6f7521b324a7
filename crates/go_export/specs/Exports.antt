-- What packages export.
use Rattle.std.specs.Prelude.{ℕ, List, [], ◌∷◌, ◌++◌, map, Option, bytes_eq}
use Rattle.std.specs.BTreeMap.{insert_entry}
use Rattle.std.specs.Cmp.Lexicographic.{slice_cmp}
use Rattle.std.specs.List.{filter}
use Rattle.std.specs.Map.{lookup}
use Rattle.std.specs.Ordering.{nat_cmp}
use Rattle.go_const.specs.declared.constant.Const.{Const}
use Rattle.go_types.specs.Names.{is_exported}
use Rattle.go_types.specs.Types.{Type'}
use Rattle.go_typed.specs.Trees.{Variable, Function, Package}

-- a constant by its type and its value, a variable by its type, a function by the types of its parameters and results, or a type
pub data Export : Type 0 where
  constant : Type' → Const → Export
  variable : Type' → Export
  function : List Type' → List Type' → Export
  type' : Type' → Export

-- names, each with what it exports
abbrev pub Exports : Type 0
Exports = List (List ℕ × Export)

-- https://go.dev/ref/spec#Declarations_and_scope
-- declared names, each with what it is declared as
abbrev pub named_constant : List ℕ × (Type' × Const) → List ℕ × Export
named_constant c = (c.0, constant (c.1).0 (c.1).1)

abbrev pub exported_type : List ℕ × Type' → List ℕ × Export
exported_type t = (t.0, type' t.1)

abbrev pub named_variable : Variable → List ℕ × Export
named_variable v = (v.name, variable v.of)

abbrev pub named_function : Function → List ℕ × Export
named_function f = (f.name, function f.parameters f.results)

-- all that a package declares
abbrev pub declared_by : Package → Exports
declared_by p = map named_constant p.constants ++ map exported_type p.types ++ map named_variable p.variables ++ map named_function p.functions

-- the exported ones of some names: https://go.dev/ref/spec#Exported_identifiers
abbrev pub only_exported : Exports → Exports
only_exported es = filter (λ e. is_exported e.0) es

-- in byte order of names; of several with one name the first stays
abbrev pub sorted_by_name : Exports → Exports
sorted_by_name [] = []
sorted_by_name (e ∷ es) = insert_entry (slice_cmp nat_cmp) (sorted_by_name es) e.0 e.1

-- what a package exports
unfoldable pub exports_of : Package → Exports
exports_of p = sorted_by_name (only_exported (declared_by p))

-- what a name stands for among some; of several the first counts
abbrev pub look_up_export : List ℕ → Exports → Option Export
look_up_export x es = lookup (bytes_eq x) es
