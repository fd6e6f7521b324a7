-- What the imports of a file declare: https://go.dev/ref/spec#Import_declarations
use Rattle.std.specs.Prelude.{ℕ, bytes_eq, codes, if◌then◌else◌, List, map, Option, Some, None}
use Rattle.std.specs.List.{filter_map, find}
use Rattle.go_text.specs.declared.place.Place.{Place}
use Rattle.go_ast.specs.Trees.{Name, ImportSpec, File}
use Rattle.go_expr.specs.Known.{Names}

-- a package that can be imported, as the library fmt: its path, the name in its clauses, and what it exports
pub record Importable : Type 0 where
  pub path : List ℕ
  pub name : List ℕ
  pub exports : Names

-- the path of each
abbrev pub importable_paths : List Importable → List (List ℕ)
importable_paths ps = map (λ (p : Importable). p.path) ps

-- the first package of a path
abbrev pub package_at : List Importable → List ℕ → Option Importable
package_at ps path = find (λ (p : Importable). bytes_eq path p.path) ps

-- the given name, or else that in the package's clauses
abbrev pub import_name : Option Name → List ℕ → List ℕ
import_name given clause = elim given [ None ↦ clause | Some n ↦ n.text ]

-- what an import declares, with its place; the blank name declares nothing
abbrev pub named_import : Place → List ℕ → Names → Option (Place × (List ℕ × Names))
named_import p x exports = if bytes_eq x (codes "_") then None else Some (p, (x, exports))

abbrev pub import_declares : List Importable → ImportSpec → Option (Place × (List ℕ × Names))
import_declares ps spec = elim (package_at ps spec.path) [ None ↦ None | Some p ↦ named_import spec.place (import_name spec.name p.name) p.exports ]

-- of one file, and of each
abbrev pub imports_in : List Importable → List ImportSpec → List (Place × (List ℕ × Names))
imports_in ps specs = filter_map (import_declares ps) specs

abbrev pub imports_of : List Importable → List File → List (List (List ℕ × Names))
imports_of ps files = map (λ (f : File). map (λ i. i.1) (imports_in ps f.imports)) files
