-- How the code's packages stand for those of the definitions.
use Rattle.std.specs.Prelude.{ℕ, List, map}
use Rattle.go_expr.specs.Known.{Names}
use Rattle.go_expr.specs.Views.{names_of}
use Rattle.go_expr.specs.declared.scope.Import.{Import}
use Rattle.go_objects.specs.Objects.{DeclaredObject}
use Rattle.go_objects.specs.Table.{PackageTable}
use Rattle.go_objects.specs.Views.{object_view}
use Rattle.go_objects.specs.declared.objects.Objects as objects
use Rattle.go_objects.specs.declared.package.Package as packages

-- what the imports of a file declare
abbrev pub declared_imports : List Import → List (List ℕ × Names)
declared_imports imports = map (λ (i : Import). (i.name.now, names_of i.exports.now)) imports

-- the objects that a package declares
abbrev pub declared_objects : objects.Objects → List DeclaredObject
declared_objects os = map object_view os.list.items

abbrev pub package_of : packages.Package → PackageTable
package_of p = record { path = p.path.now; edition = p.edition; imports = map (λ is. declared_imports is.items) p.imports.items; objects = declared_objects p.objects }
