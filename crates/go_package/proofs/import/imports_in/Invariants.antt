use Rattle.std.proofs.Common.{◌≡◌, ◌++◌, drop, map}
use Rattle.go_ast.specs.Views.{import_of}
use Rattle.go_objects.specs.Packages.{declared_imports}
use Rattle.go_package.specs.Imports.{imports_in}
use Rattle.go_package.specs.Views.{importable_view}
use Rattle.go_package.proofs.import.imports_in.Given as goal

abbrev pub invariant-loop-spec : goal.invariant-loop-spec
invariant-loop-spec l =
    declared_imports l.found.items ++ map (λ i. i.1) (imports_in (map importable_view l.packages.all.now) (map import_of (drop l.spec-index l.specs)))
    ≡ map (λ i. i.1) (imports_in (map importable_view l.packages.all.now) (map import_of l.specs))
