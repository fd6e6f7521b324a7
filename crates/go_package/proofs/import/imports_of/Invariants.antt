use Rattle.std.proofs.Common.{◌≡◌, ◌++◌, drop, map}
use Rattle.go_ast.specs.Views.{file_of}
use Rattle.go_objects.specs.Packages.{declared_imports as imports_seen}
use Rattle.go_package.specs.Imports.{imports_of}
use Rattle.go_package.specs.Views.{importable_view}
use Rattle.go_package.proofs.import.imports_of.Given as goal

abbrev pub invariant-loop-file : goal.invariant-loop-file
invariant-loop-file l =
    map (λ is. imports_seen is.items) l.found.items ++ imports_of (map importable_view l.packages.all.now) (map (λ f. file_of f.now) (drop l.file-index l.files))
    ≡ imports_of (map importable_view l.packages.all.now) (map (λ f. file_of f.now) l.files)
