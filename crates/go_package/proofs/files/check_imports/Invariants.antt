use Rattle.std.proofs.Common.{◌≡◌, [], drop, map}
use Rattle.go_ast.specs.Views.{import_of, file_of}
use Rattle.go_package.specs.Views.{facts_of, importable_view}
use Rattle.go_package.specs.Imports.{imports_in}
use Rattle.go_package.specs.Packages.{imports_faults}
use Rattle.go_package.proofs.files.check_imports.Given as goal

abbrev pub invariant-loop-spec : goal.invariant-loop-spec
invariant-loop-spec l =
    imports_faults (facts_of l.facts) (file_of l.file) l.before (imports_in (map importable_view l.packages.all.now) (map import_of (drop l.spec-index l.spec-items)))
    ≡ imports_faults (facts_of l.facts) (file_of l.file) [] (imports_in (map importable_view l.packages.all.now) (map import_of l.spec-items))
