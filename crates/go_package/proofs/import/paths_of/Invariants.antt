use Rattle.std.proofs.Common.{◌≡◌, ◌++◌, drop, map}
use Rattle.go_package.specs.Imports.{importable_paths}
use Rattle.go_package.specs.Views.{importable_view}
use Rattle.go_package.proofs.import.paths_of.Given as goal

abbrev pub invariant-loop-package : goal.invariant-loop-package
invariant-loop-package l = l.paths ++ importable_paths (map importable_view (drop l.package-index l.packages)) ≡ importable_paths (map importable_view l.packages)
