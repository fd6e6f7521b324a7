use Rattle.std.proofs.Common.{◌≡◌, drop, map}
use Rattle.std.specs.Prelude.{bytes_eq}
use Rattle.std.specs.List.{find}
use Rattle.go_package.specs.Imports.{Importable}
use Rattle.go_package.specs.Views.{importable_view}
use Rattle.go_package.proofs.import.walked.Given as goal

abbrev pub invariant-loop-package : goal.invariant-loop-package
invariant-loop-package l =
    find (λ (p : Importable). bytes_eq l.path p.path) (map importable_view (drop l.package-index l.packages))
    ≡ find (λ (p : Importable). bytes_eq l.path p.path) (map importable_view l.packages)
