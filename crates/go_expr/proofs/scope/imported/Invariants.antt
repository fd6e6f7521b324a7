use Rattle.std.proofs.Common.{◌≡◌, drop, map}
use Rattle.std.specs.Prelude.{bytes_eq}
use Rattle.std.specs.Map.{lookup}
use Rattle.go_expr.specs.Views.{imported_view}
use Rattle.go_expr.proofs.scope.imported.Given as goal

abbrev pub invariant-loop-import : goal.invariant-loop-import
invariant-loop-import l = lookup (bytes_eq l.name) (map imported_view (drop l.import-index l.imports)) ≡ lookup (bytes_eq l.name) (map imported_view l.imports)
