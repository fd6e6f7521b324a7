use Rattle.std.proofs.Common.{◌≡◌, ◌++◌, drop, map}
use Rattle.ws_reach.specs.Reach.{rows_of}
use Rattle.go_objects.specs.Table.{needs, rows}
use Rattle.go_objects.specs.Views.{object_view}
use Rattle.go_objects.specs.Packages.{package_of}
use Rattle.go_objects.proofs.package.rows.Given as goal

abbrev pub invariant-loop-object : goal.invariant-loop-object
invariant-loop-object l = rows_of l.found.items ++ map (needs (package_of l.«package»)) (map object_view (drop l.object-index l.object-items)) ≡ rows (package_of l.«package»)
