use Rattle.std.proofs.Common.{◌≡◌, ◌++◌, drop, map}
use Rattle.go_scope.specs.Names.{used}
use Rattle.go_objects.specs.Table.{imports_at}
use Rattle.go_objects.specs.Packages.{package_of}
use Rattle.go_objects.proofs.Needs.{needed_of}
use Rattle.go_objects.proofs.package.needs.Given as goal

abbrev pub invariant-loop-name : goal.invariant-loop-name
invariant-loop-name l =
    l.row.items ++ needed_of (package_of l.«package»).objects (imports_at (package_of l.«package») l.object.file) (map used (drop l.name-index l.name-items))
    ≡ needed_of (package_of l.«package»).objects (imports_at (package_of l.«package») l.object.file) (map used l.name-items)
