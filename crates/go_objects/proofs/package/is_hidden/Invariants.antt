use Rattle.std.proofs.Common.{◌≡◌, drop}
use Rattle.go_objects.specs.Table.{is_hidden}
use Rattle.go_objects.specs.Packages.{declared_imports}
use Rattle.go_objects.proofs.package.is_hidden.Given as goal

abbrev pub invariant-loop-import : goal.invariant-loop-import
invariant-loop-import l = is_hidden (declared_imports (drop l.import-index l.imports)) l.name ≡ is_hidden (declared_imports l.imports) l.name
