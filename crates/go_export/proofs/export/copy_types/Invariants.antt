use Rattle.std.proofs.Common.{◌≡◌, ◌++◌, map, drop}
use Rattle.go_types.specs.Views.{go_type}
use Rattle.go_export.proofs.export.copy_types.Given as goal

-- the copies so far and what is left make up the whole
abbrev pub invariant-loop-of : goal.invariant-loop-of
invariant-loop-of l = map go_type l.copies.items ++ map go_type (drop l.of-index l.types) ≡ map go_type l.types
