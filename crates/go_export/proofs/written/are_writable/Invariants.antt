use Rattle.std.proofs.Common.{drop, map, ◌↔◌}
use Rattle.std.specs.List.{All}
use Rattle.go_types.specs.Texts.{IsWritable}
use Rattle.go_types.specs.Views.{go_type}
use Rattle.go_export.proofs.written.are_writable.Given as goal

-- all are, where what is left is, and nowhere else
abbrev pub invariant-loop-of : goal.invariant-loop-of
invariant-loop-of l = All IsWritable (map go_type (drop l.of-index l.types)) ↔ All IsWritable (map go_type l.types)
