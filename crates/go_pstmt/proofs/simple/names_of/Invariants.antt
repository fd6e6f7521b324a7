use Rattle.std.proofs.Common.{◌≡◌, map, take, Some}
use Rattle.go_ast.specs.Machine.{names_if}
use Rattle.go_ast.specs.Views.{expr_of}
use Rattle.go_pstmt.proofs.simple.names_of.Given as goal

abbrev pub invariant-loop-side : goal.invariant-loop-side
invariant-loop-side l = names_if (map expr_of (take l.side-index l.sides)) ≡ Some l.names.items
