use Rattle.std.proofs.Common.{◌≡◌, drop}
use Rattle.std.specs.Cmp.Lexicographic.{pointwise}
use Rattle.go_code.specs.Operators.{same_cell}
use Rattle.go_cells.proofs.operate.are_same.Given as goal

abbrev pub invariant-loop-i : goal.invariant-loop-i
invariant-loop-i l = pointwise same_cell (drop l.i l.xs) (drop l.i l.ys) ≡ pointwise same_cell l.xs l.ys
