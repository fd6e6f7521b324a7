use Rattle.std.proofs.Common.{◌≡◌, map, take}
use Rattle.go_code.specs.Rows.{zero_like}
use Rattle.go_vm.proofs.on_rows.zeros_like.Given as goal

abbrev pub invariant-loop-cell : goal.invariant-loop-cell
invariant-loop-cell l = l.zeros.items ≡ map zero_like (take l.cell-index l.cells)
