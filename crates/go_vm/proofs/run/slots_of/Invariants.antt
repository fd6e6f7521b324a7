use Rattle.std.proofs.Common.{◌≡◌, take, drop}
use Rattle.std.specs.List.{list_all}
use Rattle.go_code.specs.Lines.{cell_fits}
use Rattle.go_vm.proofs.run.slots_of.Given as goal

abbrev pub invariant-loop-cell : goal.invariant-loop-cell
invariant-loop-cell l = record {
  copied : l.slots.items ≡ take l.cell-index l.cells;
  known : list_all cell_fits (drop l.cell-index l.cells) ≡ list_all cell_fits l.cells;
}
