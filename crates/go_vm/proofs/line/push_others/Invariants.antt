use Rattle.std.proofs.Common.{◌≡◌, ◌++◌, drop, codes}
use Rattle.std.specs.List.{flat_map}
use Rattle.go_code.specs.Lines.{cell_text}
use Rattle.go_vm.proofs.line.push_others.Given as goal

abbrev pub invariant-loop-cell : goal.invariant-loop-cell
invariant-loop-cell l =
    l.output.items ++ flat_map (λ cell. codes " " ++ cell_text cell) (drop l.cell-index l.others) ≡ l.fn.output.items ++ flat_map (λ cell. codes " " ++ cell_text cell) l.others
