use Rattle.std.proofs.Common.{◌≡◌, ◌++◌, drop}
use Rattle.std.specs.List.{flat_map}
use Rattle.go_link.proofs.code.push_zeros.Given as goal

abbrev pub invariant-loop-variable : goal.invariant-loop-variable
invariant-loop-variable l = l.cells.items ++ flat_map (λ v. v.zero) (drop l.variable-index l.variables) ≡ l.fn.cells.items ++ flat_map (λ v. v.zero) l.variables
