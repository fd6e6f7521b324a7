use Rattle.std.proofs.Common.{◌≡◌, ◌++◌, drop}
use Rattle.std.specs.List.{flat_map}
use Rattle.go_packed.specs.Spelling.{cell_tokens}
use Rattle.go_packed.proofs.sink.Sink.put_variable.Given as goal

abbrev pub invariant-loop-cell : goal.invariant-loop-cell
invariant-loop-cell l = l.self ++ flat_map cell_tokens (drop l.cell-index l.zero) ≡ l.initial.self ++ flat_map cell_tokens l.zero
