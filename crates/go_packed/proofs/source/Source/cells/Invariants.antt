use Rattle.std.proofs.Common.{◌≡◌, ◌++◌, ◌-◌}
use Rattle.go_packed.specs.Reading.{read_cell, read_many, as_part}
use Rattle.go_packed.proofs.source.Source.cells.Given as goal

abbrev pub invariant-loop-done : goal.invariant-loop-done
invariant-loop-done l = read_many read_cell l.count l.initial.self ≡ as_part (λ xs. l.cells.items ++ xs) (read_many read_cell (l.count - l.done) l.self)
