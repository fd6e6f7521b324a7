use Rattle.std.proofs.Common.{◌≡◌, ◌++◌, ◌-◌}
use Rattle.go_packed.specs.Reading.{read_variable, read_many, as_part}
use Rattle.go_packed.proofs.source.Source.variables.Given as goal

abbrev pub invariant-loop-done : goal.invariant-loop-done
invariant-loop-done l = read_many read_variable l.count l.initial.self ≡ as_part (λ xs. l.variables.items ++ xs) (read_many read_variable (l.count - l.done) l.self)
