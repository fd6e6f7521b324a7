use Rattle.std.proofs.Common.{◌≡◌, ◌++◌, ◌-◌}
use Rattle.go_packed.specs.Reading.{read_function, read_many, as_part}
use Rattle.go_packed.proofs.source.Source.functions.Given as goal

abbrev pub invariant-loop-done : goal.invariant-loop-done
invariant-loop-done l = read_many read_function l.count l.initial.self ≡ as_part (λ xs. l.functions.items ++ xs) (read_many read_function (l.count - l.done) l.self)
