use Rattle.std.proofs.Common.{◌≡◌, ◌++◌, ◌-◌}
use Rattle.go_packed.specs.Reading.{read_instr, read_many, as_part}
use Rattle.go_packed.proofs.source.Source.code.Given as goal

abbrev pub invariant-loop-done : goal.invariant-loop-done
invariant-loop-done l = read_many read_instr l.count l.initial.self ≡ as_part (λ xs. l.code.items ++ xs) (read_many read_instr (l.count - l.done) l.self)
