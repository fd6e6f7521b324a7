use Rattle.std.proofs.Common.{◌≡◌, ◌++◌, ◌-◌}
use Rattle.go_packed.specs.Reading.{read_setup, read_many, as_part}
use Rattle.go_packed.proofs.source.Source.setups.Given as goal

abbrev pub invariant-loop-done : goal.invariant-loop-done
invariant-loop-done l = read_many read_setup l.count l.initial.self ≡ as_part (λ xs. l.setups.items ++ xs) (read_many read_setup (l.count - l.done) l.self)
