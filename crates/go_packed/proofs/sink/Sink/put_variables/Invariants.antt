use Rattle.std.proofs.Common.{◌≡◌, ◌++◌, drop}
use Rattle.std.specs.List.{flat_map}
use Rattle.go_packed.specs.Spelling.{variable_tokens}
use Rattle.go_packed.proofs.sink.Sink.put_variables.Given as goal

abbrev pub invariant-loop-variable : goal.invariant-loop-variable
invariant-loop-variable l = l.self ++ flat_map variable_tokens (drop l.variable-index l.variables) ≡ l.initial.self ++ flat_map variable_tokens l.variables
