use Rattle.std.proofs.Common.{◌≡◌, ◌++◌, drop}
use Rattle.std.specs.List.{flat_map}
use Rattle.go_packed.specs.Spelling.{function_tokens}
use Rattle.go_packed.proofs.sink.Sink.put_functions.Given as goal

abbrev pub invariant-loop-function : goal.invariant-loop-function
invariant-loop-function l = l.self ++ flat_map function_tokens (drop l.function-index l.functions) ≡ l.initial.self ++ flat_map function_tokens l.functions
