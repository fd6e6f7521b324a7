use Rattle.std.proofs.Common.{◌≡◌, ◌++◌, drop}
use Rattle.std.specs.List.{flat_map}
use Rattle.go_packed.specs.Spelling.{instr_tokens}
use Rattle.go_packed.proofs.sink.Sink.put_code.Given as goal

abbrev pub invariant-loop-instr : goal.invariant-loop-instr
invariant-loop-instr l = l.self ++ flat_map instr_tokens (drop l.instr-index l.code) ≡ l.initial.self ++ flat_map instr_tokens l.code
