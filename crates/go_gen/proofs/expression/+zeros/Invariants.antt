use Rattle.std.proofs.Common.{◌≡◌, ◌++◌, drop}
use Rattle.go_types.specs.Views.{fields_in}
use Rattle.go_gen.specs.Translation.{zeros_code}
use Rattle.go_gen.proofs.expression.+zeros.Given as goal

abbrev pub invariant-emit_zeros-loop-i : goal.invariant-emit_zeros-loop-i
invariant-emit_zeros-loop-i l = l.code ≡ zeros_code (fields_in (drop l.i l.fields)) ++ l.initial.code
