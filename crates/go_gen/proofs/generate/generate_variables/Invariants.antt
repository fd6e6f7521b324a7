use Rattle.std.proofs.Common.{◌≡◌, take, map}
use Rattle.go_typed.specs.Views.{variable_of}
use Rattle.go_gen.specs.Translation.{translated_variable}
use Rattle.go_gen.proofs.generate.generate_variables.Given as goal

abbrev pub invariant-loop-variable : goal.invariant-loop-variable
invariant-loop-variable l = l.made.items ≡ map translated_variable (map variable_of (take l.variable-index l.variables))
