use Rattle.std.proofs.Common.{◌≡◌, take, map}
use Rattle.go_typed.specs.Views.{as_function}
use Rattle.go_gen.specs.Translation.{translated_function}
use Rattle.go_gen.proofs.generate.generate_functions.Given as goal

abbrev pub invariant-loop-function : goal.invariant-loop-function
invariant-loop-function l = l.made.items ≡ map translated_function (map as_function (take l.function-index l.functions))
