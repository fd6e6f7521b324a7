use Rattle.std.proofs.Common.{◌≡◌, ◌++◌, drop, map}
use Rattle.go_stmt.specs.Scopes.{variable_number}
use Rattle.go_stmt.specs.Views.{env_of}
use Rattle.go_stmt.proofs.define.numbers_of.Given as goal

abbrev pub invariant-loop-name : goal.invariant-loop-name
invariant-loop-name l = l.all.items ++ map (variable_number (env_of l.env)) (drop l.name-index l.names) ≡ map (variable_number (env_of l.env)) l.names
