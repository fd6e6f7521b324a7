use Rattle.std.proofs.Common.{◌≡◌, drop}
use Rattle.std.specs.Option.{option_map}
use Rattle.go_types.specs.Views.{go_type}
use Rattle.go_stmt.specs.Functions.{declare_parameters}
use Rattle.go_stmt.specs.Views.{env_of}
use Rattle.go_stmt.proofs.function.declare_parameters.Given as goal

abbrev pub invariant-loop-name : goal.invariant-loop-name
invariant-loop-name l =
    declare_parameters (drop l.name-index l.names) (option_map go_type l.of) (env_of l.env) ≡ declare_parameters l.names (option_map go_type l.of) (env_of l.fn.env)
