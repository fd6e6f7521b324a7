use Rattle.std.proofs.Common.{◌≡◌, drop, map}
use Rattle.std.specs.Option.{option_map}
use Rattle.go_expr.specs.Views.{declared_of}
use Rattle.go_stmt.specs.Scopes.{paired_names}
use Rattle.go_stmt.specs.Statements.{declare_constants}
use Rattle.go_stmt.specs.Views.{env_of}
use Rattle.go_stmt.proofs.constants.declare_each.Given as goal

abbrev pub invariant-loop-name : goal.invariant-loop-name
invariant-loop-name l =
    declare_constants (paired_names (drop l.name-index l.names) (map (option_map declared_of) l.rest.rest.items)) (env_of l.env)
    ≡ declare_constants (paired_names l.names (map (option_map declared_of) l.fn.declared.items)) (env_of l.fn.env)
