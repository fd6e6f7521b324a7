use Rattle.std.proofs.Common.{◌≡◌, drop, map}
use Rattle.std.specs.Option.{option_map}
use Rattle.go_types.specs.Views.{go_type}
use Rattle.go_stmt.specs.Scopes.{paired_names, declare_new}
use Rattle.go_stmt.specs.Views.{env_of}
use Rattle.go_stmt.proofs.define.declare_new.Given as goal

abbrev pub invariant-loop-name : goal.invariant-loop-name
invariant-loop-name l =
    declare_new (paired_names (drop l.name-index l.names) (map (option_map go_type) l.rest.rest.items)) (env_of l.env)
    ≡ declare_new (paired_names l.names (map (option_map go_type) l.fn.types.items)) (env_of l.fn.env)
