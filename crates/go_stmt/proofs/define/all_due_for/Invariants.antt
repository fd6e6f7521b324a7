use Rattle.std.proofs.Common.{◌≡◌, ◌++◌, drop, map}
use Rattle.std.specs.Option.{option_map}
use Rattle.go_stmt.specs.Scopes.{own}
use Rattle.go_stmt.specs.Rules.{dues_for}
use Rattle.go_stmt.specs.Views.{constant_names_in, env_of, due_seen}
use Rattle.go_stmt.proofs.define.all_due_for.Given as goal

abbrev pub invariant-loop-name : goal.invariant-loop-name
invariant-loop-name l =
    option_map (λ rest. map due_seen l.all.items ++ rest) (dues_for (constant_names_in l.before) (own (env_of l.env)) (drop l.name-index l.names))
    ≡ dues_for (constant_names_in l.before) (own (env_of l.env)) l.names
