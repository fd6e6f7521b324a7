use Rattle.std.proofs.Common.{◌≡◌, ◌++◌, None, drop, map}
use Rattle.std.specs.Prelude.{unwrap_or}
use Rattle.std.specs.Option.{option_map}
use Rattle.go_types.specs.Views.{go_type}
use Rattle.go_stmt.specs.Views.{due_seen}
use Rattle.go_stmt.proofs.partly.due_types.Given as goal

abbrev pub invariant-loop-one : goal.invariant-loop-one
invariant-loop-one l =
    map (option_map go_type) l.all.items ++ map (λ t. unwrap_or t None) (map due_seen (drop l.one-index l.due))
    ≡ map (λ t. unwrap_or t None) (map due_seen l.due)
