use Rattle.std.proofs.Common.{◌≡◌, ◌++◌, drop, map}
use Rattle.std.specs.Option.{option_map}
use Rattle.go_types.specs.Views.{go_type}
use Rattle.go_stmt.specs.Rules.{all_some}
use Rattle.go_stmt.specs.Views.{due_seen}
use Rattle.go_stmt.proofs.partly.known_due.Given as goal

abbrev pub invariant-loop-one : goal.invariant-loop-one
invariant-loop-one l =
    option_map (λ rest. map (option_map go_type) l.all.items ++ rest) (all_some (map due_seen (drop l.one-index l.due))) ≡ all_some (map due_seen l.due)
