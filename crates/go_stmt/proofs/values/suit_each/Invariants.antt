use Rattle.std.proofs.Common.{[], drop, map}
use Rattle.std.specs.List.{zip}
use Rattle.std.specs.Option.{option_map}
use Rattle.go_types.specs.Views.{go_type}
use Rattle.go_typed.specs.Views.{as_expr}
use Rattle.go_expr.proofs.Gathering.{Leads}
use Rattle.go_stmt.specs.Rules.{suited_one}
use Rattle.go_stmt.proofs.values.suit_each.Given as goal

abbrev pub invariant-loop-value : goal.invariant-loop-value
invariant-loop-value l =
    Leads as_expr l.all.values.items l.all.fault (map suited_one (zip (map (option_map go_type) (drop l.i l.due)) (map as_expr l.value-iterator.rest.items))) []
    (map suited_one (zip (map (option_map go_type) l.due) (map as_expr l.fn.values.items)))
