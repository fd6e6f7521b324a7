use Rattle.std.proofs.Common.{[], drop, map}
use Rattle.std.specs.List.{zip}
use Rattle.go_typed.specs.Views.{as_expr}
use Rattle.go_expr.proofs.Gathering.{Leads}
use Rattle.go_stmt.specs.Rules.{suited_if}
use Rattle.go_stmt.specs.Views.{due_seen}
use Rattle.go_stmt.proofs.partly.suit_known.Given as goal

abbrev pub invariant-loop-value : goal.invariant-loop-value
invariant-loop-value l =
    Leads as_expr l.all.values.items l.all.fault (map suited_if (zip (map due_seen (drop l.i l.due)) (map as_expr l.value-iterator.rest.items))) []
    (map suited_if (zip (map due_seen l.due) (map as_expr l.fn.values.items)))
