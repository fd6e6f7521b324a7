use Rattle.std.proofs.Common.{[], map}
use Rattle.go_typed.specs.Views.{as_expr}
use Rattle.go_expr.specs.Rules.{printable}
use Rattle.go_expr.proofs.Gathering.{Leads}
use Rattle.go_expr.proofs.call.all_printable.Given as goal

abbrev pub invariant-loop-argument : goal.invariant-loop-argument
invariant-loop-argument l =
    Leads as_expr l.all.values.items l.all.fault (map printable (map as_expr l.argument-iterator.rest.items)) [] (map printable (map as_expr l.fn.arguments.items))
