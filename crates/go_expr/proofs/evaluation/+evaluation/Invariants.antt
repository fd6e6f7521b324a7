use Rattle.std.proofs.Common.{◌≡◌, drop}
use Rattle.go_typed.specs.Views.{as_exprs, parts_in}
use Rattle.go_expr.specs.Rules.{some_hold_call, part_holds_call}
use Rattle.go_expr.proofs.evaluation.+evaluation.Given as goal

abbrev pub invariant-part_holds_call-loop-part : goal.invariant-part_holds_call-loop-part
invariant-part_holds_call-loop-part l = part_holds_call (parts_in (drop l.part-index l.parts)) ≡ part_holds_call (parts_in l.parts)

abbrev pub invariant-some_hold_call-loop-e : goal.invariant-some_hold_call-loop-e
invariant-some_hold_call-loop-e l = some_hold_call (as_exprs (drop l.e-index l.es)) ≡ some_hold_call (as_exprs l.es)
