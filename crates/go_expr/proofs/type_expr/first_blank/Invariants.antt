use Rattle.std.proofs.Common.{◌≡◌, drop}
use Rattle.go_expr.specs.Verdicts.{first_blank}
use Rattle.go_expr.proofs.type_expr.first_blank.Given as goal

abbrev pub invariant-loop-name : goal.invariant-loop-name
invariant-loop-name l = first_blank (drop l.name-index l.names) ≡ first_blank l.names
