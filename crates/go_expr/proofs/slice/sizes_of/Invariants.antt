use Rattle.std.proofs.Common.{◌≡◌, List, map}
use Rattle.go_text.specs.declared.fault.FaultKind.{FaultKind}
use Rattle.go_typed.specs.Views.{as_expr}
use Rattle.go_expr.specs.Rules.{size_verdict, least}
use Rattle.go_expr.proofs.Gathering.{Leads}
use Rattle.go_expr.proofs.slice.sizes_of.Given as goal

abbrev pub invariant-loop-size : goal.invariant-loop-size
invariant-loop-size l =
    (ks : List FaultKind) → l.fn.fault ≡ least ks →
    Leads as_expr l.all.values.items l.all.fault (map size_verdict (map as_expr l.size-iterator.rest.items)) ks (map size_verdict (map as_expr l.fn.sizes.items))
