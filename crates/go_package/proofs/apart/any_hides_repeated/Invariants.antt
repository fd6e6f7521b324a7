use Rattle.std.proofs.Common.{◌≡◌, drop, map}
use Rattle.std.specs.List.{list_any}
use Rattle.go_scope.specs.Names.{used}
use Rattle.go_expr.specs.Views.{scope_of}
use Rattle.go_package.specs.Faults.{hides_repeated}
use Rattle.go_package.specs.Views.{facts_of}
use Rattle.go_package.proofs.apart.any_hides_repeated.Given as goal

abbrev pub invariant-loop-name : goal.invariant-loop-name
invariant-loop-name l =
    list_any (hides_repeated (facts_of l.facts) l.file l.place (scope_of l.scope)) (map used (drop l.name-index l.names))
    ≡ list_any (hides_repeated (facts_of l.facts) l.file l.place (scope_of l.scope)) (map used l.names)
