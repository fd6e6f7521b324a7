use Rattle.std.proofs.Common.{◌≡◌, ◌++◌, drop, map}
use Rattle.std.specs.List.{filter}
use Rattle.go_scope.specs.Names.{used}
use Rattle.go_package.proofs.uses.add_dotted.Given as goal

abbrev pub invariant-loop-name : goal.invariant-loop-name
invariant-loop-name l =
    l.dotted ++ map (λ u. u.0) (filter (λ u. u.1) (map used (drop l.name-index l.names))) ≡ l.fn.dotted ++ map (λ u. u.0) (filter (λ u. u.1) (map used l.names))
