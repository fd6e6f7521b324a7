use Rattle.std.proofs.Common.{◌≡◌, ◌++◌, drop, map}
use Rattle.go_scope.specs.Names.{used}
use Rattle.go_uses.specs.Uses.{outside}
use Rattle.go_uses.proofs.hidden.add_outside.Given as goal

abbrev pub invariant-loop-name : goal.invariant-loop-name
invariant-loop-name l = map used l.found.items ++ outside l.hidden (map used (drop l.name-index l.names)) ≡ map used l.fn.found.items ++ outside l.hidden (map used l.names)
