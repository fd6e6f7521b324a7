use Rattle.std.proofs.Common.{◌≡◌, ◌++◌, drop, map}
use Rattle.go_ast.specs.Views.{const_of}
use Rattle.go_scope.specs.Names.{used}
use Rattle.go_uses.specs.Uses.{outside, in_consts}
use Rattle.go_uses.proofs.declarations.in_consts.Given as goal

-- what is found, and what is left outside of the names that are hidden
abbrev pub invariant-loop-spec : goal.invariant-loop-spec
invariant-loop-spec l = map used l.found.items ++ outside l.hidden (in_consts (map const_of (drop l.spec-index l.specs))) ≡ in_consts (map const_of l.specs)
