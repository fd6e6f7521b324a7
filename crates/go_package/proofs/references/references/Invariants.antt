use Rattle.std.proofs.Common.{◌≡◌, ◌++◌, drop, map, string_bytes}
use Rattle.go_scope.specs.Names.{used}
use Rattle.go_package.specs.Views.{facts_of}
use Rattle.go_package.specs.Typed.{references}
use Rattle.go_package.proofs.references.references.Given as goal

abbrev pub invariant-loop-name : goal.invariant-loop-name
invariant-loop-name l =
    map string_bytes l.found.items ++ references (facts_of l.facts) l.file (map used (drop l.name-index l.names)) ≡ references (facts_of l.facts) l.file (map used l.names)
