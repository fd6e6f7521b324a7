use Rattle.std.proofs.Common.{◌≡◌, ◌++◌, drop, map}
use Rattle.std.specs.List.{flat_map}
use Rattle.go_ast.specs.Views.{type_of}
use Rattle.go_scope.specs.Names.{in_type, used}
use Rattle.go_uses.proofs.file.in_results.Given as goal

abbrev pub invariant-loop-of : goal.invariant-loop-of
invariant-loop-of l = map used l.found.items ++ flat_map in_type (map type_of (drop l.of-index l.results)) ≡ flat_map in_type (map type_of l.results)
