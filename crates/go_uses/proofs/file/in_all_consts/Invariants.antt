use Rattle.std.proofs.Common.{◌≡◌, ◌++◌, drop, map}
use Rattle.std.specs.List.{flat_map}
use Rattle.go_ast.specs.Views.{const_of}
use Rattle.go_scope.specs.Names.{used}
use Rattle.go_uses.specs.Uses.{in_const}
use Rattle.go_uses.proofs.file.in_all_consts.Given as goal

abbrev pub invariant-loop-spec : goal.invariant-loop-spec
invariant-loop-spec l = map used l.found.items ++ flat_map in_const (map const_of (drop l.spec-index l.specs)) ≡ flat_map in_const (map const_of l.specs)
