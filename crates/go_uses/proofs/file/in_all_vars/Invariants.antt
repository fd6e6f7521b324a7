use Rattle.std.proofs.Common.{◌≡◌, ◌++◌, drop, map}
use Rattle.std.specs.List.{flat_map}
use Rattle.go_ast.specs.Views.{var_of}
use Rattle.go_scope.specs.Names.{used}
use Rattle.go_uses.specs.Uses.{in_var}
use Rattle.go_uses.proofs.file.in_all_vars.Given as goal

abbrev pub invariant-loop-spec : goal.invariant-loop-spec
invariant-loop-spec l = map used l.found.items ++ flat_map in_var (map var_of (drop l.spec-index l.specs)) ≡ flat_map in_var (map var_of l.specs)
