use Rattle.std.proofs.Common.{◌≡◌, drop, map}
use Rattle.std.specs.List.{flat_map}
use Rattle.go_ast.specs.Trees.{VarSpec}
use Rattle.go_ast.specs.Views.{var_of}
use Rattle.go_package.specs.Packages.{reserved_faults}
use Rattle.go_package.proofs.main_rule.check_variables.Given as goal

abbrev pub invariant-loop-spec : goal.invariant-loop-spec
invariant-loop-spec l = flat_map (λ (s : VarSpec). flat_map (reserved_faults l.clause) s.names) (map var_of (drop l.spec-index l.specs)) ≡ flat_map (λ (s : VarSpec). flat_map (reserved_faults l.clause) s.names) (map var_of l.specs)
