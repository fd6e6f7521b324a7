use Rattle.std.proofs.Common.{◌≡◌, drop, map}
use Rattle.std.specs.List.{flat_map}
use Rattle.go_ast.specs.Trees.{ConstSpec}
use Rattle.go_ast.specs.Views.{const_of}
use Rattle.go_package.specs.Packages.{reserved_faults}
use Rattle.go_package.proofs.main_rule.check_constants.Given as goal

abbrev pub invariant-loop-spec : goal.invariant-loop-spec
invariant-loop-spec l = flat_map (λ (s : ConstSpec). flat_map (reserved_faults l.clause) s.names) (map const_of (drop l.spec-index l.specs)) ≡ flat_map (λ (s : ConstSpec). flat_map (reserved_faults l.clause) s.names) (map const_of l.specs)
