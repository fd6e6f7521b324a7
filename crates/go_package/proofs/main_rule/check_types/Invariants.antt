use Rattle.std.proofs.Common.{◌≡◌, drop, map}
use Rattle.std.specs.List.{flat_map}
use Rattle.go_ast.specs.Trees.{TypeSpec}
use Rattle.go_ast.specs.Views.{type_spec_of}
use Rattle.go_package.specs.Packages.{reserved_faults}
use Rattle.go_package.proofs.main_rule.check_types.Given as goal

abbrev pub invariant-loop-spec : goal.invariant-loop-spec
invariant-loop-spec l = flat_map (λ (s : TypeSpec). reserved_faults l.clause s.name) (map type_spec_of (drop l.spec-index l.specs)) ≡ flat_map (λ (s : TypeSpec). reserved_faults l.clause s.name) (map type_spec_of l.specs)
