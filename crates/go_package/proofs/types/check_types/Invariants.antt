use Rattle.std.proofs.Common.{◌≡◌, drop, map}
use Rattle.std.specs.List.{flat_map}
use Rattle.go_ast.specs.Views.{type_spec_of}
use Rattle.go_package.specs.Faults.{type_spec_faults}
use Rattle.go_package.specs.Views.{facts_of}
use Rattle.go_package.proofs.types.check_types.Given as goal

abbrev pub invariant-loop-spec : goal.invariant-loop-spec
invariant-loop-spec l =
    flat_map (type_spec_faults (facts_of l.facts) l.file) (map type_spec_of (drop l.spec-index l.specs)) ≡ flat_map (type_spec_faults (facts_of l.facts) l.file) (map type_spec_of l.specs)
