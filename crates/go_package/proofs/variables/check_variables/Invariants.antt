use Rattle.std.proofs.Common.{◌≡◌, ◌++◌, drop, map}
use Rattle.std.specs.List.{flat_map}
use Rattle.go_ast.specs.Views.{var_of}
use Rattle.go_typed.specs.Views.{initialization_of}
use Rattle.go_package.specs.Faults.{var_spec_faults}
use Rattle.go_package.specs.Views.{facts_of, texts_in}
use Rattle.go_package.specs.Typed.{spec_initializations}
use Rattle.go_package.proofs.variables.check_variables.Given as goal

abbrev pub invariant-loop-spec : goal.invariant-loop-spec
invariant-loop-spec l = record {
  faults : flat_map (var_spec_faults (facts_of l.facts) l.file) (map var_of (drop l.spec-index l.specs)) ≡ flat_map (var_spec_faults (facts_of l.facts) l.file) (map var_of l.specs);
  initial : map initialization_of l.found.items ++ flat_map (spec_initializations (facts_of l.facts) (texts_in l.names) l.file) (map var_of (drop l.spec-index l.specs))
      ≡ map initialization_of l.fn.found.items ++ flat_map (spec_initializations (facts_of l.facts) (texts_in l.names) l.file) (map var_of l.specs);
}
