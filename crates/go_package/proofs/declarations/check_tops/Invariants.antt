use Rattle.std.proofs.Common.{◌≡◌, ◌++◌, drop, map}
use Rattle.std.specs.List.{flat_map}
use Rattle.go_ast.specs.Views.{top_of}
use Rattle.go_package.specs.Faults.{top_faults}
use Rattle.go_package.specs.Views.{facts_of, texts_in, initial_in, uses_in, functions_in}
use Rattle.go_package.specs.Typed.{top_initializations, top_functions}
use Rattle.go_package.proofs.declarations.check_tops.Given as goal

abbrev pub invariant-loop-top : goal.invariant-loop-top
invariant-loop-top l = record {
  faults : flat_map (top_faults (facts_of l.facts) l.file) (map top_of (drop l.top-index l.tops)) ≡ flat_map (top_faults (facts_of l.facts) l.file) (map top_of l.tops);
  initial : initial_in l.bodies ++ flat_map (top_initializations (facts_of l.facts) (texts_in l.names) l.file) (map top_of (drop l.top-index l.tops))
      ≡ initial_in l.fn.bodies ++ flat_map (top_initializations (facts_of l.facts) (texts_in l.names) l.file) (map top_of l.tops);
  uses : uses_in l.bodies ≡ uses_in l.fn.bodies;
  functions : functions_in l.bodies ++ flat_map (top_functions (facts_of l.facts) l.file) (map top_of (drop l.top-index l.tops))
      ≡ functions_in l.fn.bodies ++ flat_map (top_functions (facts_of l.facts) l.file) (map top_of l.tops);
}
