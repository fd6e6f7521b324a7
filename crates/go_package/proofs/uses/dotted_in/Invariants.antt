use Rattle.std.proofs.Common.{◌≡◌, ◌++◌, drop, map}
use Rattle.std.specs.List.{flat_map}
use Rattle.go_ast.specs.Views.{top_of}
use Rattle.go_typed.specs.Views.{uses_of}
use Rattle.go_package.specs.Views.{facts_of}
use Rattle.go_package.specs.Typed.{top_uses}
use Rattle.go_package.proofs.Dotted.{dotted_top}
use Rattle.go_package.proofs.uses.dotted_in.Given as goal

abbrev pub invariant-loop-top : goal.invariant-loop-top
invariant-loop-top l = record {
  dotted : l.dotted ++ flat_map dotted_top (map top_of (drop l.top-index l.tops)) ≡ flat_map dotted_top (map top_of l.tops);
  uses : map uses_of l.found.items ++ flat_map (top_uses (facts_of l.facts) l.file) (map top_of (drop l.top-index l.tops))
      ≡ map uses_of l.fn.found.items ++ flat_map (top_uses (facts_of l.facts) l.file) (map top_of l.tops);
}
