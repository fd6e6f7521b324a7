use Rattle.std.proofs.Common.{◌≡◌, map, take}
use Rattle.go_types.specs.Sizes.{cells}
use Rattle.go_types.specs.Views.{go_type}
use Rattle.go_gen.proofs.source.type_counts.Given as goal

abbrev pub invariant-loop-of : goal.invariant-loop-of
invariant-loop-of l = l.counts.items ≡ map cells (map go_type (take l.of-index l.types))
