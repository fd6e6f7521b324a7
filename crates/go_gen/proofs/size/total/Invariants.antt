use Rattle.std.proofs.Common.{◌≡◌, ◌+◌, drop, map}
use Rattle.go_types.specs.Views.{go_type}
use Rattle.go_gen.specs.Translation.{total}
use Rattle.go_gen.proofs.size.total.Given as goal

-- the count and what is left make up the whole
abbrev pub invariant-loop-of : goal.invariant-loop-of
invariant-loop-of l = l.count + total (map go_type (drop l.of-index l.types)) ≡ total (map go_type l.types)
