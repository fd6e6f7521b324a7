use Rattle.std.proofs.Common.{◌≡◌, ◌+◌, ◌++◌, drop, map}
use Rattle.go_types.specs.Views.{go_type}
use Rattle.go_gen.specs.Translation.{total, slots}
use Rattle.go_gen.proofs.size.push_slots.Given as goal

-- what is pushed and what is left make up the whole
abbrev pub invariant-loop-of : goal.invariant-loop-of
invariant-loop-of l = record {
  slots : l.found.items ++ slots l.at (map go_type (drop l.of-index l.types)) ≡ l.initial.found.items ++ slots l.first (map go_type l.types);
  total : l.at + total (map go_type (drop l.of-index l.types)) ≡ l.first + total (map go_type l.types);
}
