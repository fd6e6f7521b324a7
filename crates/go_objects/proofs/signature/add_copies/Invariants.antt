use Rattle.std.proofs.Common.{◌≡◌, ◌++◌, drop, map}
use Rattle.go_types.specs.Views.{go_type}
use Rattle.go_objects.proofs.signature.add_copies.Given as goal

abbrev pub invariant-loop : goal.invariant-loop
invariant-loop l = map go_type l.all.items ++ map (λ n. go_type l.of) (drop l.index l.names) ≡ map go_type l.fn.all.items ++ map (λ n. go_type l.of) l.names
