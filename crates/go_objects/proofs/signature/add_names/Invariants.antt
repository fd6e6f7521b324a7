use Rattle.std.proofs.Common.{◌≡◌, ◌++◌, drop, map}
use Rattle.go_objects.specs.Table.{own_names}
use Rattle.go_objects.proofs.signature.add_names.Given as goal

abbrev pub invariant-loop-name : goal.invariant-loop-name
invariant-loop-name l = map (λ n. n.now) l.all.items ++ own_names (drop l.name-index l.names) ≡ map (λ n. n.now) l.fn.all.items ++ own_names l.names
