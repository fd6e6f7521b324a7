use Rattle.std.proofs.Common.{◌≡◌, ◌++◌, drop, map, length}
use Rattle.go_objects.specs.Objects.{begin_of, constant}
use Rattle.go_objects.specs.Views.{object_view, spec_of}
use Rattle.go_objects.proofs.Pairs.{pairs}
use Rattle.go_objects.proofs.declarations.add_paired_constants.Given as goal

abbrev pub invariant-loop-name : goal.invariant-loop-name
invariant-loop-name l =
    map object_view l.found.items ++ pairs (λ n e. record { file = l.file; begins = begin_of l.spec.names.now n; name = n; form = constant (spec_of l.spec).type e l.iota }) (drop (length l.yielded) l.spec.names.now) (drop (length l.yielded) l.spec.values.now)
    ≡ map object_view l.fn.found.items ++ pairs (λ n e. record { file = l.file; begins = begin_of l.spec.names.now n; name = n; form = constant (spec_of l.spec).type e l.iota }) l.spec.names.now l.spec.values.now
