use Rattle.std.proofs.Common.{◌≡◌, ◌++◌, drop}
use Rattle.go_types.specs.Views.{fields_in}
use Rattle.go_meaning.specs.Values.{flat_all, zeros_of}
use Rattle.go_gen.proofs.zero.+cells.Given as goal

-- what is pushed and what is left make up the whole
abbrev pub invariant-push_zeros-loop-field : goal.invariant-push_zeros-loop-field
invariant-push_zeros-loop-field l =
    l.found.items ++ flat_all (zeros_of (fields_in (drop l.field-index l.fields))) ≡ l.initial.found.items ++ flat_all (zeros_of (fields_in l.fields))
