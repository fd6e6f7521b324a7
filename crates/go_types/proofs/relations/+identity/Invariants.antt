use Rattle.std.proofs.Common.{◌≡◌, drop}
use Rattle.go_types.specs.Views.{fields_in}
use Rattle.go_types.specs.Relations.{all_identical}
use Rattle.go_types.proofs.relations.+identity.Given as goal

-- what is left is identical if all is
abbrev pub invariant-all_identical-loop-field : goal.invariant-all_identical-loop-field
invariant-all_identical-loop-field l = all_identical (fields_in (drop l.field-index l.a)) (fields_in l.others) ≡ all_identical (fields_in l.a) (fields_in l.b)
