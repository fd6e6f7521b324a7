use Rattle.std.proofs.Common.{◌≡◌, drop}
use Rattle.go_types.specs.Views.{fields_in}
use Rattle.go_types.specs.Relations.{are_comparable}
use Rattle.go_types.proofs.relations.+comparable.Given as goal

-- what is left may be compared if all may be
abbrev pub invariant-are_comparable-loop-field : goal.invariant-are_comparable-loop-field
invariant-are_comparable-loop-field l = are_comparable (fields_in (drop l.field-index l.fields)) ≡ are_comparable (fields_in l.fields)
