use Rattle.std.proofs.Common.{◌≡◌, ◌+◌, drop}
use Rattle.go_types.specs.Views.{fields_in}
use Rattle.go_gen.specs.Translation.{field_offset}
use Rattle.go_gen.proofs.size.field_offset.Given as goal

-- what lies before and what is left make up the whole
abbrev pub invariant-loop-field : goal.invariant-loop-field
invariant-loop-field l = l.before + field_offset (fields_in (drop l.field-index l.fields)) l.left ≡ field_offset (fields_in l.fields) l.number
