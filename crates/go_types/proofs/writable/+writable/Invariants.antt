use Rattle.std.proofs.Common.{drop, ◌↔◌}
use Rattle.go_types.specs.Views.{fields_in}
use Rattle.go_types.specs.Texts.{AreWritable}
use Rattle.go_types.proofs.writable.+writable.Given as goal

-- all are, where what is left is, and nowhere else
abbrev pub invariant-are_written-loop-field : goal.invariant-are_written-loop-field
invariant-are_written-loop-field l = AreWritable (fields_in (drop l.field-index l.fields)) ↔ AreWritable (fields_in l.fields)
