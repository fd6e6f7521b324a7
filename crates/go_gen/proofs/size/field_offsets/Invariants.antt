use Rattle.std.proofs.Common.{◌≡◌, ◌+◌, ◌<◌, ℕ, drop, length, slice_index}
use Rattle.go_types.specs.Views.{fields_in}
use Rattle.go_gen.specs.Translation.{field_offset}
use Rattle.go_gen.proofs.size.field_offsets.Given as goal

abbrev pub invariant-loop-field : goal.invariant-loop-field
invariant-loop-field l = record {
  size : length l.offsets.items ≡ l.field-index;
  at : (n : ℕ) → n < l.field-index → slice_index l.offsets.items n ≡ field_offset (fields_in l.fields) n;
  rest : (n : ℕ) → l.before + field_offset (fields_in (drop l.field-index l.fields)) n ≡ field_offset (fields_in l.fields) (l.field-index + n);
}
