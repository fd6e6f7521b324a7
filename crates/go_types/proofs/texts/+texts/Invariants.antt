use Rattle.std.proofs.Common.{◌≡◌, ◌++◌, drop}
use Rattle.go_types.specs.Views.{fields_in}
use Rattle.go_types.specs.Texts.{fields_text}
use Rattle.go_types.proofs.texts.+texts.Given as goal

-- the text so far and that of what is left make up the whole
abbrev pub invariant-push_fields-loop-field : goal.invariant-push_fields-loop-field
invariant-push_fields-loop-field l = l.text.items ++ fields_text (fields_in (drop l.field-index l.fields)) ≡ l.fn.text.items ++ fields_text (fields_in l.fields)
