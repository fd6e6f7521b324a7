use Rattle.std.proofs.Common.{◌≡◌, drop, map}
use Rattle.std.specs.List.{list_any}
use Rattle.std.specs.Str.{bytes_eq}
use Rattle.go_expr.specs.Rules.{field_names}
use Rattle.go_expr.specs.Views.{typed_field}
use Rattle.go_expr.proofs.type_expr.has_name.Given as goal

abbrev pub invariant-loop-field : goal.invariant-loop-field
invariant-loop-field l = list_any (bytes_eq l.name) (field_names (map typed_field (drop l.field-index l.fields))) ≡ list_any (bytes_eq l.name) (field_names (map typed_field l.fields))
