use Rattle.std.proofs.Common.{drop, map}
use Rattle.go_scope.proofs.Indexes.{Differing}
use Rattle.go_expr.specs.Rules.{field_names}
use Rattle.go_expr.specs.Views.{typed_field}
use Rattle.go_expr.proofs.fields.differ.Given as goal

abbrev pub invariant-loop-field : goal.invariant-loop-field
invariant-loop-field l = Differing l.names (field_names (map typed_field (drop l.field-index l.fields))) (field_names (map typed_field l.fields))
