use Rattle.std.proofs.Common.{◌≡◌, drop, map}
use Rattle.go_ast.specs.Trees.{pack_fields}
use Rattle.go_ast.specs.Views.{field_of}
use Rattle.go_expr.specs.Verdicts.{struct_place}
use Rattle.go_expr.proofs.type_expr.struct_place.Given as goal

abbrev pub invariant-loop-field : goal.invariant-loop-field
invariant-loop-field l = struct_place l.place (pack_fields (map field_of (drop l.field-index l.fields))) ≡ struct_place l.place (pack_fields (map field_of l.fields))
