use Rattle.std.proofs.Common.{◌≡◌, ◌++◌, drop, map}
use Rattle.go_types.specs.Views.{go_type}
use Rattle.go_expr.specs.Rules.{declared_field}
use Rattle.go_expr.specs.Views.{typed_field}
use Rattle.go_expr.proofs.type_expr.with_fields.Given as goal

abbrev pub invariant-loop-name : goal.invariant-loop-name
invariant-loop-name l = record {
  same : go_type l.of ≡ go_type l.initial.of;
  done : map typed_field l.all.items ++ map (declared_field l.path (go_type l.initial.of)) (drop l.name-index l.names)
      ≡ map typed_field l.initial.all.items ++ map (declared_field l.path (go_type l.initial.of)) l.names;
}
