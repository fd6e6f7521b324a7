use Rattle.std.proofs.Common.{◌≡◌, drop, map}
use Rattle.std.specs.List.{list_all}
use Rattle.go_expr.specs.Rules.{is_visible}
use Rattle.go_expr.specs.Views.{typed_field}
use Rattle.go_expr.proofs.composite.all_visible.Given as goal

abbrev pub invariant-loop-field : goal.invariant-loop-field
invariant-loop-field l = list_all (λ f. is_visible l.path f.0) (map typed_field (drop l.field-index l.fields)) ≡ list_all (λ f. is_visible l.path f.0) (map typed_field l.fields)
