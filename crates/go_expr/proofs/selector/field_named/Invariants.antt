use Rattle.std.proofs.Common.{◌≡◌, drop, map}
use Rattle.std.specs.List.{find}
use Rattle.std.specs.Str.{bytes_eq}
use Rattle.go_expr.specs.Rules.{field_named, numbered}
use Rattle.go_expr.specs.Views.{typed_field}
use Rattle.go_expr.proofs.selector.field_named.Given as goal

abbrev pub invariant-loop-number : goal.invariant-loop-number
invariant-loop-number l = find (λ f. bytes_eq l.name ((f.1).1).0) (numbered l.number (map typed_field (drop l.number l.fields))) ≡ field_named l.name (map typed_field l.fields)
