use Rattle.std.proofs.Common.{◌≡◌, ◌++◌, map, drop}
use Rattle.std.specs.List.{flat_map}
use Rattle.go_export.specs.Fields.{field}
use Rattle.go_types.specs.Texts.{type_text}
use Rattle.go_types.specs.Views.{go_type}
use Rattle.go_export.specs.Summaries.{types_text}
use Rattle.go_export.proofs.text.push_types.Given as goal

-- the text so far and that of what is left make up the whole
abbrev pub invariant-loop-of : goal.invariant-loop-of
invariant-loop-of l =
    l.text.items ++ flat_map (λ t. field (type_text t)) (map go_type (drop l.of-index l.types)) ≡ l.fn.text.items ++ types_text (map go_type l.types)
