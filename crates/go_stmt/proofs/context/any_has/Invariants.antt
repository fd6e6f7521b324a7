use Rattle.std.proofs.Common.{◌≡◌, drop, map}
use Rattle.std.specs.List.{flat_map, list_any}
use Rattle.std.specs.Str.{bytes_eq}
use Rattle.go_ast.specs.Trees.{ConstSpec}
use Rattle.go_ast.specs.Views.{const_of}
use Rattle.go_uses.specs.Uses.{texts}
use Rattle.go_stmt.proofs.context.any_has.Given as goal

abbrev pub invariant-loop-spec : goal.invariant-loop-spec
invariant-loop-spec l =
    list_any (bytes_eq l.name.text) (flat_map (λ (s : ConstSpec). texts s.names) (map const_of (drop l.spec-index l.specs)))
    ≡ list_any (bytes_eq l.name.text) (flat_map (λ (s : ConstSpec). texts s.names) (map const_of l.specs))
