use Rattle.std.proofs.Common.{◌≡◌, ◌++◌, drop, map}
use Rattle.std.specs.List.{flat_map}
use Rattle.go_ast.specs.Trees.{TypeSpec}
use Rattle.go_ast.specs.Views.{type_spec_of}
use Rattle.go_scope.specs.Names.{in_type, used}
use Rattle.go_uses.proofs.file.in_all_types.Given as goal

abbrev pub invariant-loop-spec : goal.invariant-loop-spec
invariant-loop-spec l = map used l.found.items ++ flat_map (λ (s : TypeSpec). in_type s.type) (map type_spec_of (drop l.spec-index l.specs)) ≡ flat_map (λ (s : TypeSpec). in_type s.type) (map type_spec_of l.specs)
