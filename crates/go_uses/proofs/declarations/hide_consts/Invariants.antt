use Rattle.std.proofs.Common.{◌≡◌, ◌++◌, drop, map}
use Rattle.std.specs.List.{flat_map}
use Rattle.go_ast.specs.Trees.{ConstSpec}
use Rattle.go_ast.specs.Views.{const_of}
use Rattle.go_uses.specs.Uses.{texts}
use Rattle.go_uses.proofs.declarations.hide_consts.Given as goal

abbrev pub invariant-loop-spec : goal.invariant-loop-spec
invariant-loop-spec l = l.hidden ++ flat_map (λ (s : ConstSpec). texts s.names) (map const_of (drop l.spec-index l.specs)) ≡ l.fn.hidden ++ flat_map (λ (s : ConstSpec). texts s.names) (map const_of l.specs)
