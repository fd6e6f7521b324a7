use Rattle.std.proofs.Common.{◌≡◌, ◌++◌, drop, map}
use Rattle.std.specs.List.{flat_map}
use Rattle.go_ast.specs.Trees.{VarSpec}
use Rattle.go_ast.specs.Views.{var_of}
use Rattle.go_uses.specs.Uses.{texts}
use Rattle.go_uses.proofs.declarations.hide_vars.Given as goal

abbrev pub invariant-loop-spec : goal.invariant-loop-spec
invariant-loop-spec l = l.hidden ++ flat_map (λ (s : VarSpec). texts s.names) (map var_of (drop l.spec-index l.specs)) ≡ l.fn.hidden ++ flat_map (λ (s : VarSpec). texts s.names) (map var_of l.specs)
