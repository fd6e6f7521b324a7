use Rattle.std.proofs.Common.{◌≡◌, ◌++◌, drop, map}
use Rattle.std.specs.List.{flat_map}
use Rattle.go_ast.specs.Trees.{Parameter}
use Rattle.go_ast.specs.Views.{parameter_of}
use Rattle.go_uses.specs.Uses.{texts}
use Rattle.go_uses.proofs.file.hide_parameters.Given as goal

abbrev pub invariant-loop-parameter : goal.invariant-loop-parameter
invariant-loop-parameter l =
    l.hidden ++ flat_map (λ (p : Parameter). texts p.names) (map parameter_of (drop l.parameter-index l.parameters))
    ≡ l.fn.hidden ++ flat_map (λ (p : Parameter). texts p.names) (map parameter_of l.parameters)
