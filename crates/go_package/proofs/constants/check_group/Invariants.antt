use Rattle.std.proofs.Common.{◌≡◌, [], None, drop, map}
use Rattle.go_ast.specs.Trees.{no_exprs}
use Rattle.go_ast.specs.Views.{const_of}
use Rattle.go_objects.specs.Views.{spec_of}
use Rattle.go_package.specs.Faults.{group_faults}
use Rattle.go_package.specs.Views.{facts_of}
use Rattle.go_package.proofs.constants.check_group.Given as goal

abbrev pub invariant-loop-iota : goal.invariant-loop-iota
invariant-loop-iota l =
    group_faults (facts_of l.facts) l.file l.iota (spec_of l.before) (map const_of (drop l.iota l.specs))
    ≡ group_faults (facts_of l.facts) l.file 0 (record { names = []; type = None; values = no_exprs }) (map const_of l.specs)
