use Rattle.std.proofs.Common.{◌≡◌, drop, map}
use Rattle.std.specs.List.{flat_map}
use Rattle.go_ast.specs.Views.{top_of}
use Rattle.go_package.specs.Packages.{reserved_names_faults}
use Rattle.go_package.proofs.main_rule.check_reserved.Given as goal

abbrev pub invariant-loop-top : goal.invariant-loop-top
invariant-loop-top l = flat_map (reserved_names_faults l.clause) (map top_of (drop l.top-index l.top-items)) ≡ flat_map (reserved_names_faults l.clause) (map top_of l.top-items)
