use Rattle.std.proofs.Common.{◌≡◌, drop}
use Rattle.std.specs.List.{flat_map}
use Rattle.go_package.specs.Packages.{reserved_faults}
use Rattle.go_package.proofs.main_rule.check_names.Given as goal

abbrev pub invariant-loop-name : goal.invariant-loop-name
invariant-loop-name l = flat_map (reserved_faults l.clause) (drop l.name-index l.names) ≡ flat_map (reserved_faults l.clause) l.names
