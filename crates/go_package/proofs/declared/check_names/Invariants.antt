use Rattle.std.proofs.Common.{◌≡◌, drop}
use Rattle.std.specs.List.{flat_map}
use Rattle.go_package.specs.Faults.{name_faults}
use Rattle.go_package.specs.Views.{facts_of}
use Rattle.go_package.proofs.declared.check_names.Given as goal

abbrev pub invariant-loop-name : goal.invariant-loop-name
invariant-loop-name l = flat_map (name_faults (facts_of l.facts) l.file) (drop l.name-index l.names) ≡ flat_map (name_faults (facts_of l.facts) l.file) l.names
