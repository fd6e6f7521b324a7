use Rattle.std.proofs.Common.{◌≡◌, drop, map}
use Rattle.std.specs.List.{list_any}
use Rattle.go_scope.specs.Names.{used}
use Rattle.go_package.specs.Faults.{hides}
use Rattle.go_package.specs.Views.{facts_of}
use Rattle.go_package.proofs.apart.is_hidden.Given as goal

abbrev pub invariant-loop-name : goal.invariant-loop-name
invariant-loop-name l = list_any (hides (facts_of l.facts) l.file l.place) (map used (drop l.name-index l.names)) ≡ list_any (hides (facts_of l.facts) l.file l.place) (map used l.names)
