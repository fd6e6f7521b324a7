use Rattle.std.proofs.Common.{◌≡◌, drop}
use Rattle.std.specs.List.{list_any}
use Rattle.std.specs.Str.{bytes_eq}
use Rattle.go_uses.specs.Uses.{texts}
use Rattle.go_stmt.proofs.context.are_named.Given as goal

abbrev pub invariant-loop-other : goal.invariant-loop-other
invariant-loop-other l = list_any (bytes_eq l.name.text) (texts (drop l.other-index l.names)) ≡ list_any (bytes_eq l.name.text) (texts l.names)
