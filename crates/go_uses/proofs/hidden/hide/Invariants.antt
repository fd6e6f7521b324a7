use Rattle.std.proofs.Common.{◌≡◌, ◌++◌, drop}
use Rattle.go_uses.specs.Uses.{texts}
use Rattle.go_uses.proofs.hidden.hide.Given as goal

abbrev pub invariant-loop-name : goal.invariant-loop-name
invariant-loop-name l = l.hidden ++ texts (drop l.name-index l.names) ≡ l.fn.hidden ++ texts l.names
