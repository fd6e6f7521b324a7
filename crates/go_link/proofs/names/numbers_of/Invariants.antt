use Rattle.std.proofs.Common.{map, take}
use Rattle.go_link.specs.Named.{Numbers, symbol_at}
use Rattle.go_link.proofs.names.numbers_of.Given as goal

abbrev pub invariant-loop-number : goal.invariant-loop-number
invariant-loop-number l = Numbers l.numbers (map symbol_at (take l.number l.names))
