use Rattle.std.proofs.Common.{◌≡◌, map, take}
use Rattle.go_code.specs.Referred.{refer}
use Rattle.go_link.specs.Links.{symbol_numbers}
use Rattle.go_link.proofs.code.link_code.Given as goal

abbrev pub invariant-loop-instr : goal.invariant-loop-instr
invariant-loop-instr l = l.linked.items ≡ map (refer (symbol_numbers l.names l.places)) (take l.instr-index l.code)
