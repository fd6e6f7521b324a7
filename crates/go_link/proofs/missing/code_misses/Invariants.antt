use Rattle.std.proofs.Common.{◌≡◌, drop}
use Rattle.std.specs.List.{list_any}
use Rattle.go_link.specs.Links.{is_missing_symbol}
use Rattle.go_link.proofs.missing.code_misses.Given as goal

abbrev pub invariant-loop-instr : goal.invariant-loop-instr
invariant-loop-instr l = list_any (is_missing_symbol l.names l.places) (drop l.instr-index l.code) ≡ list_any (is_missing_symbol l.names l.places) l.code
