use Rattle.std.proofs.Common.{◌≡◌, ◌++◌, drop}
use Rattle.go_diagnostics.specs.Excerpts.{padding}
use Rattle.go_diagnostics.proofs.excerpt.push_padding.Given as goal

-- what is written so far, and what is left gives
abbrev pub invariant-loop-byte : goal.invariant-loop-byte
invariant-loop-byte l = l.out.items ++ padding (drop l.byte-index l.bytes) ≡ l.fn.out.items ++ padding l.bytes
