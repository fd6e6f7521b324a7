use Rattle.std.proofs.Common.{◌≡◌, ◌+◌, drop}
use Rattle.go_diagnostics.specs.Excerpts.{line_len}
use Rattle.go_diagnostics.proofs.excerpt.line_len.Given as goal

abbrev pub invariant-loop-byte : goal.invariant-loop-byte
invariant-loop-byte l = record {
  value : l.len + line_len (drop l.byte-index l.text) ≡ line_len l.text;
  place : l.len ≡ l.byte-index;
}
