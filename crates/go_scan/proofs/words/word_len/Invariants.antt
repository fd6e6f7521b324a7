use Rattle.std.proofs.Common.{◌≡◌, ◌≤◌, ◌+◌, ◌-◌, drop, length}
use Rattle.go_scan.specs.Words.{is_inside}
use Rattle.go_scan.specs.Fronts.{char_size, strides}
use Rattle.go_scan.proofs.words.word_len.Given as goal

abbrev pub invariant-loop-len : goal.invariant-loop-len
invariant-loop-len l = record {
  value : l.len + strides (char_size is_inside) 0 (drop l.len l.bytes) ≡ strides (char_size is_inside) 0 l.bytes;
  within : l.len ≤ length l.bytes;
}

abbrev pub decreases-loop-len : goal.decreases-loop-len
decreases-loop-len l = length l.bytes - l.len
