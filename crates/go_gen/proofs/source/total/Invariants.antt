use Rattle.std.proofs.Common.{◌≡◌, ◌+◌, drop}
use Rattle.std.specs.Prelude.{sum}
use Rattle.go_gen.proofs.source.total.Given as goal

abbrev pub invariant-loop-more : goal.invariant-loop-more
invariant-loop-more l = l.count + sum (drop l.more-index l.counts) ≡ sum l.counts
