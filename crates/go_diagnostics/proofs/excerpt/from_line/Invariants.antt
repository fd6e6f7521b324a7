use Rattle.std.proofs.Common.{◌≡◌, length}
use Rattle.go_diagnostics.specs.Excerpts.{from_line}
use Rattle.go_diagnostics.proofs.excerpt.from_line.Given as goal

abbrev pub invariant-loop-rest : goal.invariant-loop-rest
invariant-loop-rest l = from_line l.left l.rest ≡ from_line l.count l.text

abbrev pub decreases-loop-rest : goal.decreases-loop-rest
decreases-loop-rest l = length l.rest
