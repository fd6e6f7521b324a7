use Rattle.std.proofs.Common.{◌≡◌, ◌++◌, drop}
use Rattle.go_typed.specs.Views.{as_exprs}
use Rattle.go_gen.specs.Translation.{expr_counts}
use Rattle.go_gen.proofs.source.expr_counts.Given as goal

abbrev pub invariant-loop-e : goal.invariant-loop-e
invariant-loop-e l = l.counts.items ++ expr_counts (as_exprs (drop l.e-index l.es)) ≡ expr_counts (as_exprs l.es)
