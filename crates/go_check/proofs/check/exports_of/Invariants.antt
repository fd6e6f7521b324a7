use Rattle.std.proofs.Common.{◌≡◌, ◌++◌, drop, map}
use Rattle.std.specs.Arc.{arc_value}
use Rattle.go_expr.specs.Views.{names_of}
use Rattle.go_check.specs.Names.{summary_names}
use Rattle.go_check.proofs.check.exports_of.Given as goal

abbrev pub invariant-loop-summary : goal.invariant-loop-summary
invariant-loop-summary l = map names_of l.all.items ++ map summary_names (map arc_value (drop l.summary-index l.imports)) ≡ map summary_names (map arc_value l.imports)
