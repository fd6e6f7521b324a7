use Rattle.std.proofs.Common.{◌≡◌, ◌+◌, drop}
use Rattle.go_typed.specs.Views.{as_exprs, parts_in}
use Rattle.go_gen.specs.Translation.{exprs_temps, parts_temps}
use Rattle.go_gen.proofs.temps.+temps.Given as goal

abbrev pub invariant-exprs_temps-loop-e : goal.invariant-exprs_temps-loop-e
invariant-exprs_temps-loop-e l = l.count + exprs_temps (as_exprs (drop l.e-index l.es)) ≡ exprs_temps (as_exprs l.es)

abbrev pub invariant-parts_temps-loop-part : goal.invariant-parts_temps-loop-part
invariant-parts_temps-loop-part l = l.count + parts_temps (parts_in (drop l.part-index l.parts)) ≡ parts_temps (parts_in l.parts)
