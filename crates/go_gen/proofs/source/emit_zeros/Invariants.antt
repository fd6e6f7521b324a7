use Rattle.std.proofs.Common.{◌≡◌, ◌++◌, drop, map}
use Rattle.std.specs.List.{flat_map}
use Rattle.go_types.specs.Views.{go_type}
use Rattle.go_gen.specs.Translation.{zero_code}
use Rattle.go_gen.proofs.source.emit_zeros.Given as goal

abbrev pub invariant-loop-i : goal.invariant-loop-i
invariant-loop-i l = l.code ≡ flat_map zero_code (map go_type (drop l.i l.types)) ++ l.initial.code
