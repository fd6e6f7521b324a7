use Rattle.std.proofs.Common.{◌≡◌, ◌++◌, drop}
use Rattle.go_gen.specs.Translation.{defines_code}
use Rattle.go_gen.specs.Views.{places_of}
use Rattle.go_gen.proofs.assignment.emit_defines.Given as goal

abbrev pub invariant-loop-name : goal.invariant-loop-name
invariant-loop-name l =
    defines_code (places_of l.layout) (drop l.name-index l.names) l.rest ++ l.code ≡ defines_code (places_of l.layout) l.names l.counts ++ l.initial.code
