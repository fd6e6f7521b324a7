use Rattle.std.proofs.Common.{drop}
use Rattle.go_gen.specs.Views.{places_of}
use Rattle.go_gen.proofs.Found.{defines_end}
use Rattle.go_gen.proofs.assignment.emit_defines.Goals as goal

pub returns-in_default : goal.returns-in_default
returns-in_default c =
    defines_end (places_of c.args.layout.now) (drop c.loop-name.name-index c.args.names.now) c.loop-name.rest.now _ _ c.in_default.len_below c.loop-name.invariant
