use Rattle.std.proofs.Common.{drop, map}
use Rattle.std.specs.Prelude.{option_map, string_bytes}
use Rattle.go_gen.specs.Translation.{no_locals, symbol_code}
use Rattle.go_gen.proofs.Found.{sets_end}
use Rattle.go_gen.proofs.setup.emit_sets.Goals as goal

pub returns-in_default : goal.returns-in_default
returns-in_default c =
    sets_end (no_locals symbol_code symbol_code) c.args.path.now (map (option_map string_bytes) (drop c.loop-variable.variable-index c.args.variables.now)) c.loop-variable.rest.now _ _ c.in_default.len_below c.loop-variable.invariant
