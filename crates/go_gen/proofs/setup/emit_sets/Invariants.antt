use Rattle.std.proofs.Common.{◌≡◌, ◌++◌, drop, map}
use Rattle.std.specs.Prelude.{option_map, string_bytes}
use Rattle.go_gen.specs.Translation.{no_locals, sets_code, symbol_code}
use Rattle.go_gen.proofs.setup.emit_sets.Given as goal

abbrev pub invariant-loop-variable : goal.invariant-loop-variable
invariant-loop-variable l =
    sets_code (no_locals symbol_code symbol_code) l.path (map (option_map string_bytes) (drop l.variable-index l.variables)) l.rest ++ l.code
    ≡ sets_code (no_locals symbol_code symbol_code) l.path (map (option_map string_bytes) l.variables) l.counts ++ l.initial.code
