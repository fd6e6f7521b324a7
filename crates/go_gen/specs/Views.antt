-- Which places the code's layouts say, and which names its variables have.
use Rattle.std.specs.Prelude.{ℕ, List, Option, map, slice_index, option_map, string_bytes, String}
use Rattle.std.specs.Global.{Global}
use Rattle.go_symbol.specs.Symbols as symbols
use Rattle.go_gen.specs.declared.layout.Layout.{Layout}
use Rattle.go_gen.specs.Translation.{Places, no_locals, symbol_code}

abbrev pub places_of : Layout → Places symbols.Symbol
places_of l = record { locals = slice_index l.slots.now; globals = symbol_code; functions = symbol_code }

-- outside of functions there are no local variables
abbrev pub places_outside : Places symbols.Symbol
places_outside = no_locals symbol_code symbol_code

-- a blank variable has no name
abbrev pub variable_names : List (Option (String Global)) → List (Option (List ℕ))
variable_names variables = map (option_map string_bytes) variables
