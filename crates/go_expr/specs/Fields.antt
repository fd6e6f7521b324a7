-- How the code's fields stand for those of the definitions.
use Rattle.std.specs.Prelude.{ℕ, List, Option, option_map, string_bytes}
use Rattle.go_types.specs.declared.types.Field.{Field}
use Rattle.go_types.specs.Types.{Type'}
use Rattle.go_types.specs.Views.{go_type}

-- a field: the path of its package where its name isn't exported, its name, and its type
abbrev pub typed_field : Field → Option (List ℕ) × (List ℕ × Type')
typed_field f = (option_map string_bytes f.package, (string_bytes f.name, go_type f.of))
