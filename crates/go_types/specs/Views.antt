-- Which values the code's types are.
use Rattle.std.specs.Prelude.{List, [], ◌∷◌, string_bytes, option_map}
use Rattle.go_types.specs.Types as types
use Rattle.go_types.specs.declared.types.Field.{Field}
use Rattle.go_types.specs.declared.types.GoType.{GoType}
use Rattle.go_types.specs.declared.types.GoType.TheVariants as rust

abbrev pub declared : types.DeclaredType → types.Type'
declared d = types.named d.path d.name d.type

abbrev pub go_type : GoType → types.Type'
go_type (rust.Basic b) = types.basic b
go_type (rust.Array n element) = types.array n element.value
go_type (rust.Slice element) = types.slice element.value
go_type (rust.Struct fields) = types.struct fields.value
go_type (rust.Named named) = declared named.value

abbrev pub fields_in : List Field → types.Fields
fields_in [] = types.no_fields
fields_in (f ∷ fields) = types.field (option_map string_bytes f.package) (string_bytes f.name) (go_type f.of) (fields_in fields)
