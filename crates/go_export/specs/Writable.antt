-- Summaries whose texts tell them.
use Rattle.std.specs.Prelude.{◌≡◌, ◌<◌, ◌^◌, IsTrue, length, None}
use Rattle.std.specs.List.{All}
use Rattle.std.specs.Map.{values_of}
use Rattle.go_const.specs.Constants.{fits}
use Rattle.go_const.specs.declared.constant.Const.{Const}
use Rattle.go_const.specs.declared.constant.Const.TheVariants.{Integer, Text, Bool as Truth}
use Rattle.go_types.specs.declared.types.Basic.{Basic}
use Rattle.go_types.specs.declared.types.Basic.TheVariants as basics
use Rattle.go_types.specs.declared.types.Untyped.{Untyped}
use Rattle.go_types.specs.declared.types.Untyped.TheVariants as kinds
use Rattle.go_types.specs.Relations.{underlying}
use Rattle.go_types.specs.Texts.{IsWritable}
use Rattle.go_types.specs.Types.{Type', basic}
use Rattle.go_export.specs.Exports.{Export, constant, variable, function, type'}
use Rattle.go_export.specs.Summaries.{Summary, summary_text}

-- https://go.dev/ref/spec#Constants
-- the kind of a value, without a type; a rune is an integer
abbrev pub kind_of : Const → Untyped
kind_of (Integer z) = kinds.Int
kind_of (Text bytes) = kinds.String
kind_of (Truth b) = kinds.Bool

-- the kind of the values of a basic type
abbrev pub value_kind : Basic → Untyped
value_kind basics.Bool = kinds.Bool
value_kind basics.String = kinds.String
value_kind (basics.Integer i) = kinds.Int
value_kind (basics.Untyped kinds.Rune) = kinds.Int
value_kind (basics.Untyped kind) = kind

-- the value is of the kind of the type's values
pub record IsValue (t : Type') (c : Const) : Type 0 where
  pub of : Basic
  pub is : underlying t ≡ basic of
  pub kind : value_kind of ≡ kind_of c

-- types are writable, and a constant's value is one of its type
abbrev pub IsShown : Export → Type 0
IsShown (constant t c) = IsWritable t × IsValue t c
IsShown (variable t) = IsWritable t
IsShown (function parameters results) = All IsWritable parameters × All IsWritable results
IsShown (type' t) = IsWritable t

-- an integer has 128 bits
abbrev pub IsSmall : Const → Type 0
IsSmall (Integer z) = IsTrue (fits None z)
IsSmall c = Unit {0}

-- an exported constant does
abbrev pub HasSmall : Export → Type 0
HasSmall (constant t c) = IsSmall c
HasSmall e = Unit {0}

-- all exports can be shown, their integers have 128 bits, and the text's length 64
pub record IsWritten (s : Summary) : Type 0 where
  pub exports : All IsShown (values_of s.exports)
  pub small : All HasSmall (values_of s.exports)
  pub sized : length (summary_text s) < 2 ^ 64
