-- The texts of types.
use Rattle.std.specs.Prelude.{◌≢◌, ℕ, ◌<◌, ◌^◌, List, [], ◌∷◌, ◌++◌, Option, Some, None, codes, ⊤}
use Rattle.std.specs.Fmt.{decimal}
use Rattle.go_const.specs.declared.kind.IntKind.TheVariants as integers
use Rattle.go_types.specs.declared.types.Basic.{Basic}
use Rattle.go_types.specs.declared.types.Basic.TheVariants as basics
use Rattle.go_types.specs.declared.types.Untyped.TheVariants as kinds
use Rattle.go_types.specs.Types.{Type', basic, array, slice, struct, named, Fields, no_fields, field}

-- the name of a basic type
abbrev pub basic_text : Basic → List ℕ
basic_text basics.Bool = codes "bool"
basic_text basics.String = codes "string"
basic_text (basics.Integer integers.Int) = codes "int"
basic_text (basics.Integer integers.Int8) = codes "int8"
basic_text (basics.Integer integers.Int16) = codes "int16"
basic_text (basics.Integer integers.Int32) = codes "int32"
basic_text (basics.Integer integers.Int64) = codes "int64"
basic_text (basics.Integer integers.Uint) = codes "uint"
basic_text (basics.Integer integers.Uint8) = codes "uint8"
basic_text (basics.Integer integers.Uint16) = codes "uint16"
basic_text (basics.Integer integers.Uint32) = codes "uint32"
basic_text (basics.Integer integers.Uint64) = codes "uint64"
basic_text (basics.Untyped kinds.Bool) = codes "untyped bool"
basic_text (basics.Untyped kinds.Int) = codes "untyped int"
basic_text (basics.Untyped kinds.Rune) = codes "untyped rune"
basic_text (basics.Untyped kinds.String) = codes "untyped string"

-- a name, with its package's path where there is one
abbrev pub name_text : Option (List ℕ) → List ℕ → List ℕ
name_text None name = name
name_text (Some path) name = path ++ codes "." ++ name

-- the text of a type
abbrev mutual
  pub type_text : Type' → List ℕ
  type_text (basic b) = basic_text b
  type_text (array n t) = codes "[" ++ decimal n ++ codes "]" ++ type_text t
  type_text (slice t) = codes "[]" ++ type_text t
  type_text (struct fields) = codes "struct{" ++ fields_text fields ++ codes "}"
  type_text (named path name t) = codes "(" ++ name_text (Some path) name ++ codes " " ++ type_text t ++ codes ")"

  pub fields_text : Fields → List ℕ
  fields_text no_fields = []
  fields_text (field p name t fields) = name_text p name ++ codes " " ++ type_text t ++ codes ";" ++ fields_text fields

-- no byte of the text is c
abbrev pub Lacks : ℕ → List ℕ → Type 0
Lacks c [] = ⊤
Lacks c (b ∷ text) = (b ≢ c) × Lacks c text

-- no space and no closing brace stand in the whole, and no dot in the name itself
abbrev pub IsSpelled : Option (List ℕ) → List ℕ → Type 0
IsSpelled p name = Lacks 32 (name_text p name) × Lacks 125 (name_text p name) × Lacks 46 name

-- a type with lengths of 32 bits, and names that are spelled
abbrev mutual
  pub IsWritable : Type' → Type 0
  IsWritable (basic b) = ⊤
  IsWritable (array n t) = (n < 2 ^ 32) × IsWritable t
  IsWritable (slice t) = IsWritable t
  IsWritable (struct fields) = AreWritable fields
  IsWritable (named path name t) = IsSpelled (Some path) name × IsWritable t

  pub AreWritable : Fields → Type 0
  AreWritable no_fields = ⊤
  AreWritable (field p name t fields) = IsSpelled p name × IsWritable t × AreWritable fields
