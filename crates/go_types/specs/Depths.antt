-- The parts of a type have fewer nodes than the type.
use Rattle.std.specs.Prelude.{◌≤◌, max, List, [], ◌∷◌}
use Rattle.std.proofs.Common.{arith}
use denote.Param.Weighed.{most}
use Rattle.go_types.specs.declared.types.Field.{Field}
use Rattle.go_types.specs.declared.types.GoType.{GoType}
use Rattle.go_types.specs.declared.types.GoType.TheVariants.{Basic, Array, Slice, Struct, Named}
use Rattle.go_types.specs.declared.types.Element.TheDeep.{deep-GoType, deep-Field}
use Rattle.go_types.specs.Views.{go_type, fields_in}
use Rattle.go_types.specs.Sizes.{nodes, nodes_of}

pub parts_fall : (t : GoType) → max (deep-GoType t) 0 ≤ nodes (go_type t)
parts_fall (Basic b) = omega arith
parts_fall (Array n e) = omega arith
parts_fall (Slice e) = omega arith
parts_fall (Struct f) = omega arith
parts_fall (Named n) = omega arith

pub fields_fall : (fs : List Field) → max (most deep-Field fs) 0 ≤ nodes_of (fields_in fs)
fields_fall [] = omega arith
fields_fall (f ∷ fs) = omega (arith, parts_fall f.of, fields_fall fs)
