-- Specifications of constants in a group.
use Rattle.std.specs.Prelude.{Bool, true, false}
use Rattle.go_ast.specs.Trees.{ConstSpec, no_exprs, some_exprs}

-- https://go.dev/ref/spec#Constant_declarations
-- a specification without values means the type and the values of the one before
abbrev pub meant : ConstSpec → ConstSpec → ConstSpec
meant before spec = elim spec.values [ no_exprs ↦ record { names = spec.names; type = before.type; values = before.values } | some_exprs e es ↦ spec ]

abbrev pub is_repeated : ConstSpec → Bool
is_repeated spec = elim spec.values [ no_exprs ↦ true | some_exprs e es ↦ false ]
