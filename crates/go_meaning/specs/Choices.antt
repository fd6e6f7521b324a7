-- Which operators of cells the operators of expressions are, by the type of their operands.
use Rattle.std.specs.Prelude.{ℕ, zero, suc, nat_eq, List, [], ◌∷◌, length, Option, Some, None, if◌then◌else◌}
use Rattle.std.specs.List.{flat_map}
use Rattle.go_const.specs.declared.constant.Const.{Const}
use Rattle.go_const.specs.declared.constant.Const.TheVariants as consts
use Rattle.go_const.specs.declared.operator.UnaryOperator.{UnaryOperator}
use Rattle.go_const.specs.declared.operator.UnaryOperator.TheVariants.{Negative, Complement, Negation}
use Rattle.go_const.specs.declared.operator.ArithmeticOperator.TheVariants.{Add}
use Rattle.go_const.specs.declared.operator.ComparisonOperator.TheVariants.{Equal, NotEqual}
use Rattle.go_types.specs.declared.types.Basic.TheVariants as basics
use Rattle.go_types.specs.Types.{Type', basic, array, slice, struct, Fields, no_fields, field}
use Rattle.go_types.specs.Sizes.{cells}
use Rattle.go_code.specs.declared.cell.Cell.{Cell}
use Rattle.go_code.specs.declared.cell.Cell.TheVariants.{Int, Bool as Truth, Text}
use Rattle.go_code.specs.declared.operator.Operator as code
use Rattle.go_code.specs.declared.operator.Operator.TheVariants as on_cells
use Rattle.go_code.specs.declared.operator.TextOperator.TheVariants.{Join, Length, Cut}
use Rattle.go_code.specs.declared.operator.SliceOperator.TheVariants as on_slices
use Rattle.go_code.specs.Operators.{Operated, Gives, Senseless, operands, operate}
use Rattle.go_typed.specs.declared.expression.Operator.{Operator}
use Rattle.go_typed.specs.declared.expression.Operator.TheVariants.{Arithmetic as arithmetic, Shift as shift, Comparison as comparison}
use Rattle.go_meaning.specs.Values.{Value, single, flat, if_gives}

-- a constant's cell
abbrev pub cell_of : Const → Cell
cell_of (consts.Integer z) = Int z
cell_of (consts.Text t) = Text t
cell_of (consts.Bool b) = Truth b

-- https://go.dev/ref/spec#Operators
-- the operators of cells, one behind the other, at an underlying type
abbrev pub unary_operators : Type' → UnaryOperator → List code.Operator
unary_operators s Negation = on_cells.Not ∷ []
unary_operators (basic (basics.Integer i)) Negative = on_cells.Negate i ∷ []
unary_operators (basic (basics.Integer i)) Complement = on_cells.Complement i ∷ []
unary_operators s op = []

abbrev pub binary_operators : Type' → Operator → List code.Operator
binary_operators s (comparison Equal) = on_cells.Equal (cells s) ∷ []
binary_operators s (comparison NotEqual) = on_cells.Equal (cells s) ∷ on_cells.Not ∷ []
binary_operators s (comparison op) = on_cells.Compare op ∷ []
binary_operators (basic (basics.Integer i)) (arithmetic op) = on_cells.Arithmetic op i ∷ []
binary_operators (basic (basics.Integer i)) (shift op) = on_cells.Shift op i ∷ []
binary_operators (basic basics.String) (arithmetic Add) = on_cells.Text Join ∷ []
binary_operators s op = []

-- https://go.dev/ref/spec#Conversions
-- a number becomes one of an integer type; any other value stays as it is
abbrev pub conversion_operators : Type' → List code.Operator
conversion_operators (basic (basics.Integer i)) = on_cells.Convert i ∷ []
conversion_operators s = []

-- https://go.dev/ref/spec#Length_and_capacity, Slice_expressions
-- of a slice; else of a string
abbrev pub length_operators : Type' → List code.Operator
length_operators (slice t) = on_cells.Slice on_slices.Length ∷ []
length_operators s = on_cells.Text Length ∷ []

abbrev pub cut_operators : Type' → List code.Operator
cut_operators (slice t) = on_cells.Slice on_slices.Cut ∷ []
cut_operators s = on_cells.Text Cut ∷ []

abbrev pub capacity_operators : List code.Operator
capacity_operators = on_cells.Slice on_slices.Capacity ∷ []

-- an operator of cells takes as many as it has operands
abbrev pub applied : code.Operator → List Cell → Operated Cell
applied operator row = if nat_eq (length row) (operands operator) then operate operator row else Senseless

-- operators one behind the other, each of what the one before gives; without any a value stays as it is
abbrev pub operated : List code.Operator → List Value → Operated Value
operated [] (v ∷ []) = Gives v
operated [] vs = Senseless
operated (operator ∷ operators) vs = if_gives (applied operator (flat_map flat vs)) (λ c. operated operators (single c ∷ []))

-- ---- the types of parts, where there are such

-- https://go.dev/ref/spec#Selectors
abbrev pub field_at : Fields → ℕ → Option Type'
field_at no_fields n = None
field_at (field p x t fs) zero = Some t
field_at (field p x t fs) (suc n) = field_at fs n

abbrev pub field_type : Type' → ℕ → Option Type'
field_type (struct fs) n = field_at fs n
field_type s n = None

abbrev pub element_type : Type' → Option Type'
element_type (array n t) = Some t
element_type (slice t) = Some t
element_type s = None
