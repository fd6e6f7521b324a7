-- Constants are exact: what an operator gives, or what is wrong with it.
use Rattle.std.specs.Prelude.{◌≡◌, ℕ, ◌-◌, ◌^◌, ◌++◌, List, length, Bool, true, false, ◌&&◌, ◌||◌, not, nat_le, nat_lt, ℤ, pos, negsuc, ◌+ℤ◌, ◌-ℤ◌, ◌*ℤ◌, neg_ℤ, int_div, int_rem, unsigned_abs, if◌then◌else◌, Option, Some, None, Result, Ok, Err}
use Rattle.std.specs.Int.{w128, int_bit_and, int_bit_or, int_bit_xor, int_shr}
use Rattle.std.specs.declared.cmp.Ordering.{Ordering}
use Rattle.std.specs.Ordering.{is_eq, is_ne, is_lt, is_le, is_gt, is_ge, int_eq, int_cmp, nat_cmp, bool_cmp}
use Rattle.std.specs.Cmp.Lexicographic.{slice_cmp}
use Rattle.go_const.specs.declared.constant.Const.{Const}
use Rattle.go_const.specs.declared.constant.Const.TheVariants.{Integer, Text, Bool as Truth}
use Rattle.go_const.specs.declared.error.ConstError.{ConstError}
use Rattle.go_const.specs.declared.error.ConstError.TheVariants as errors
use Rattle.go_const.specs.declared.kind.IntKind.{IntKind}
use Rattle.go_const.specs.declared.kind.IntKind.TheVariants.{Int, Int8, Int16, Int32, Int64, Uint, Uint8, Uint16, Uint32, Uint64}
use Rattle.go_const.specs.declared.operator.UnaryOperator.{UnaryOperator}
use Rattle.go_const.specs.declared.operator.UnaryOperator.TheVariants.{Positive, Negative, Complement, Negation}
use Rattle.go_const.specs.declared.operator.ArithmeticOperator.{ArithmeticOperator}
use Rattle.go_const.specs.declared.operator.ArithmeticOperator.TheVariants.{Add, Subtract, Multiply, Divide, Remainder, BitAnd, BitOr, BitXor, AndNot}
use Rattle.go_const.specs.declared.operator.ComparisonOperator.{ComparisonOperator}
use Rattle.go_const.specs.declared.operator.ComparisonOperator.TheVariants.{Equal, NotEqual, Less, LessOrEqual, Greater, GreaterOrEqual}
use Rattle.go_const.specs.declared.operator.BinaryOperator.{BinaryOperator}
use Rattle.go_const.specs.declared.operator.BinaryOperator.TheVariants.{Arithmetic, Comparison, LogicalAnd, LogicalOr}
use Rattle.go_const.specs.declared.operator.ShiftOperator.{ShiftOperator}
use Rattle.go_const.specs.declared.operator.ShiftOperator.TheVariants.{Left, Right}

-- https://go.dev/ref/spec#Numeric_types
-- how many negative numbers an integer type has, and how many others; without a type they have 128 bits
abbrev pub sizes : Option IntKind → ℕ × ℕ
sizes None = (2 ^ 127, 2 ^ 127)
sizes (Some Int) = (2 ^ 63, 2 ^ 63)
sizes (Some Int8) = (2 ^ 7, 2 ^ 7)
sizes (Some Int16) = (2 ^ 15, 2 ^ 15)
sizes (Some Int32) = (2 ^ 31, 2 ^ 31)
sizes (Some Int64) = (2 ^ 63, 2 ^ 63)
sizes (Some Uint) = (0, 2 ^ 64)
sizes (Some Uint8) = (0, 2 ^ 8)
sizes (Some Uint16) = (0, 2 ^ 16)
sizes (Some Uint32) = (0, 2 ^ 32)
sizes (Some Uint64) = (0, 2 ^ 64)

-- the number is one of them
abbrev pub fits : Option IntKind → ℤ → Bool
fits kind (pos n) = nat_lt n (sizes kind).1
fits kind (negsuc n) = nat_lt n (sizes kind).0

-- https://go.dev/ref/spec#Representability
-- a number as a constant of that type or of none, or what is wrong with it
abbrev pub represent : Option IntKind → ℤ → Result Const ConstError
represent None z = if fits None z then Ok (Integer z) else Err errors.Constant
represent (Some kind) z = if fits (Some kind) z then Ok (Integer z) else Err errors.Range

-- a text as a constant, or what is wrong with it
abbrev pub represent_text : List ℕ → Result Const ConstError
represent_text text = if nat_le (length text) 16777216 then Ok (Text text) else Err errors.Constant

-- https://go.dev/ref/spec#Arithmetic_operators
-- the number whose bits are all 1: the greatest of an unsigned type, and else -1
abbrev pub ones : Option IntKind → ℤ
ones kind = pos ((sizes kind).1 - (sizes kind).0) -ℤ pos 1

abbrev pub unary : UnaryOperator → Option IntKind → Const → Result Const ConstError
unary Positive kind (Integer z) = represent kind z
unary Negative kind (Integer z) = represent kind (neg_ℤ z)
unary Complement kind (Integer z) = represent kind (ones kind -ℤ z)
unary Negation kind (Truth b) = Ok (Truth (not b))
unary operator kind x = Err errors.Mismatch

-- the exact number; quotients are truncated
abbrev pub arithmetic : ArithmeticOperator → ℤ → ℤ → ℤ
arithmetic Add x y = x +ℤ y
arithmetic Subtract x y = x -ℤ y
arithmetic Multiply x y = x *ℤ y
arithmetic Divide x y = int_div x y
arithmetic Remainder x y = int_rem x y
arithmetic BitAnd x y = int_bit_and w128 x y
arithmetic BitOr x y = int_bit_or w128 x y
arithmetic BitXor x y = int_bit_xor w128 x y
arithmetic AndNot x y = int_bit_and w128 x (negsuc 0 -ℤ y)

abbrev pub divides : ArithmeticOperator → Bool
divides Divide = true
divides Remainder = true
divides operator = false

-- https://go.dev/ref/spec#Comparison_operators
-- the comparison holds of two values that compare so
abbrev pub holds : ComparisonOperator → Ordering → Bool
holds Equal order = is_eq order
holds NotEqual order = is_ne order
holds Less order = is_lt order
holds LessOrEqual order = is_le order
holds Greater order = is_gt order
holds GreaterOrEqual order = is_ge order

-- https://go.dev/ref/spec#Constant_expressions
-- of two constants of one type
abbrev pub binary : BinaryOperator → Option IntKind → Const → Const → Result Const ConstError
binary (Arithmetic operator) kind (Integer x) (Integer y) =
    if divides operator && int_eq y (pos 0) then Err errors.Divide else represent kind (arithmetic operator x y)
binary (Arithmetic Add) kind (Text s) (Text t) = represent_text (s ++ t)
binary (Comparison operator) kind (Integer x) (Integer y) = Ok (Truth (holds operator (int_cmp x y)))
binary (Comparison operator) kind (Text s) (Text t) = Ok (Truth (holds operator (slice_cmp nat_cmp s t)))
binary (Comparison Equal) kind (Truth a) (Truth b) = Ok (Truth (is_eq (bool_cmp a b)))
binary (Comparison NotEqual) kind (Truth a) (Truth b) = Ok (Truth (is_ne (bool_cmp a b)))
binary LogicalAnd kind (Truth a) (Truth b) = Ok (Truth (a && b))
binary LogicalOr kind (Truth a) (Truth b) = Ok (Truth (a || b))
binary operator kind x y = Err errors.Mismatch

-- two texts become one
abbrev pub Concatenates : BinaryOperator → Const → Const → Type 0
Concatenates operator x y = (operator ≡ Arithmetic Add) × ((s t : List ℕ) × (x ≡ Text s) × (y ≡ Text t))

-- to the right is rounded down; what isn't zero is no constant 128 bits to the left
abbrev pub shifted : ShiftOperator → Option IntKind → ℤ → ℕ → Result Const ConstError
shifted Right kind z count = represent kind (int_shr z count)
shifted Left kind z count =
    if nat_le 128 count && not (int_eq z (pos 0)) then Err errors.Constant else represent kind (z *ℤ pos (2 ^ count))

-- the count is a uint
abbrev pub shift : ShiftOperator → Option IntKind → Const → Const → Result Const ConstError
shift operator kind (Integer z) (Integer count) =
    if fits (Some Uint) count then shifted operator kind z (unsigned_abs count) else Err errors.Range
shift operator kind x y = Err errors.Mismatch
