-- Which tokens are operators, and how tightly they bind.
use Rattle.std.specs.Prelude.{ℕ, Option, Some, None}
use Rattle.go_scan.specs.declared.token.TokenKind.{TokenKind}
use Rattle.go_scan.specs.declared.token.TokenKind.TheVariants as kinds
use Rattle.go_scan.specs.declared.punctuation.Punctuation.TheVariants as marks
use Rattle.go_ast.specs.Trees.{UnaryOperator, positive, negative, negation, complement, BinaryOperator, multiply, divide, remainder, shift_left, shift_right, bit_and, and_not, add, subtract, bit_or, bit_xor, equal, not_equal, less, less_or_equal, greater, greater_or_equal, logical_and, logical_or}

abbrev pub unary_of : TokenKind → Option UnaryOperator
unary_of (kinds.Punctuation marks.Plus) = Some positive
unary_of (kinds.Punctuation marks.Minus) = Some negative
unary_of (kinds.Punctuation marks.Not) = Some negation
unary_of (kinds.Punctuation marks.Caret) = Some complement
unary_of _ = None

abbrev pub binary_of : TokenKind → Option BinaryOperator
binary_of (kinds.Punctuation marks.Star) = Some multiply
binary_of (kinds.Punctuation marks.Slash) = Some divide
binary_of (kinds.Punctuation marks.Percent) = Some remainder
binary_of (kinds.Punctuation marks.ShiftLeft) = Some shift_left
binary_of (kinds.Punctuation marks.ShiftRight) = Some shift_right
binary_of (kinds.Punctuation marks.Ampersand) = Some bit_and
binary_of (kinds.Punctuation marks.AndNot) = Some and_not
binary_of (kinds.Punctuation marks.Plus) = Some add
binary_of (kinds.Punctuation marks.Minus) = Some subtract
binary_of (kinds.Punctuation marks.Pipe) = Some bit_or
binary_of (kinds.Punctuation marks.Caret) = Some bit_xor
binary_of (kinds.Punctuation marks.Equal) = Some equal
binary_of (kinds.Punctuation marks.NotEqual) = Some not_equal
binary_of (kinds.Punctuation marks.Less) = Some less
binary_of (kinds.Punctuation marks.LessOrEqual) = Some less_or_equal
binary_of (kinds.Punctuation marks.Greater) = Some greater
binary_of (kinds.Punctuation marks.GreaterOrEqual) = Some greater_or_equal
binary_of (kinds.Punctuation marks.LogicalAnd) = Some logical_and
binary_of (kinds.Punctuation marks.LogicalOr) = Some logical_or
binary_of _ = None

-- the operator of an assignment such as `+=`
abbrev pub assignment_of : TokenKind → Option BinaryOperator
assignment_of (kinds.Punctuation marks.StarAssign) = Some multiply
assignment_of (kinds.Punctuation marks.SlashAssign) = Some divide
assignment_of (kinds.Punctuation marks.PercentAssign) = Some remainder
assignment_of (kinds.Punctuation marks.ShiftLeftAssign) = Some shift_left
assignment_of (kinds.Punctuation marks.ShiftRightAssign) = Some shift_right
assignment_of (kinds.Punctuation marks.AmpersandAssign) = Some bit_and
assignment_of (kinds.Punctuation marks.AndNotAssign) = Some and_not
assignment_of (kinds.Punctuation marks.PlusAssign) = Some add
assignment_of (kinds.Punctuation marks.MinusAssign) = Some subtract
assignment_of (kinds.Punctuation marks.PipeAssign) = Some bit_or
assignment_of (kinds.Punctuation marks.CaretAssign) = Some bit_xor
assignment_of _ = None

-- how many levels of operators bind tighter: 0 for the tightest
abbrev pub tighter : BinaryOperator → ℕ
tighter logical_or = 4
tighter logical_and = 3
tighter add = 1
tighter subtract = 1
tighter bit_or = 1
tighter bit_xor = 1
tighter multiply = 0
tighter divide = 0
tighter remainder = 0
tighter shift_left = 0
tighter shift_right = 0
tighter bit_and = 0
tighter and_not = 0
tighter _ = 2
