-- Each expression and each type has a level.
use Rattle.std.proofs.Common.{◌≤◌, arith}
use Rattle.go_ast.specs.Trees.{TypeExpr, named, qualified, array, slice, struct, Expression, name, integer, rune, string, parenthesized, composite_lit, conversion, selector, index, cut, call, type_operand, unary, binary}
use Rattle.go_ast.specs.Heights.{height, type_height}

pub type_height_positive : (a : TypeExpr) → 1 ≤ type_height a
type_height_positive (named p n) = omega arith
type_height_positive (qualified p m n) = omega arith
type_height_positive (array p e a) = omega arith
type_height_positive (slice p a) = omega arith
type_height_positive (struct p fs) = omega arith

pub height_positive : (e : Expression) → 1 ≤ height e
height_positive (name p text) = omega arith
height_positive (integer p text) = omega arith
height_positive (rune p value) = omega arith
height_positive (string p value) = omega arith
height_positive (parenthesized p e) = omega arith
height_positive (composite_lit p a q es) = omega arith
height_positive (conversion p a e) = omega arith
height_positive (selector p e f) = omega arith
height_positive (index p e i) = omega arith
height_positive (cut p e a b) = omega arith
height_positive (call p e es) = omega arith
height_positive (type_operand p a) = type_height_positive a
height_positive (unary p op e) = omega arith
height_positive (binary p op a b) = omega arith
