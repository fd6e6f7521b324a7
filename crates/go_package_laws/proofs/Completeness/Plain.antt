-- Operators on constants never lack memory, by their definitions.
use Rattle.std.proofs.Common.{ℕ, ℤ, pos, not, ◌&&◌, Option, Some, None, Result, Ok, Err, List, ◌++◌, inl, inr}
use Rattle.std.specs.Prelude.{nat_le, length, unsigned_abs, neg_ℤ}
use Rattle.std.specs.Ordering.{int_eq}
use Rattle.std.proofs.lemmas.Bool.{cases_Bool}
use Rattle.go_const.specs.declared.constant.Const.{Const}
use Rattle.go_const.specs.declared.constant.Const.TheVariants.{Integer, Text, Bool as Truth}
use Rattle.go_const.specs.declared.error.ConstError.{ConstError}
use Rattle.go_const.specs.declared.error.ConstError.TheVariants as errors
use Rattle.go_const.specs.declared.kind.IntKind.{IntKind}
use Rattle.go_const.specs.declared.kind.IntKind.TheVariants.{Uint}
use Rattle.go_const.specs.declared.operator.UnaryOperator.{UnaryOperator}
use Rattle.go_const.specs.declared.operator.UnaryOperator.TheVariants.{Positive, Negative, Complement, Negation}
use Rattle.go_const.specs.declared.operator.ArithmeticOperator.{ArithmeticOperator}
use Rattle.go_const.specs.declared.operator.ArithmeticOperator.TheVariants.{Add}
use Rattle.go_const.specs.declared.operator.ComparisonOperator.TheVariants.{Equal, NotEqual}
use Rattle.go_const.specs.declared.operator.BinaryOperator.{BinaryOperator}
use Rattle.go_const.specs.declared.operator.BinaryOperator.TheVariants.{Arithmetic, Comparison, LogicalAnd, LogicalOr}
use Rattle.go_const.specs.declared.operator.ShiftOperator.{ShiftOperator}
use Rattle.go_const.specs.declared.operator.ShiftOperator.TheVariants.{Left, Right}
use Rattle.go_const.specs.Constants.{represent, represent_text, fits, unary, arithmetic, divides, binary, shifted, shift}

-- memory isn't what is wrong
abbrev pub IsPlain : Result Const ConstError → Type 0
IsPlain (Ok c) = Unit {0}
IsPlain (Err errors.Memory) = ⊥
IsPlain (Err k) = Unit {0}

pub represented : (kind : Option IntKind) (z : ℤ) → IsPlain (represent kind z)
represented None z = elim (cases_Bool (fits None z)) [ inl is ↦ rw is tt | inr not_so ↦ rw not_so tt ]
represented (Some kind) z = elim (cases_Bool (fits (Some kind) z)) [ inl is ↦ rw is tt | inr not_so ↦ rw not_so tt ]

joined_text : (text : List ℕ) → IsPlain (represent_text text)
joined_text text = elim (cases_Bool (nat_le (length text) 16777216)) [ inl is ↦ rw is tt | inr not_so ↦ rw not_so tt ]

pub one_operand : (op : UnaryOperator) (kind : Option IntKind) (c : Const) → IsPlain (unary op kind c)
one_operand Positive kind (Integer z) = represented kind z
one_operand Negative kind (Integer z) = represented kind (neg_ℤ z)
one_operand Complement kind (Integer z) = represented kind _
one_operand Negation kind (Truth b) = tt
one_operand op kind c = tt

numbers : (op : ArithmeticOperator) (kind : Option IntKind) (x y : ℤ) → IsPlain (binary (Arithmetic op) kind (Integer x) (Integer y))
numbers op kind x y = elim (cases_Bool (divides op && int_eq y (pos 0))) [ inl is ↦ rw is tt | inr not_so ↦ rw not_so (represented kind (arithmetic op x y)) ]

texts : (op : ArithmeticOperator) (kind : Option IntKind) (x y : List ℕ) → IsPlain (binary (Arithmetic op) kind (Text x) (Text y))
texts Add kind x y = joined_text (x ++ y)
texts op kind x y = tt

pub two_operands : (op : BinaryOperator) (kind : Option IntKind) (c d : Const) → IsPlain (binary op kind c d)
two_operands (Arithmetic op) kind (Integer x) (Integer y) = numbers op kind x y
two_operands (Arithmetic op) kind (Text x) (Text y) = texts op kind x y
two_operands (Arithmetic Add) kind c d = tt
two_operands (Arithmetic op) kind c d = tt
two_operands (Comparison op) kind (Integer x) (Integer y) = tt
two_operands (Comparison op) kind (Text x) (Text y) = tt
two_operands (Comparison Equal) kind (Truth a) (Truth b) = tt
two_operands (Comparison NotEqual) kind (Truth a) (Truth b) = tt
two_operands (Comparison op) kind c d = tt
two_operands LogicalAnd kind (Truth a) (Truth b) = tt
two_operands LogicalOr kind (Truth a) (Truth b) = tt
two_operands op kind c d = tt

moved : (op : ShiftOperator) (kind : Option IntKind) (z : ℤ) (count : ℕ) → IsPlain (shifted op kind z count)
moved Right kind z count = represented kind _
moved Left kind z count = elim (cases_Bool (nat_le 128 count && not (int_eq z (pos 0)))) [ inl is ↦ rw is tt | inr not_so ↦ rw not_so (represented kind _) ]

pub shift_operands : (op : ShiftOperator) (kind : Option IntKind) (c d : Const) → IsPlain (shift op kind c d)
shift_operands op kind (Integer z) (Integer count) =
    elim (cases_Bool (fits (Some Uint) count)) [ inl is ↦ rw is (moved op kind z (unsigned_abs count)) | inr not_so ↦ rw not_so tt ]
shift_operands op kind c d = tt
