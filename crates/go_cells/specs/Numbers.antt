-- How many numbers a type has, and shifted numbers.
use Rattle.std.specs.Prelude.{ℕ, ◌+◌, ◌^◌, ℤ, pos, ◌*ℤ◌, Some}
use Rattle.std.specs.Int.{int_shr}
use Rattle.go_const.specs.Constants.{sizes}
use Rattle.go_const.specs.declared.kind.IntKind.{IntKind}
use Rattle.go_const.specs.declared.operator.ShiftOperator.{ShiftOperator}
use Rattle.go_const.specs.declared.operator.ShiftOperator.TheVariants.{Left, Right}

-- how many numbers a type has
abbrev pub numbers : IntKind → ℕ
numbers kind = (sizes (Some kind)).0 + (sizes (Some kind)).1

-- a number doubled so often, or halved and rounded down
abbrev pub shifted_number : ShiftOperator → ℤ → ℕ → ℤ
shifted_number Left z count = z *ℤ pos (2 ^ count)
shifted_number Right z count = int_shr z count
