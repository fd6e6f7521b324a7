use Rattle.std.proofs.Common.{◌≡◌, drop}
use Rattle.std.specs.Char.{is_digit}
use Rattle.std.specs.List.{filter}
use Rattle.std.specs.Str.Parse.{digits_value_after}
use Rattle.go_expr.specs.Rules.{digits_number}
use Rattle.go_expr.proofs.literal.number_of.Given as goal

abbrev pub invariant-loop-byte : goal.invariant-loop-byte
invariant-loop-byte l = digits_value_after l.base l.number (filter (λ b. is_digit b l.base) (drop l.byte-index l.digits)) ≡ digits_number l.base l.digits
