use Rattle.std.proofs.Common.{◌≤◌, length, arith}
use Rattle.std.specs.Prelude.{option_map}
use Rattle.go_expr.specs.Views.{declared_of}
use Rattle.go_objects.proofs.Written.{written, not_written}
use Rattle.go_objects.proofs.table.put.Goals as goal

pub returns-then-number-len : goal.returns-then-number-len
returns-then-number-len c = written c.args.known.now.entries c.args.number c.args.declared

pub returns-else-number-len : goal.returns-else-number-len
returns-else-number-len c =
    let past : length c.args.known.now.entries ≤ c.args.number = omega (arith, c.len.ensures.len, c.if-number-len.false) in
    not_written c.args.known.now.entries c.args.number (option_map declared_of c.args.declared) past
