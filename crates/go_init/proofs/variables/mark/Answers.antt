use Rattle.std.proofs.Common.{true, sym, arith}
use Rattle.go_init.proofs.Marked.{set_past}
use Rattle.go_init.proofs.variables.mark.Goals as goal

pub returns-else-number-len : goal.returns-else-number-len
returns-else-number-len c = sym (set_past c.args.marks.now.items c.args.number true (omega (arith, c.if-number-len.false, c.len.ensures, c.args.marks.now.ok.0)))
