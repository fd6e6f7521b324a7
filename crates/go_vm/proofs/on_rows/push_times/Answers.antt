use Rattle.std.proofs.Common.{◌++◌, ap, ◌∙◌}
use Rattle.go_vm.proofs.Rows.{repeat_more}
use Rattle.go_vm.proofs.on_rows.push_times.Goals as goal

pub loop-preserved : goal.loop-preserved
loop-preserved c =
    c.in_ok-push_copies.ensures.added ∙ ap (λ l. l ++ c.args.cells.now) c.loop.invariant ∙ repeat_more c.loop.counter c.args.row.now.items c.args.cells.now
