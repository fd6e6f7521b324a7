use Rattle.std.proofs.Common.{arith, length, ◌≤◌}
use Rattle.go_init.proofs.Bearers.{among_next, among_all}
use Rattle.go_init.proofs.edges.add_names.Goals as goal

pub loop-i-preserved : goal.loop-i-preserved
loop-i-preserved c =
    among_next c.args.named.now c.loop-i.named c.add.new.named c.args.names.now c.loop-i.i c.args.number c.name_at.result c.name_at.ensures c.loop-i.invariant c.in_ok-add.ensures

pub returns : goal.returns
returns c =
    let past : length c.args.names.now ≤ c.loop-i.i = omega (arith, c.loop-i-test.false) in
    among_all c.args.named.now c.loop-i.named c.args.names.now c.loop-i.i c.args.number past c.loop-i.invariant
