use Rattle.go_gen.proofs.Made.{element_kept}
use Rattle.go_gen.proofs.zero.push_repeated.Goals as goal

pub loop-preserved : goal.loop-preserved
loop-preserved c v same =
    element_kept c.args.found.now.items c.loop.found.items _ c.args.one.now c.loop.counter v same (c.loop.invariant v same) c.in_ok-push_copies.ensures
