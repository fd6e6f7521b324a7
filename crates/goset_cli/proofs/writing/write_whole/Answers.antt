use Rattle.std.proofs.Common.{arith, take, drop}
use Rattle.goset_cli.proofs.Growth.{grows_more, not_zero}
use Rattle.goset_cli.specs.Streams.{GrowsBy}
use Rattle.goset_cli.proofs.writing.write_whole.Goals as goal

pub loop-done-preserved : goal.loop-done-preserved
loop-done-preserved g c =
    let written = g.W.ScriptOut.written in
    let takes : GrowsBy (written c.loop-done.writer) (written c.write.new.self) (take c.in_ok-n.n (drop c.loop-done.done c.args.bytes.now)) = rw (← c.split_at.ensures.back) c.in_ok-n.ensures.takes in
    record {
      in_range = omega (arith, c.in_ok-n.ensures.within, c.split_at.ensures.back_len);
      so_far = grows_more _ _ _ c.args.bytes.now c.loop-done.done c.in_ok-n.n c.loop-done.invariant.so_far takes;
      no_failure = let zero_is = rw (not_zero c.in_ok-n.n c.if-n-eq0.false) at c.in_ok-n.ensures.counts in omega (arith, zero_is, c.loop-done.invariant.no_failure);
    }
