use Rattle.std.proofs.Common.{◌≡◌, ◌-◌, ◌≤◌, length, take}
use Rattle.goset_cli.specs.Streams.{GrowsBy}
use Rattle.goset_cli.proofs.writing.write_whole.Given as goal

-- what is written is the bytes that are done
abbrev pub invariant-loop-done : goal.invariant-loop-done
invariant-loop-done g l = let written = g.W.ScriptOut.written in record {
  in_range : l.done ≤ length l.bytes;
  so_far : GrowsBy (written l.fn.writer) (written l.writer) (take l.done l.bytes);
  no_failure : g.W.ScriptOut.failed l.writer ≡ g.W.ScriptOut.failed l.fn.writer;
}

abbrev pub decreases-loop-done : goal.decreases-loop-done
decreases-loop-done g l = length l.initial.bytes - l.done
