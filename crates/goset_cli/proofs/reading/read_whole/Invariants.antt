use Rattle.std.proofs.Common.{◌≡◌, ◌-◌, ◌≤◌, List, ℕ, length, map, vec_len}
use Rattle.goset_cli.specs.Streams.{GrowsBy, Gave}
use Rattle.goset_cli.specs.Reading.{concatenated, limit}
use Rattle.goset_cli.proofs.reading.read_whole.Given as goal

-- the script is the pieces that the reader gave
abbrev pub invariant-pieces : goal.invariant-pieces
invariant-pieces g l = let told = g.R.ScriptIn.told in record {
  so_far : (pieces : List (List ℕ)) × GrowsBy (told l.fn.reader) (told l.reader) (map Gave pieces) × (concatenated pieces ≡ l.script.items);
  fits : length l.script.items ≤ limit;
  no_failure : g.R.ScriptIn.failed l.reader ≡ g.R.ScriptIn.failed l.fn.reader;
}

abbrev pub decreases-pieces : goal.decreases-pieces
decreases-pieces g l = limit - vec_len l.script
