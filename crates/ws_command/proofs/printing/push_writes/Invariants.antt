use Rattle.std.proofs.Common.{◌≡◌, ◌++◌, drop}
use Rattle.std.specs.List.{flat_map}
use Rattle.ws_command.specs.ShowPrinting.{write_text}
use Rattle.ws_command.proofs.printing.push_writes.Given as goal

abbrev pub invariant-loop-write : goal.invariant-loop-write
invariant-loop-write l = l.out.items ++ flat_map write_text (drop l.write-index l.writes) ≡ l.fn.out.items ++ flat_map write_text l.writes
