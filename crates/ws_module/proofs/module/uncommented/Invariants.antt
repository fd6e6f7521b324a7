use Rattle.std.proofs.Common.{◌≡◌, ◌≤◌, ◌++◌, ◌-◌, length, take, drop}
use Rattle.ws_module.specs.Modules.{uncommented}
use Rattle.ws_module.proofs.module.uncommented.Given as goal

-- no comment begins at the bytes so far
abbrev pub invariant-loop-at : goal.invariant-loop-at
invariant-loop-at l = record {
  in_range : l.at ≤ length l.line;
  so_far : uncommented l.line ≡ take l.at l.line ++ uncommented (drop l.at l.line);
}

abbrev pub decreases-loop-at : goal.decreases-loop-at
decreases-loop-at l = length l.line - l.at
