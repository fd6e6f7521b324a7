use Rattle.std.proofs.Common.{◌≡◌, ◌≤◌, length, map, true}
use Rattle.ws_command.specs.Commands.{pairs_of}
use Rattle.ws_command.specs.Lines.{words_of}
use Rattle.ws_command.proofs.Targets.{onto, are_named}
use Rattle.ws_command.proofs.commands.asked_of_targets.Given as goal

abbrev pub invariant-targets : goal.invariant-targets
invariant-targets l = record {
  whole : pairs_of (words_of l.words) ≡ onto (map (λ target. (target.0.now, target.1.now)) l.targets.items) (pairs_of (words_of l.rest));
  named : are_named (map (λ target. (target.0.now, target.1.now)) l.targets.items) ≡ true;
  few : length l.targets.items ≤ 64;
}

abbrev pub decreases-targets : goal.decreases-targets
decreases-targets l = length (words_of l.rest)
