use Rattle.std.proofs.Common.{◌≡◌, length}
use Rattle.ws_command.specs.Lines.{lines_of}
use Rattle.ws_module.specs.Modules.{module_word}
use Rattle.ws_module.proofs.module.module_word.Given as goal

-- no directive is on the lines so far
abbrev pub invariant-loop-rest : goal.invariant-loop-rest
invariant-loop-rest l = module_word (lines_of l.lines) ≡ module_word (lines_of l.rest)

abbrev pub decreases-loop-rest : goal.decreases-loop-rest
decreases-loop-rest l = length l.rest
