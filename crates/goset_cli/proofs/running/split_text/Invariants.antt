use Rattle.std.proofs.Common.{List, ℕ}
use Rattle.goset_cli.proofs.Texts.{IsFront}
use Rattle.goset_cli.proofs.running.split_text.Given as goal

abbrev pub invariant-lines : goal.invariant-lines
invariant-lines l = (front : List ℕ) × IsFront l.fn.script front l.rest l.fn.lines l.left

abbrev pub decreases-lines : goal.decreases-lines
decreases-lines l = l.left
