use Rattle.std.proofs.Common.{◌≡◌, ◌+◌, ◌++◌, length}
use Rattle.ws_register.specs.Pages.{Ascends, joined_writes}
use Rattle.ws_register.proofs.merge.merge_rests.Given as goal

-- what is written, and what the rests hold together
abbrev pub invariant-steps : goal.invariant-steps
invariant-steps l = (l.draft ++ joined_writes l.mine l.theirs ≡ l.fn.draft ++ joined_writes l.fn.mine l.fn.theirs) × Ascends l.mine × Ascends l.theirs

abbrev pub decreases-steps : goal.decreases-steps
decreases-steps l = length l.mine + length l.theirs
