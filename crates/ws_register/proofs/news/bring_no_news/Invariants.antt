use Rattle.std.proofs.Common.{length}
use Rattle.ws_register.proofs.Walks.{IsWalked}
use Rattle.ws_register.proofs.news.bring_no_news.Given as goal

abbrev pub invariant-theirs : goal.invariant-theirs
invariant-theirs l = IsWalked l.fn.mine l.fn.theirs l.mine l.theirs

abbrev pub decreases-theirs : goal.decreases-theirs
decreases-theirs l = length l.theirs
