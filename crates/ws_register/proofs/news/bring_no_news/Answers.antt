use Rattle.std.proofs.Common.{subst}
use Rattle.ws_register.specs.Pages.{AllPathsBelow}
use Rattle.ws_register.proofs.Walks.{walk-more, walk-ended, first_is}
use Rattle.ws_register.proofs.news.bring_no_news.Goals as goal

pub theirs-preserved : goal.theirs-preserved
theirs-preserved c =
    let w = c.in-Some.write.now in
    let passed = c.pass_below.ensures in
    let known = c.is_news.ensures c.if-is_news.false in
    let found = first_is c.first.result c.pass_below.new.self (w.0, known.0) c.first.ensures known.1 in
    walk-more c.args.mine.now c.args.theirs.now c.theirs.mine c.theirs.theirs passed.0 c.pass_below.new.self c.next.new.self found.0 w known.0
    c.theirs.invariant c.in-Some.ensures passed.1 (subst (AllPathsBelow passed.0) c.path.ensures passed.2) found.1 known.2

pub returns : goal.returns
returns c so = walk-ended c.args.mine.now c.args.theirs.now c.theirs.mine c.theirs.theirs c.theirs.invariant c.in_default.ensures.0
