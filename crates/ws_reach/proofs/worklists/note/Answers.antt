use Rattle.std.proofs.Common.{◌≡◌, ◌<◌, false, length, arith}
use Rattle.std.proofs.lemmas.Grind.{common_steps}
use Rattle.ws_reach.specs.Worklist.{is_marked}
use Rattle.ws_reach.proofs.Marks.{marks_more}
use Rattle.ws_reach.proofs.worklists.note.Goals as goal

pub returns-clause-kept : goal.returns-clause-kept
returns-clause-kept c =
    let marks = c.args.marks.now.items in
    let inside : c.args.node < length marks = omega arith in
    let fresh : is_marked marks c.args.node ≡ false = grind (arith, common_steps, c.if-index.false) in
    rw (c.mark.ensures, c.in_ok-push.ensures.items) (marks_more marks c.args.found.now.items c.args.node c.requires.marks inside fresh)
