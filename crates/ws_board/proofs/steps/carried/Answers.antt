use Rattle.std.proofs.Common.{◌≡◌, ◌∙◌, ap, arith}
use Rattle.ws_board.specs.Propagation.{held_by}
use Rattle.ws_board.specs.Rows.{untold}
use Rattle.ws_board.proofs.Finishing.{marked_carried, marked_waiting, finishes_rows}
use Rattle.ws_board.proofs.Onward.{undone_then}
use Rattle.ws_board.proofs.steps.carried.Goals as goal

pub mark-requires-clause-room : goal.mark-requires-clause-room
mark-requires-clause-room c =
    let none : untold c.args.rows.now.importers.items c.args.moves.now.settled.items ≡ 0 = ap (untold c.args.rows.now.importers.items) c.requires.none.0 in
    omega (arith, none, c.requires.room)

pub propagate-requires-clause-good : goal.propagate-requires-clause-good
propagate-requires-clause-good c =
    marked_carried (held_by c.args.holds) c.args.id.now c.args.good c.args.rows.now c.mark.new.rows c.mark.new.moves c.requires.good c.in_ok-mark.ensures.marks c.in_ok-mark.ensures.parts.0 c.in_ok-mark.ensures.parts.1

pub propagate-requires-clause-waits : goal.propagate-requires-clause-waits
propagate-requires-clause-waits c =
    marked_waiting (held_by c.args.holds) c.args.id.now c.args.good c.args.rows.now c.mark.new.rows c.mark.new.moves c.requires.good c.in_ok-mark.ensures.marks c.in_ok-mark.ensures.parts.0 c.in_ok-mark.ensures.parts.1
    c.requires.waits

pub propagate-requires-clause-room : goal.propagate-requires-clause-room
propagate-requires-clause-room c =
    let none : untold c.args.rows.now.importers.items c.args.moves.now.settled.items ≡ 0 = ap (untold c.args.rows.now.importers.items) c.requires.none.0 in
    omega (arith, none, c.requires.room, c.in_ok-mark.ensures.paid)

pub returns-in_err-propagate-clause-undone : goal.returns-in_err-propagate-clause-undone
returns-in_err-propagate-clause-undone c =
    undone_then c.args.rows.now c.mark.new.rows c.propagate.new.rows c.args.moves.now c.mark.new.moves c.propagate.new.moves c.mark.ensures.undone c.propagate.ensures.undone

pub returns-clause-undone : goal.returns-clause-undone
returns-clause-undone c =
    undone_then c.args.rows.now c.mark.new.rows c.propagate.new.rows c.args.moves.now c.mark.new.moves c.propagate.new.moves c.mark.ensures.undone c.propagate.ensures.undone

pub returns-clause-ok : goal.returns-clause-ok
returns-clause-ok c =
    finishes_rows (held_by c.args.holds) c.args.id.now c.args.good c.args.rows.now c.mark.new.rows c.mark.new.moves c.requires.good c.in_ok-mark.ensures.marks c.in_ok-mark.ensures.parts.0 c.in_ok-mark.ensures.parts.1
    c.propagate.new.rows c.propagate.new.moves c.mark.new.looks c.propagate.new.looks (c.in_ok-mark.ensures.ready ∙ c.requires.none.1) c.in_ok-propagate.ensures.on c.in_ok-propagate.ensures.waits

pub returns-clause-paid : goal.returns-clause-paid
returns-clause-paid c =
    let none : untold c.args.rows.now.importers.items c.args.moves.now.settled.items ≡ 0 = ap (untold c.args.rows.now.importers.items) c.requires.none.0 in
    omega (arith, none, c.in_ok-mark.ensures.paid, c.in_ok-propagate.ensures.on.paid)

pub returns-clause-more : goal.returns-clause-more
returns-clause-more c = omega (arith, c.in_ok-mark.ensures.more, c.in_ok-propagate.ensures.on.more)
