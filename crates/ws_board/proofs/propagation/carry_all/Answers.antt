use Rattle.std.proofs.Common.{◌+◌, ◌*◌, length, arith}
use Rattle.ws_board.specs.Propagation.{held_by}
use Rattle.ws_board.proofs.Onward.{carries_then, spare_is}
use Rattle.ws_board.proofs.propagation.carry_all.Goals as goal

pub propagate-requires : goal.propagate-requires
propagate-requires c =
    let p = c.in_ok-advance_all.ensures in
    record { good = p.on.good; room = omega (arith, c.requires.room, p.on.paid); waits = p.waits }

pub returns-clause-on : goal.returns-clause-on
returns-clause-on c =
    let h = held_by c.args.holds in
    let n = length c.args.rows.now.rows in
    spare_is h (3 * n + 0) (3 * n) c.args.rows.now c.propagate.new.rows c.args.moves.now c.propagate.new.moves c.args.looks.now c.propagate.new.looks (omega arith)
    (carries_then h (3 * n) 0 c.args.rows.now c.advance_all.new.rows c.propagate.new.rows c.args.moves.now c.advance_all.new.moves c.propagate.new.moves c.args.looks.now c.advance_all.new.looks c.propagate.new.looks c.requires.good
    c.in_ok-advance_all.ensures.on c.in_ok-propagate.ensures.on)

pub returns-clause-read : goal.returns-clause-read
returns-clause-read c = omega (arith, c.in_ok-advance_all.ensures.read, c.in_ok-propagate.ensures.on.more)
