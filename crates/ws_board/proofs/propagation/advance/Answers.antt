use Rattle.std.proofs.Common.{◌≡◌, ◌≤◌, ◌+◌, false, Option, IfSome, IfNone, refl, ◌∙◌, subst, arith}
use Rattle.std.specs.Prelude.{if◌then◌else◌}
use Rattle.ws_board.specs.declared.table.Row.{Row}
use Rattle.ws_board.specs.Machine.{is_open, is_waiting}
use Rattle.ws_board.specs.Propagation.{held_by}
use Rattle.ws_board.specs.Rows.{due, importer_reads, RowBecomes}
use Rattle.ws_board.specs.Table.{row_at}
use Rattle.ws_board.proofs.Advanced.{advanced, advanced_held}
use Rattle.ws_board.proofs.Advancing.{still_waits}
use Rattle.ws_board.proofs.Onward.{carries_none, undone_none}
use Rattle.ws_board.proofs.propagation.advance.Goals as goal

pub returns-in_default-clause-on : goal.returns-in_default-clause-on
returns-in_default-clause-on c =
    let one : c.stands.new.looks ≡ c.args.looks.now + 1 = subst (λ (o : Option Row). IfNone o (c.stands.new.looks ≡ c.args.looks.now + 1)) c.in_default.is c.in_ok-row.ensures.still in
    carries_none (held_by c.args.holds) 3 c.args.rows.now c.args.rows.now c.args.moves.now c.args.moves.now c.args.looks.now c.stands.new.looks c.requires.good refl refl refl refl refl (omega (arith, one)) (omega (arith, one))

pub returns-in_default-clause-waits : goal.returns-in_default-clause-waits
returns-in_default-clause-waits c =
    let rests : is_waiting (row_at c.args.rows.now.rows c.args.job).status ≡ false = subst (λ (o : Option Row). IfNone o (is_waiting (row_at c.args.rows.now.rows c.args.job).status ≡ false)) c.in_default.is c.in_ok-row.ensures.none in
    λ pending w. still_waits c.args.rows.now.jobs.items c.args.rows.now.rows c.args.moves.now.settled.items c.args.job pending rests w

pub returns-in_default-clause-undone : goal.returns-in_default-clause-undone
returns-in_default-clause-undone c = undone_none c.args.rows.now c.args.rows.now c.args.moves.now c.args.moves.now refl refl refl refl

pub returns-clause-on : goal.returns-clause-on
returns-clause-on c =
    let h = held_by c.args.holds in
    let row : Row = c.in-Some.row in
    let becomes : RowBecomes h c.args.rows.now.jobs.items c.args.rows.now.rows c.args.job row = subst (λ (o : Option Row). IfSome o (RowBecomes h c.args.rows.now.jobs.items c.args.rows.now.rows c.args.job)) c.in-Some.is c.in_ok-row.ensures.becomes in
    let paid : c.stands.new.looks + due row + (if is_open row.status then 0 else importer_reads row.importers) ≤ c.args.looks.now + due (row_at c.args.rows.now.rows c.args.job) + 3 =
    subst (λ (o : Option Row). IfSome o (λ r. c.stands.new.looks + due r + (if is_open r.status then 0 else importer_reads r.importers) ≤ c.args.looks.now + due (row_at c.args.rows.now.rows c.args.job) + 3)) c.in-Some.is c.in_ok-row.ensures.paid in
    advanced h c.args.rows.now c.write.new.rows c.args.job row c.args.moves.now c.write.new.self c.requires.good becomes c.in_ok-write.ensures.rows c.write.ensures.undone.jobs c.write.ensures.undone.importers
    (c.write.ensures.settled ∙ c.in_ok-note.ensures.settled) (c.write.ensures.ready ∙ c.in_ok-note.ensures.ready) c.args.looks.now c.stands.new.looks paid (omega (arith, c.stands.ensures.more))

pub returns-clause-waits : goal.returns-clause-waits
returns-clause-waits c =
    let h = held_by c.args.holds in
    let row : Row = c.in-Some.row in
    let becomes : RowBecomes h c.args.rows.now.jobs.items c.args.rows.now.rows c.args.job row = subst (λ (o : Option Row). IfSome o (RowBecomes h c.args.rows.now.jobs.items c.args.rows.now.rows c.args.job)) c.in-Some.is c.in_ok-row.ensures.becomes in
    advanced_held h c.args.rows.now c.write.new.rows c.args.job row c.args.moves.now c.write.new.self c.requires.good becomes c.in_ok-write.ensures.rows c.write.ensures.undone.jobs c.write.ensures.undone.importers
    (c.write.ensures.settled ∙ c.in_ok-note.ensures.settled) (c.write.ensures.ready ∙ c.in_ok-note.ensures.ready)
