use Rattle.std.proofs.Common.{◌≡◌, ◌<◌, ◌≤◌, ◌∷◌, ◌++◌, [], length, Option, IfSome, IfNone, get_or, refl, sym, ap, ◌∙◌, subst, arith}
use Rattle.std.proofs.Math.ListN.{set}
use Rattle.ws_board.specs.declared.table.Row.{Row}
use Rattle.ws_board.specs.declared.rows.moves.Moves.{Moves}
use Rattle.ws_board.specs.declared.work.JobStatus.TheVariants.{Done}
use Rattle.ws_board.specs.Rows.{untold}
use Rattle.ws_board.specs.Table.{row_at}
use Rattle.ws_board.proofs.Marking.{marks_none, mark_inside, mark_some, mark_rest, mark_paid, mark_owes, marked_all, none_left}
use Rattle.ws_board.proofs.Onward.{undone_none, undone_then, popped_undone}
use Rattle.ws_board.proofs.propagation.mark.Goals as goal

pub loop-job-init : goal.loop-job-init
loop-job-init c = record {
  undone = undone_none c.args.rows.now c.args.rows.now c.args.moves.now c.args.moves.now refl refl refl refl;
  some = marks_none c.args.id.now c.args.good c.args.rows.now.rows c.args.moves.now.settled.items;
  rest = c.requires.jobs;
  ready = refl;
  paid = omega arith;
  more = omega arith;
}

pub done_row-requires : goal.done_row-requires
done_row-requires c =
    let p = c.loop-job.invariant in
    let mid = c.loop-job.rows.rows in
    let owes = mark_owes c.args.id.now c.args.good c.args.rows.now.rows mid c.loop-job.moves.settled.items c.args.jobs.now c.loop-job.job-index (omega arith) p.some p.rest in
    record {
      counted = omega (arith, owes, p.paid, c.requires.room);
      jobs = p.undone.count ∙ c.requires.known.jobs ∙ sym (ap length p.undone.jobs);
    }

pub write-requires : goal.write-requires
write-requires c =
    let p = c.loop-job.invariant in
    mark_inside c.args.id.now c.args.good c.args.rows.now.rows c.loop-job.rows.rows c.loop-job.moves.settled.items c.args.jobs.now c.loop-job.job-index (omega arith) p.some p.rest

pub loop-job-preserved : goal.loop-job-preserved
loop-job-preserved c =
    let p = c.loop-job.invariant in
    let O = c.args.rows.now.rows in
    let mid = c.loop-job.rows.rows in
    let N = c.write.new.rows.rows in
    let n = c.loop-job.job-index in
    let xs = c.loop-job.moves.settled.items in
    let ys = c.write.new.self.settled.items in
    let lt : n < length c.args.jobs.now = omega arith in
    let job = get_or c.args.jobs.now n 0 in
    let row : Row = c.in-Some.row in
    let row_is : row ≡ record (row_at mid job) { status = Done c.args.good } = subst (λ (o : Option Row). IfSome o (λ r. r ≡ record (row_at mid job) { status = Done c.args.good })) c.in-Some.is c.in_ok-row.ensures.row in
    let written : N ≡ set mid job (record (row_at mid job) { status = Done c.args.good }) = c.in_ok-write.ensures.rows ∙ ap (set mid job) row_is in
    let pushed : ys ≡ xs ++ job ∷ [] = c.write.ensures.settled ∙ c.in_ok-push.ensures.items in
    let known = c.requires.known in
    let mid_moves : Moves = record c.loop-job.moves { settled = c.push.new.self } in
    let paid = mark_paid c.args.id.now c.args.good O mid xs c.args.jobs.now n lt p.some p.rest N ys written pushed c.args.rows.now.jobs.items c.args.rows.now.importers.items known in
    let told : untold c.write.new.rows.importers.items ys ≡ untold c.args.rows.now.importers.items ys = ap (λ i. untold i ys) (c.write.ensures.undone.importers ∙ p.undone.importers) in
    let told_before : untold c.loop-job.rows.importers.items xs ≡ untold c.args.rows.now.importers.items xs = ap (λ i. untold i xs) p.undone.importers in
    record {
      undone = undone_then c.args.rows.now c.loop-job.rows c.write.new.rows c.args.moves.now c.loop-job.moves c.write.new.self p.undone (popped_undone c.loop-job.rows c.write.new.rows c.loop-job.moves mid_moves c.write.new.self refl c.write.ensures.undone);
      some = mark_some c.args.id.now c.args.good O mid xs c.args.jobs.now n lt p.some p.rest N ys written pushed;
      rest = mark_rest c.args.id.now c.args.good O mid xs c.args.jobs.now n lt p.some p.rest N ys written pushed;
      ready = c.write.ensures.ready ∙ p.ready;
      paid = omega (arith, p.paid, paid, told, told_before, c.done_row.ensures.one);
      more = omega (arith, p.more, c.done_row.ensures.one);
    }

pub returns-clause-marks : goal.returns-clause-marks
returns-clause-marks c =
    let p = c.loop-job.invariant in
    marked_all c.args.id.now c.args.good c.args.rows.now.rows c.loop-job.rows.rows c.loop-job.moves.settled.items p.some
    (none_left c.args.id.now c.loop-job.rows.rows c.args.jobs.now c.loop-job.job-index (omega arith) p.rest)

pub loop-job-preserved-in_default : goal.loop-job-preserved-in_default
loop-job-preserved-in_default c =
    let p = c.loop-job.invariant in
    let mid = c.loop-job.rows.rows in
    let job = get_or c.args.jobs.now c.loop-job.job-index 0 in
    let past : length mid ≤ job = subst (λ (o : Option Row). IfNone o (length mid ≤ job)) c.in_default.is c.in_ok-row.ensures.none in
    absurd (omega (arith, past, mark_inside c.args.id.now c.args.good c.args.rows.now.rows mid c.loop-job.moves.settled.items c.args.jobs.now c.loop-job.job-index (omega arith) p.some p.rest))

pub returns-in_err-write-clause-undone : goal.returns-in_err-write-clause-undone
returns-in_err-write-clause-undone c =
    let p = c.loop-job.invariant in
    let mid_moves : Moves = record c.loop-job.moves { settled = c.push.new.self } in
    undone_then c.args.rows.now c.loop-job.rows c.write.new.rows c.args.moves.now c.loop-job.moves c.write.new.self p.undone (popped_undone c.loop-job.rows c.write.new.rows c.loop-job.moves mid_moves c.write.new.self refl c.write.ensures.undone)
