use Rattle.std.proofs.Common.{◌≡◌, ◌+◌, ◌*◌, length, refl, sym, ap, ◌∙◌, subst, arith}
use Rattle.std.specs.Prelude.{nat_le}
use Rattle.ws_board.specs.Propagation.{held_by}
use Rattle.ws_board.specs.Rows.{Propagates}
use Rattle.ws_board.proofs.Onward.{carries_none, carries_then, spare_is, advanced_waits, none_advanced, all_advanced}
use Rattle.ws_board.proofs.propagation.advance_all.Goals as goal

pub loop-job-init : goal.loop-job-init
loop-job-init c = record {
  on = carries_none (held_by c.args.holds) (3 * 0) c.args.rows.now c.args.rows.now c.args.moves.now c.args.moves.now c.args.looks.now c.args.looks.now c.requires.good refl refl refl refl refl (omega arith) (omega arith);
  waits = none_advanced c.args.rows.now.jobs.items c.args.rows.now.rows c.args.moves.now.settled.items;
  read = omega arith;
}

pub loop-job-preserved : goal.loop-job-preserved
loop-job-preserved c =
    let h = held_by c.args.holds in
    let n = c.loop-job.job in
    let p = c.loop-job.invariant in
    let q = c.in_ok-advance.ensures in
    record {
      on = spare_is h (3 * n + 3) (3 * (n + 1)) c.args.rows.now c.advance.new.rows c.args.moves.now c.advance.new.moves c.args.looks.now c.advance.new.looks (omega arith)
          (carries_then h (3 * n) 3 c.args.rows.now c.loop-job.rows c.advance.new.rows c.args.moves.now c.loop-job.moves c.advance.new.moves c.args.looks.now c.loop-job.looks c.advance.new.looks c.requires.good p.on q.on);
      waits = q.waits (λ j. nat_le (n + 1) j) (advanced_waits c.loop-job.rows.jobs.items c.loop-job.rows.rows c.loop-job.moves.settled.items n p.waits);
      read = omega (arith, p.read, q.read);
    }

pub returns-clause-on : goal.returns-clause-on
returns-clause-on c =
    let n : c.loop-job.job ≡ length c.args.rows.now.rows = omega arith in
    subst (λ i. Propagates (held_by c.args.holds) (3 * i) c.args.rows.now c.loop-job.rows c.args.moves.now c.loop-job.moves c.args.looks.now c.loop-job.looks) n c.loop-job.invariant.on

pub returns-clause-waits : goal.returns-clause-waits
returns-clause-waits c =
    let p = c.loop-job.invariant in
    let same : length c.loop-job.rows.rows ≡ length c.args.rows.now.rows = p.on.good.known.jobs ∙ ap length p.on.jobs ∙ sym c.requires.good.known.jobs in
    all_advanced c.loop-job.rows.jobs.items c.loop-job.rows.rows c.loop-job.moves.settled.items c.loop-job.job (omega (arith, same)) p.waits
