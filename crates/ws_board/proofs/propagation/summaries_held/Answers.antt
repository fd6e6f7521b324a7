use Rattle.std.proofs.Common.{◌≤◌, length, map, sym, ◌∙◌, arith}
use Rattle.std.specs.Arc.{arc_value}
use Rattle.std.proofs.lemmas.Option.{get_or_from_slice_get}
use Rattle.ws_board.specs.Propagation.{held_by}
use Rattle.ws_board.specs.Ends.{job_imports_at}
use Rattle.ws_board.specs.Table.{job_states_of}
use Rattle.ws_board.proofs.Gathered.{gathered_all, gathered_none, gathered_more, written_more}
use Rattle.ws_board.proofs.Onward.{get_past}
use Rattle.ws_board.proofs.propagation.summaries_held.Goals as goal

pub returns-in_default-clause-none : goal.returns-in_default-clause-none
returns-in_default-clause-none c =
    let ks = job_imports_at c.args.rows.now.jobs.items c.args.job in
    let past : length ks ≤ c.loop-number.number = get_past ks c.loop-number.number (sym c.import.ensures.is ∙ c.in_default.is) in
    absurd (omega (arith, past, c.requires.all))

pub returns-in_default-summary_held-clause-none : goal.returns-in_default-summary_held-clause-none
returns-in_default-summary_held-clause-none c =
    let ks = job_imports_at c.args.rows.now.jobs.items c.args.job in
    let i = c.loop-number.number in
    gathered_none (held_by c.args.holds) (job_states_of c.args.rows.now.rows) ks i c.in-Some.k (omega (arith, c.requires.all)) (sym (get_or_from_slice_get ks i c.in-Some.k 0 (sym c.import.ensures.is ∙ c.in-Some.is))) c.in_default-summary_held.ensures.none

pub loop-number-preserved : goal.loop-number-preserved
loop-number-preserved c =
    let ks = job_imports_at c.args.rows.now.jobs.items c.args.job in
    let i = c.loop-number.number in
    let p = c.loop-number.invariant in
    let old = c.loop-number.found.items in
    let new = c.push.new.self.items in
    let one = c.in-Some-summary_held.summary.now in
    let copy = c.in_ok-try_clone.field-0 in
    record {
      are = gathered_more (held_by c.args.holds) (job_states_of c.args.rows.now.rows) ks i c.in-Some.k old new one copy (omega (arith, c.requires.all)) (sym (get_or_from_slice_get ks i c.in-Some.k 0 (sym c.import.ensures.is ∙ c.in-Some.is)))
          c.in_ok-try_clone.ensures c.in_ok-push.ensures.items p.are c.in-Some-summary_held.ensures.some;
      written = written_more old new one copy c.in_ok-try_clone.ensures c.in_ok-push.ensures.items p.written c.in-Some-summary_held.ensures.written;
      paid = omega (arith, p.paid, c.import.ensures.one, c.summary_held.ensures.one);
      more = omega (arith, p.more, c.import.ensures.one, c.summary_held.ensures.one);
    }

pub returns-clause-some : goal.returns-clause-some
returns-clause-some c =
    let ks = job_imports_at c.args.rows.now.jobs.items c.args.job in
    gathered_all (held_by c.args.holds) (job_states_of c.args.rows.now.rows) ks c.loop-number.number (map arc_value c.loop-number.found.items) (omega (arith, c.requires.all)) c.loop-number.invariant.are
