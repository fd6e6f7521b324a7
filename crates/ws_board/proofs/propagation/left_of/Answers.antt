use Rattle.std.proofs.Common.{◌≤◌, ◌-◌, length, sym, ◌∙◌, arith, rules}
use Rattle.ws_board.specs.Ends.{job_imports_at}
use Rattle.ws_board.proofs.Onward.{get_past}
use Rattle.ws_board.proofs.Standby.{past_less, last_open}
use Rattle.ws_board.proofs.propagation.left_of.Goals as goal

pub returns-in_default-clause-on : goal.returns-in_default-clause-on
returns-in_default-clause-on c =
    let ks = job_imports_at c.args.rows.now.jobs.items c.args.job in
    let past : length ks ≤ c.loop-left.left - 1 = get_past ks (c.loop-left.left - 1) (sym c.import.ensures.is ∙ c.in_default.is) in
    λ some. absurd (omega (arith, past, some, c.requires.within, c.loop-left.invariant.fewer))

pub returns-then-is_open-clause-on : goal.returns-then-is_open-clause-on
returns-then-is_open-clause-on c =
    λ some. last_open c.args.rows.now.jobs.items c.args.rows.now.rows c.args.job (c.loop-left.left - 1) c.in-Some.k (sym c.import.ensures.is ∙ c.in-Some.is) (search rules)

pub loop-left-preserved : goal.loop-left-preserved
loop-left-preserved c =
    let p = c.loop-left.invariant in
    let J = c.args.rows.now.jobs.items in
    let R = c.args.rows.now.rows in
    record {
      fewer = omega (arith, p.fewer);
      past = λ old. past_less J R c.args.job c.loop-left.left c.in-Some.k (omega arith) (sym c.import.ensures.is ∙ c.in-Some.is) (search rules) (p.past old);
      paid = omega (arith, p.paid, c.import.ensures.one, c.status_of.ensures.one);
      more = omega (arith, p.more, c.import.ensures.one, c.status_of.ensures.one);
    }
