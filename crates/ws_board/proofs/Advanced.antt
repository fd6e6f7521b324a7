-- One job is carried on: all that the step says.
use Rattle.std.proofs.Common.{◌≡◌, ℕ, ◌+◌, ◌≤◌, Bool, ◌||◌, eqb, List, [], ◌∷◌, ◌++◌, sym, subst}
use Rattle.std.specs.Prelude.{if◌then◌else◌}
use Rattle.std.proofs.Math.ListN.{set}
use Rattle.ws_board.specs.declared.table.Row.{Row}
use Rattle.ws_board.specs.declared.rows.Rows.{Rows}
use Rattle.ws_board.specs.declared.rows.moves.Moves.{Moves}
use Rattle.ws_board.specs.Work.{Job}
use Rattle.ws_board.specs.Machine.{Holdings, is_open}
use Rattle.ws_board.specs.Rows.{ready_of, due, importer_reads, untold, owed, ArePropagated, ArePropagatedBy, RowBecomes, Propagates, Waits}
use Rattle.ws_board.specs.Table.{row_at}
use Rattle.ws_board.proofs.Advancing.{set_backs, set_good, set_under, set_runs_same, set_listed, set_fewer, set_paid, set_waits}

module _ (h : Holdings) (old new : Rows) (job : ℕ) (row : Row) (before after : Moves) (good : ArePropagated old) (becomes : RowBecomes h old.jobs.items old.rows job row) (written : new.rows ≡ set old.rows job row)
    (jobs : new.jobs.items ≡ old.jobs.items) (importers : new.importers.items ≡ old.importers.items)
    (settled : after.settled.items ≡ (if is_open row.status then before.settled.items else (before.settled.items ++ job ∷ []))) (ready : after.ready.items ≡ before.ready.items ++ ready_of job row.status row.action) where
  abbrev J : List Job
  J = old.jobs.items

  abbrev I : List (List ℕ)
  I = old.importers.items

  abbrev O : List Row
  O = old.rows

  abbrev N : List Row
  N = new.rows

  next_good : ArePropagated new
  next_good = subst (λ j. ArePropagatedBy j new.importers.items N) (sym jobs) (subst (λ i. ArePropagatedBy J i N) (sym importers) (set_good h J I O N job row good becomes written))

  pub advanced : (looks next : ℕ) → next + due row + (if is_open row.status then 0 else importer_reads row.importers) ≤ looks + due (row_at O job) + 3 → looks ≤ next → Propagates h 3 old new before after looks next
  advanced looks next paid more = record {
    jobs = jobs;
    importers = importers;
    good = next_good;
    under = set_under h J I O N job row good becomes written;
    backs = set_backs h J I O N job row good becomes written;
    runs = set_runs_same h J I O N job row good becomes written;
    listed = set_listed h J I O N job row good becomes written before.ready.items after.ready.items ready;
    fewer = set_fewer h J I O N job row good becomes written before.settled.items after.settled.items settled;
    paid = subst (λ i. next + owed N + untold i after.settled.items ≤ looks + owed O + untold I before.settled.items + 3) (sym importers) (set_paid h J I O N job row good becomes written looks next before.settled.items after.settled.items settled paid);
    more = more;
  }

  pub advanced_held : (pending : ℕ → Bool) → Waits J O before.settled.items (λ j. (eqb j job) || pending j) → Waits new.jobs.items N after.settled.items pending
  advanced_held pending w = subst (λ j. Waits j N after.settled.items pending) (sym jobs) (set_waits h J I O N job row good becomes written before.settled.items after.settled.items settled pending w)
