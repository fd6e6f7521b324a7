-- The jobs with an id are done, and from there jobs were carried on.
use Rattle.std.proofs.Common.{◌≡◌, ℕ, Bool, false, List, [], refl, sym, ap, ◌∙◌, subst, arith}
use Rattle.std.specs.Prelude.{if◌then◌else◌}
use Rattle.ws_board.specs.declared.table.Row.{Row}
use Rattle.ws_board.specs.declared.rows.Rows.{Rows}
use Rattle.ws_board.specs.declared.rows.moves.Moves.{Moves}
use Rattle.ws_board.specs.Work.{Job, JobStates}
use Rattle.ws_board.specs.Machine.{Holdings}
use Rattle.ws_board.specs.Propagation.{IsUnder}
use Rattle.ws_board.specs.Rows.{times, those_of, is_newly_ready, ArePropagatedBy, ArePropagated, Waits, Propagates, Marks, FinishesRows}
use Rattle.ws_board.specs.Table.{job_states_of}
use Rattle.ws_board.proofs.Marking.{marked_good, marked_held, marked_backs}
use Rattle.ws_board.proofs.Onward.{waits_parts}

pub good_parts : (J K : List Job) (I L : List (List ℕ)) (R : List Row) → K ≡ J → L ≡ I → ArePropagatedBy J I R → ArePropagatedBy K L R
good_parts J K I L R jobs importers good = subst (λ l. ArePropagatedBy l L R) (sym jobs) (subst (λ l. ArePropagatedBy J l R) (sym importers) good)

module _ (h : Holdings) (id : List ℕ) (good : Bool) (O M : Rows) (marking : Moves) (known : ArePropagated O)
    (marks : Marks id good O.rows M.rows marking.settled.items) (jobs : M.jobs.items ≡ O.jobs.items) (importers : M.importers.items ≡ O.importers.items) where
  from : ArePropagatedBy O.jobs.items O.importers.items M.rows
  from = marked_good id good O.rows M.rows marking.settled.items marks O.jobs.items O.importers.items known

  pub marked_carried : ArePropagated M
  marked_carried = good_parts O.jobs.items M.jobs.items O.importers.items M.importers.items M.rows jobs importers from

  pub marked_waiting : Waits O.jobs.items O.rows [] (λ j. false) → Waits M.jobs.items M.rows marking.settled.items (λ j. false)
  marked_waiting waits =
      waits_parts O.jobs.items M.jobs.items M.rows M.rows marking.settled.items marking.settled.items (λ j. false) jobs refl refl
      (marked_held id good O.rows M.rows marking.settled.items marks O.jobs.items waits)

  module _ (N : Rows) (after : Moves) (looks next : ℕ) (none : marking.ready.items ≡ []) (on : Propagates h 0 M N marking after looks next) (waits : Waits N.jobs.items N.rows [] (λ j. false)) where
    listed : (k : ℕ) (i : List ℕ) → times k (those_of i after.ready.items) ≡ (if is_newly_ready M.rows N.rows i k then 1 else 0)
    listed k i =
        let e : times k (those_of i marking.ready.items) ≡ 0 = ap (λ l. times k (those_of i l)) none in
        omega (arith, on.listed k i, e)

    under : (first : JobStates) → IsUnder O.jobs.items h first (job_states_of M.rows) → IsUnder O.jobs.items h first (job_states_of N.rows)
    under first u = subst (λ J. IsUnder J h first (job_states_of N.rows)) jobs (on.under first (subst (λ J. IsUnder J h first (job_states_of M.rows)) (sym jobs) u))

    pub finishes_rows : FinishesRows h id good O N after.ready.items
    finishes_rows = record {
      marked = M.rows;
      settled = marking.settled.items;
      marks = marks;
      from = from;
      good = good_parts N.jobs.items O.jobs.items N.importers.items O.importers.items N.rows (sym (on.jobs ∙ jobs)) (sym (on.importers ∙ importers)) on.good;
      under = under;
      waits = waits_parts N.jobs.items O.jobs.items N.rows N.rows [] [] (λ j. false) (sym (on.jobs ∙ jobs)) refl refl waits;
      backs = λ k. on.backs k ∙ marked_backs id good O.rows M.rows marking.settled.items marks k;
      runs = on.runs;
      listed = listed;
    }
