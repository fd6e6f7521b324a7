-- The jobs with an id are done, one after another.
use Rattle.std.proofs.Common.{◌≡◌, ℕ, ◌+◌, ◌-◌, ◌<◌, ◌≤◌, Bool, true, false, ◌&&◌, ◌||◌, cond, eqb, List, [], ◌∷◌, ◌++◌, length, drop, get_or, Option, None, refl, sym, ap, ◌∙◌, subst, arith, inl, inr, ◌⊎◌}
use Rattle.std.specs.Prelude.{if◌then◌else◌}
use Rattle.std.specs.List.{list_any, slice_index_or}
use Rattle.std.proofs.Math.ListN.{set, length-set}
use Rattle.std.proofs.lemmas.Bool.{cases_eq}
use Rattle.std.proofs.lemmas.List.{drop_more, ext_get_or}
use Rattle.std.proofs.lemmas.List.Sums.{sum_by-cons, sum_by_push}
use Rattle.ws_action.specs.Actions.{Action}
use Rattle.ws_board.specs.declared.work.JobStatus.{JobStatus}
use Rattle.ws_board.specs.declared.work.JobStatus.TheVariants.{Waiting, Ready, Running, Blocked, Done}
use Rattle.ws_board.specs.declared.table.Row.{Row}
use Rattle.ws_board.specs.Work.{Job}
use Rattle.ws_board.specs.Machine.{is_open, is_waiting, is_active, has_action_id, status_at, IsMarked, mark}
use Rattle.ws_board.specs.Ends.{job_imports_at}
use Rattle.ws_board.specs.Rows.{times, is_active_of, marked_row, due, due_of, owed, untold, importer_reads, watched, Marks, Waits, IsHeldUp, AreKnownBy, ArePropagatedBy}
use Rattle.ws_board.specs.Table.{row_at, job_states_of}
use Rattle.ws_board.proofs.Standing.{status_row, action_row, length_statuses, length_actions, row_same, row_other, open_inside, owed_set, due_at}
use Rattle.ws_board.proofs.Onward.{drop_past}
use Rattle.ws_board.proofs.Listing.{any_push, eqb_same, eqb_not}

-- some of the jobs with the id are done
pub record MarksSome (id : List ℕ) (good : Bool) (old new : List Row) (settled : List ℕ) : Type 0 where
  pub count : length new ≡ length old
  pub each : (k : ℕ) → (row_at new k ≡ row_at old k) ⊎ ((is_active_of old id k ≡ true) × (row_at new k ≡ record (row_at old k) { status = Done good }) × (list_any (λ s. eqb s k) settled ≡ true))

pub marks_none : (id : List ℕ) (good : Bool) (rows : List Row) (settled : List ℕ) → MarksSome id good rows rows settled
marks_none id good rows settled = record { count = refl; each = λ k. inl refl }

-- what is done isn't active
done_not : (id : List ℕ) (good : Bool) (R : List Row) (k : ℕ) (was : Row) → row_at R k ≡ record was { status = Done good } → is_active_of R id k ≡ false
done_not id good R k was e = ap (λ (r : Row). is_active r.status && has_action_id id r.action) e

active_same : (id : List ℕ) (R S : List Row) (k : ℕ) → row_at R k ≡ row_at S k → is_active_of R id k ≡ is_active_of S id k
active_same id R S k e = ap (λ (r : Row). is_active r.status && has_action_id id r.action) e

-- an id's job whose row is not yet written is among those left
pub marked_all : (id : List ℕ) (good : Bool) (old new : List Row) (settled : List ℕ) → MarksSome id good old new settled → ((k : ℕ) → is_active_of new id k ≡ false) → Marks id good old new settled
marked_all id good old new settled some rest = record {
  count = some.count;
  each = λ k. each k (some.each k);
  told = λ k active. told k active (some.each k);
}
  where
    each : (k : ℕ) → (row_at new k ≡ row_at old k) ⊎ ((is_active_of old id k ≡ true) × (row_at new k ≡ record (row_at old k) { status = Done good }) × (list_any (λ s. eqb s k) settled ≡ true)) → row_at new k ≡ marked_row old id good k
    each k (inl e) = e ∙ ap (λ (b : Bool). if b then record (row_at old k) { status = Done good } else row_at old k) (sym (sym (active_same id new old k e) ∙ rest k))
    each k (inr (active, e, t)) = e ∙ ap (λ (b : Bool). if b then record (row_at old k) { status = Done good } else row_at old k) (sym active)

    told : (k : ℕ) → is_active_of old id k ≡ true → (row_at new k ≡ row_at old k) ⊎ ((is_active_of old id k ≡ true) × (row_at new k ≡ record (row_at old k) { status = Done good }) × (list_any (λ s. eqb s k) settled ≡ true)) → list_any (λ s. eqb s k) settled ≡ true
    told k active (inl e) = let c : true ≡ false = sym active ∙ sym (active_same id new old k e) ∙ rest k in absurd (cc)
    told k active (inr (a, e, t)) = t

both_first : (a b : Bool) → (a && b) ≡ true → a ≡ true
both_first true b h = refl
both_first false b h = h

active_open : (s : JobStatus) → is_active s ≡ true → is_open s ≡ true
active_open Waiting h = refl
active_open Ready h = refl
active_open (Running hand) h = refl
active_open Blocked h = absurd (cc)
active_open (Done good) h = absurd (cc)

pub active_inside : (id : List ℕ) (R : List Row) (k : ℕ) → is_active_of R id k ≡ true → k < length R
active_inside id R k a = open_inside R k (active_open (row_at R k).status (both_first (is_active (row_at R k).status) (has_action_id id (row_at R k).action) a))

active_due : (r : Row) → is_active r.status ≡ true → 1 + importer_reads r.importers ≤ due r
active_due r a = by_status r.status a refl
  where
    by_status : (s : JobStatus) → is_active s ≡ true → r.status ≡ s → 1 + importer_reads r.importers ≤ due r
    by_status Waiting h e = absurd (cc)
    by_status Ready h e = let d : due r ≡ 2 + importer_reads r.importers = ap (λ s. due_of s r.left r.imports r.importers) e in omega (arith, d)
    by_status (Running hand) h e = let d : due r ≡ 1 + importer_reads r.importers = ap (λ s. due_of s r.left r.imports r.importers) e in omega (arith, d)
    by_status Blocked h e = absurd (cc)
    by_status (Done good) h e = absurd (cc)

module _ (id : List ℕ) (good : Bool) (old mid : List Row) (xs jobs : List ℕ) (n : ℕ) (lt : n < length jobs)
    (some : MarksSome id good old mid xs) (rest : (k : ℕ) → times k (drop n jobs) ≡ (if is_active_of mid id k then 1 else 0)) where
  abbrev job : ℕ
  job = get_or jobs n 0

  abbrev now : Row
  now = row_at mid job

  abbrev stood : Row
  stood = record now { status = Done good }

  times_first : (k : ℕ) → times k (drop n jobs) ≡ cond (eqb job k) 1 0 + times k (drop (n + 1) jobs)
  times_first k = ap (times k) (drop_more jobs n 0 lt) ∙ sum_by-cons (λ j. cond (eqb j k) 1 0) job (drop (n + 1) jobs)

  one_of : (b : Bool) (n : ℕ) → (if b then 1 else 0) ≡ 1 + n → b ≡ true
  one_of true n e = refl
  one_of false n e = absurd (omega (arith, e))

  pub mark_active : is_active_of mid id job ≡ true
  mark_active = one_of (is_active_of mid id job) (times job (drop (n + 1) jobs)) (sym (rest job) ∙ times_first job ∙ ap (λ b. cond b 1 0 + times job (drop (n + 1) jobs)) (eqb_same job))

  pub mark_inside : job < length mid
  mark_inside = active_inside id mid job mark_active

  -- a job that is done next owes what it costs to read it
  pub mark_owes : 2 ≤ owed mid
  mark_owes = omega (arith, due_at mid job, active_due now (both_first (is_active now.status) (has_action_id id now.action) mark_active))

  module _ (new : List Row) (ys : List ℕ) (written : new ≡ set mid job stood) (pushed : ys ≡ xs ++ job ∷ []) where
    here : row_at new job ≡ stood
    here = ap (λ rs. row_at rs job) written ∙ row_same mid job stood mark_inside

    other : (k : ℕ) → (k ≡ job → ⊥) → row_at new k ≡ row_at mid k
    other k ne = ap (λ rs. row_at rs k) written ∙ row_other mid job k stood ne

    told_still : (k : ℕ) → list_any (λ s. eqb s k) xs ≡ true → list_any (λ s. eqb s k) ys ≡ true
    told_still k t = ap (list_any (λ s. eqb s k)) pushed ∙ any_push (λ s. eqb s k) xs job ∙ ap (λ b. b || eqb job k) t

    told_here : list_any (λ s. eqb s job) ys ≡ true
    told_here = ap (list_any (λ s. eqb s job)) pushed ∙ any_push (λ s. eqb s job) xs job ∙ ap (λ b. list_any (λ s. eqb s job) xs || b) (eqb_same job) ∙ or_true (list_any (λ s. eqb s job) xs)
      where
        or_true : (b : Bool) → (b || true) ≡ true
        or_true true = refl
        or_true false = refl

    pub mark_some : MarksSome id good old new ys
    mark_some = record {
      count = ap length written ∙ length-set mid job stood ∙ some.count;
      each = λ k. elim (cases_eq k job) [ inl e ↦ at_job k e (some.each k) | inr ne ↦ elsewhere k ne (some.each k) ];
    }
      where
        at_job : (k : ℕ) → k ≡ job → (row_at mid k ≡ row_at old k) ⊎ ((is_active_of old id k ≡ true) × (row_at mid k ≡ record (row_at old k) { status = Done good }) × (list_any (λ s. eqb s k) xs ≡ true))
            → (row_at new k ≡ row_at old k) ⊎ ((is_active_of old id k ≡ true) × (row_at new k ≡ record (row_at old k) { status = Done good }) × (list_any (λ s. eqb s k) ys ≡ true))
        at_job k e (inl same) =
            inr (
              sym (active_same id mid old k same) ∙ ap (is_active_of mid id) e ∙ mark_active,
              ap (row_at new) e ∙ here ∙ ap (λ i. record (row_at mid i) { status = Done good }) (sym e) ∙ ap (λ (r : Row). record r { status = Done good }) same,
              ap (λ i. list_any (λ s. eqb s i) ys) e ∙ told_here,
            )
        at_job k e (inr (a, done, t)) = let c : false ≡ true = sym (done_not id good mid k (row_at old k) done) ∙ ap (is_active_of mid id) e ∙ mark_active in absurd (cc)

        elsewhere : (k : ℕ) → (k ≡ job → ⊥) → (row_at mid k ≡ row_at old k) ⊎ ((is_active_of old id k ≡ true) × (row_at mid k ≡ record (row_at old k) { status = Done good }) × (list_any (λ s. eqb s k) xs ≡ true))
            → (row_at new k ≡ row_at old k) ⊎ ((is_active_of old id k ≡ true) × (row_at new k ≡ record (row_at old k) { status = Done good }) × (list_any (λ s. eqb s k) ys ≡ true))
        elsewhere k ne (inl same) = inl (other k ne ∙ same)
        elsewhere k ne (inr (a, done, t)) = inr (a, other k ne ∙ done, told_still k t)

    pub mark_rest : (k : ℕ) → times k (drop (n + 1) jobs) ≡ (if is_active_of new id k then 1 else 0)
    mark_rest k = elim (cases_eq k job) [
      | inl e ↦ (
          let a : ◌≡◌ {A = ℕ} (if is_active_of mid id k then 1 else 0) 1 = ap (λ b. if b then 1 else 0) (ap (is_active_of mid id) e ∙ mark_active) in
          let b : ◌≡◌ {A = ℕ} (cond (eqb job k) 1 0) 1 = ap (λ b. cond b 1 0) (ap (eqb job) e ∙ eqb_same job) in
          let d : is_active_of new id k ≡ false = ap (is_active_of new id) e ∙ done_not id good new job now here in
          let f : ◌≡◌ {A = ℕ} (if is_active_of new id k then 1 else 0) 0 = ap (λ b. if b then 1 else 0) d in
          omega (arith, rest k, times_first k, a, b, f))
      | inr ne ↦ (
          let b : ◌≡◌ {A = ℕ} (cond (eqb job k) 1 0) 0 = ap (λ b. cond b 1 0) (eqb_not job k (λ e. ne (sym e))) in
          let f : ◌≡◌ {A = ℕ} (if is_active_of new id k then 1 else 0) (if is_active_of mid id k then 1 else 0) = ap (λ b. if b then 1 else 0) (active_same id new mid k (other k ne)) in
          omega (arith, rest k, times_first k, b, f))
    ]

    -- the read and what its importers cost were owed
    pub mark_paid : (J : List Job) (I : List (List ℕ)) → AreKnownBy J I old → owed new + untold I ys + 1 ≤ owed mid + untold I xs
    mark_paid J I known =
        let o : owed new ≡ owed (set mid job stood) = ap owed written in
        let u : untold I ys ≡ untold I xs + importer_reads (length (slice_index_or I job [])) = ap (untold I) pushed ∙ sum_by_push (λ k. importer_reads (length (slice_index_or I k []))) xs job in
        let a : is_active now.status ≡ true = both_first (is_active now.status) (has_action_id id now.action) mark_active in
        omega (arith, owed_set mid job stood mark_inside, o, u, active_due now a, importers_is (some.each job))
      where
        importers_is : (row_at mid job ≡ row_at old job) ⊎ ((is_active_of old id job ≡ true) × (row_at mid job ≡ record (row_at old job) { status = Done good }) × (list_any (λ s. eqb s job) xs ≡ true)) → now.importers ≡ length (slice_index_or I job [])
        importers_is (inl e) = ap (λ (r : Row). r.importers) e ∙ known.importers job
        importers_is (inr (a, e, t)) = ap (λ (r : Row). r.importers) e ∙ known.importers job

pub none_left : (id : List ℕ) (R : List Row) (jobs : List ℕ) (n : ℕ) → length jobs ≤ n → ((k : ℕ) → times k (drop n jobs) ≡ (if is_active_of R id k then 1 else 0)) → (k : ℕ) → is_active_of R id k ≡ false
none_left id R jobs n past rest k = none (is_active_of R id k) (sym (rest k) ∙ ap (times k) (drop_past jobs n past))
  where
    none : (b : Bool) → ◌≡◌ {A = ℕ} (if b then 1 else 0) 0 → b ≡ false
    none true e = absurd (omega (arith, e))
    none false e = refl

-- ---- once all are done

module _ (id : List ℕ) (good : Bool) (O N : List Row) (settled : List ℕ) (marks : Marks id good O N settled) where
  marked_field : {X : Type 0} (f : Row → X) → ((r : Row) → f (record r { status = Done good }) ≡ f r) → (k : ℕ) → f (row_at N k) ≡ f (row_at O k)
  marked_field f same k = ap f (marks.each k) ∙ by_active (is_active_of O id k)
    where
      by_active : (b : Bool) → f (if b then record (row_at O k) { status = Done good } else row_at O k) ≡ f (row_at O k)
      by_active true = same (row_at O k)
      by_active false = refl

  pub marked_actions : (k : ℕ) → (row_at N k).action ≡ (row_at O k).action
  marked_actions = marked_field (λ (r : Row). r.action) (λ r. refl)

  pub marked_backs : (k : ℕ) → (row_at N k).was_back ≡ (row_at O k).was_back
  marked_backs = marked_field (λ (r : Row). r.was_back) (λ r. refl)

  -- whoever waits then waited before, with the same row
  pub marked_waits : (k : ℕ) → is_waiting (row_at N k).status ≡ true → row_at N k ≡ row_at O k
  marked_waits k w = by_active (is_active_of O id k) (marks.each k)
    where
      by_active : (b : Bool) → row_at N k ≡ (if b then record (row_at O k) { status = Done good } else row_at O k) → row_at N k ≡ row_at O k
      by_active true e = let c : false ≡ true = sym (ap (λ (r : Row). is_waiting r.status) e) ∙ w in absurd (cc)
      by_active false e = e

  marked_shut : (k : ℕ) → is_open (row_at O k).status ≡ false → is_open (row_at N k).status ≡ false
  marked_shut k s = by_active (is_active_of O id k) (marks.each k)
    where
      by_active : (b : Bool) → row_at N k ≡ (if b then record (row_at O k) { status = Done good } else row_at O k) → is_open (row_at N k).status ≡ false
      by_active true e = ap (λ (r : Row). is_open r.status) e
      by_active false e = ap (λ (r : Row). is_open r.status) e ∙ s

  pub marked_good : (J : List Job) (I : List (List ℕ)) → ArePropagatedBy J I O → ArePropagatedBy J I N
  marked_good J I g = record {
    known = record {
      jobs = marks.count ∙ g.known.jobs;
      lists = g.known.lists;
      fits = g.known.fits;
      imports = λ k. marked_field (λ (r : Row). r.imports) (λ r. refl) k ∙ g.known.imports k;
      importers = λ k. marked_field (λ (r : Row). r.importers) (λ r. refl) k ∙ g.known.importers k;
      named = g.known.named;
      inside = g.known.inside;
    };
    past = λ k w i le lt. marked_shut (slice_index_or (job_imports_at J k) i 0)
        (g.past k (ap (λ (r : Row). is_waiting r.status) (sym (marked_waits k w)) ∙ w) i (subst (λ (r : Row). r.left ≤ i) (marked_waits k w) le) lt);
    within = λ k w. subst (λ (r : Row). r.left ≤ length (job_imports_at J k)) (sym (marked_waits k w)) (g.within k (ap (λ (r : Row). is_waiting r.status) (sym (marked_waits k w)) ∙ w));
    bare = λ k w. marked_actions k ∙ g.bare k (ap (λ (r : Row). r.status) (sym (marked_waits k (ap is_waiting w))) ∙ w);
  }

  pub marked_held : (J : List Job) → Waits J O [] (λ j. false) → Waits J N settled (λ j. false)
  marked_held J waits j w not =
      let same = marked_waits j w in
      let held : IsHeldUp J O [] j = waits j (ap (λ (r : Row). is_waiting r.status) (sym same) ∙ w) refl in
      let v : watched J N j ≡ watched J O j = ap (λ (r : Row). slice_index_or (job_imports_at J j) (r.left - 1) 0) same in
      let left : (row_at N j).left ≡ (row_at O j).left = ap (λ (r : Row). r.left) same in
      record {
        some = omega (arith, left, held.some);
        within = omega (arith, left, held.within);
        inside = omega (arith, v, marks.count, held.inside);
        work = held.work;
        on = ap (λ i. is_open (row_at N i).status || list_any (λ k. eqb k i) settled) v ∙ on (watched J O j) (or_none (is_open (row_at O (watched J O j)).status) held.on);
      }
    where
      or_none : (b : Bool) → (b || false) ≡ true → b ≡ true
      or_none true e = refl
      or_none false e = e

      or_first : (b c : Bool) → b ≡ true → (b || c) ≡ true
      or_first true c e = refl
      or_first false c e = absurd (cc)

      or_second : (b c : Bool) → c ≡ true → (b || c) ≡ true
      or_second true c e = refl
      or_second false c e = e

      on : (v : ℕ) → is_open (row_at O v).status ≡ true → (is_open (row_at N v).status || list_any (λ k. eqb k v) settled) ≡ true
      on v o = by_active (is_active_of O id v) refl
        where
          by_active : (b : Bool) → is_active_of O id v ≡ b → (is_open (row_at N v).status || list_any (λ k. eqb k v) settled) ≡ true
          by_active true e = or_second (is_open (row_at N v).status) (list_any (λ k. eqb k v) settled) (marks.told v e)
          by_active false e = or_first (is_open (row_at N v).status) (list_any (λ k. eqb k v) settled) (ap (λ (r : Row). is_open r.status) (marks.each v ∙ ap (λ (b : Bool). if b then record (row_at O v) { status = Done good } else row_at O v) e) ∙ o)

  pub marked_is : IsMarked id good (job_states_of O) (job_states_of N)
  marked_is = record {
    same_length = length_statuses N ∙ marks.count ∙ sym (length_statuses O);
    each = λ k. status_row N k ∙ ap (λ (r : Row). r.status) (marks.each k) ∙ status_of (is_active_of O id k) k ∙ mark_row k;
    actions = actions_same;
  }
    where
      status_of : (b : Bool) (k : ℕ) → (if b then record (row_at O k) { status = Done good } else row_at O k).status ≡ (if b then Done good else (row_at O k).status)
      status_of true k = refl
      status_of false k = refl

      mark_row : (k : ℕ) → (if is_active_of O id k then Done good else (row_at O k).status) ≡ mark (job_states_of O).actions id good k (status_at (job_states_of O).statuses k)
      mark_row k = ap (λ s. if is_active s && has_action_id id (row_at O k).action then Done good else s) (sym (status_row O k)) ∙ ap (λ (a : Option Action). if is_active (status_at (job_states_of O).statuses k) && has_action_id id a then Done good else status_at (job_states_of O).statuses k) (sym (action_row O k))

      actions_same : (job_states_of N).actions ≡ (job_states_of O).actions
      actions_same = ext_get_or None (job_states_of N).actions (job_states_of O).actions (length_actions N ∙ marks.count ∙ sym (length_actions O)) (λ k lt. action_row N k ∙ marked_actions k ∙ sym (action_row O k))
