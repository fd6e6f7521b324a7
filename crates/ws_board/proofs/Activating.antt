-- A job that is ready or runs comes to stand the other way.
use Rattle.std.proofs.Common.{◌≡◌, ℕ, ◌+◌, ◌-◌, ◌<◌, ◌≤◌, true, false, ◌||◌, eqb, List, [], ◌∷◌, ◌++◌, length, Option, Some, None, refl, sym, ap, ◌∙◌, subst, arith, inl, inr}
use Rattle.std.specs.List.{list_any, slice_index_or}
use Rattle.std.proofs.Math.ListN.{set, length-set}
use Rattle.std.proofs.lemmas.Bool.{cases_eq}
use Rattle.ws_board.specs.declared.work.JobStatus.{JobStatus}
use Rattle.ws_board.specs.declared.work.JobStatus.TheVariants.{Waiting, Ready, Running, Blocked, Done}
use Rattle.ws_board.specs.declared.work.Event.{Event}
use Rattle.ws_board.specs.declared.table.Row.{Row}
use Rattle.ws_board.specs.declared.index.Id.{Id}
use Rattle.ws_board.specs.Work.{Job}
use Rattle.ws_board.specs.Machine.{is_open, is_waiting, is_active, is_back_of}
use Rattle.ws_board.specs.Ends.{job_imports_at}
use Rattle.ws_board.specs.Rows.{due, due_of, owed, importer_reads, watched, times, ArePropagatedBy, IsHeldUp, Waits, KnowsBacks, IsPaid}
use Rattle.ws_board.specs.Table.{row_at}
use Rattle.ws_board.specs.Indexes.{jobs_of}
use Rattle.ws_board.proofs.Standing.{row_same, row_other, owed_set}
use Rattle.ws_board.proofs.Stepping.{backs_other, backs_here}

pub kept_of : (o : Option Id) (k : ℕ) → 0 < times k (jobs_of o) → o ≡ None → ⊥
kept_of None k some e = omega (arith, some)
kept_of (Some id) k some e = cc

module _ (J : List Job) (I : List (List ℕ)) (R N : List Row) (k : ℕ) (row : Row) (good : ArePropagatedBy J I R) (written : N ≡ set R k row) (inside : k < length R)
    (was : is_active (row_at R k).status ≡ true) (is : is_active row.status ≡ true) (left : row.left ≡ (row_at R k).left) (imports : row.imports ≡ (row_at R k).imports) (importers : row.importers ≡ (row_at R k).importers) where
  here : row_at N k ≡ row
  here = ap (λ rs. row_at rs k) written ∙ row_same R k row inside

  other : (j : ℕ) → (j ≡ k → ⊥) → row_at N j ≡ row_at R j
  other j ne = ap (λ rs. row_at rs j) written ∙ row_other R k j row ne

  pub act_count : length N ≡ length R
  act_count = ap length written ∙ length-set R k row

  field_same : {X : Type 0} (f : Row → X) → f row ≡ f (row_at R k) → (j : ℕ) → f (row_at N j) ≡ f (row_at R j)
  field_same f same j = elim (cases_eq j k) [
    | inl e ↦ ap (λ i. f (row_at N i)) e ∙ ap f here ∙ same ∙ ap (λ i. f (row_at R i)) (sym e)
    | inr ne ↦ ap f (other j ne)
  ]

  waits_not : (s : JobStatus) → is_active s ≡ true → is_waiting s ≡ false
  waits_not Waiting a = absurd (cc)
  waits_not Ready a = refl
  waits_not (Running hand) a = refl
  waits_not Blocked a = absurd (cc)
  waits_not (Done good) a = absurd (cc)

  open_is : (s : JobStatus) → is_active s ≡ true → is_open s ≡ true
  open_is Waiting a = absurd (cc)
  open_is Ready a = refl
  open_is (Running hand) a = refl
  open_is Blocked a = absurd (cc)
  open_is (Done good) a = absurd (cc)

  opens : (j : ℕ) → is_open (row_at N j).status ≡ is_open (row_at R j).status
  opens = field_same (λ (r : Row). is_open r.status) (open_is row.status is ∙ sym (open_is (row_at R k).status was))

  waits : (j : ℕ) → is_waiting (row_at N j).status ≡ is_waiting (row_at R j).status
  waits = field_same (λ (r : Row). is_waiting r.status) (waits_not row.status is ∙ sym (waits_not (row_at R k).status was))

  lefts : (j : ℕ) → (row_at N j).left ≡ (row_at R j).left
  lefts = field_same (λ (r : Row). r.left) left

  -- a job that waits is not the one that is written
  apart : (j : ℕ) → is_waiting (row_at N j).status ≡ true → row_at N j ≡ row_at R j
  apart j w = other j (λ e. let c : false ≡ true = sym (waits_not row.status is) ∙ ap (λ (r : Row). is_waiting r.status) (sym here) ∙ ap (λ i. is_waiting (row_at N i).status) (sym e) ∙ w in cc)

  pub act_good : ArePropagatedBy J I N
  act_good = record {
    known = record {
      jobs = act_count ∙ good.known.jobs;
      lists = good.known.lists;
      fits = good.known.fits;
      imports = λ j. field_same (λ (r : Row). r.imports) imports j ∙ good.known.imports j;
      importers = λ j. field_same (λ (r : Row). r.importers) importers j ∙ good.known.importers j;
      named = good.known.named;
      inside = good.known.inside;
    };
    past = λ j w i le lt. opens (slice_index_or (job_imports_at J j) i 0) ∙ good.past j (sym (waits j) ∙ w) i (subst (λ n. n ≤ i) (lefts j) le) lt;
    within = λ j w. subst (λ n. n ≤ length (job_imports_at J j)) (sym (lefts j)) (good.within j (sym (waits j) ∙ w));
    bare = λ j w. ap (λ (r : Row). r.action) (apart j (ap is_waiting w)) ∙ good.bare j (ap (λ (r : Row). r.status) (sym (apart j (ap is_waiting w))) ∙ w);
  }

  pub act_waits : Waits J R [] (λ j. false) → Waits J N [] (λ j. false)
  act_waits w j waiting not =
      let held : IsHeldUp J R [] j = w j (sym (waits j) ∙ waiting) refl in
      let v : watched J N j ≡ watched J R j = ap (λ n. slice_index_or (job_imports_at J j) (n - 1) 0) (lefts j) in
      record {
        some = subst (λ n. 0 < n) (sym (lefts j)) held.some;
        within = subst (λ n. n ≤ length (job_imports_at J j)) (sym (lefts j)) held.within;
        inside = omega (arith, v, act_count, held.inside);
        work = held.work;
        on = ap (λ i. is_open (row_at N i).status || list_any (λ i. eqb i i) []) v ∙ ap (λ b. b || false) (opens (watched J R j)) ∙ held.on;
      }

  -- who was given back is known
  pub act_backs : (history all : List Event) (e : Event) → all ≡ history ++ e ∷ [] → row.was_back ≡ (row_at R k).was_back → ((j : ℕ) → is_back_of j e ≡ false) → KnowsBacks R history → KnowsBacks N all
  act_backs history all e is same not knows j lt = field_same (λ (r : Row). r.was_back) same j ∙ knows j (omega (arith, lt, act_count)) ∙ sym (backs_other j history all e is (not j))

  pub back_backs : (history all : List Event) (e : Event) → all ≡ history ++ e ∷ [] → row.was_back ≡ true → is_back_of k e ≡ true → ((j : ℕ) → (j ≡ k → ⊥) → is_back_of j e ≡ false) → KnowsBacks R history → KnowsBacks N all
  back_backs history all e is hit of_k not knows j lt = elim (cases_eq j k) [
    | inl same ↦ ap (λ i. (row_at N i).was_back) same ∙ ap (λ (r : Row). r.was_back) here ∙ hit ∙ sym (ap (λ i. list_any (is_back_of i) all) same ∙ backs_here k history all e is of_k)
    | inr ne ↦ ap (λ (r : Row). r.was_back) (other j ne) ∙ knows j (omega (arith, lt, act_count)) ∙ sym (backs_other j history all e is (not j ne))
  ]

  due_ready : (r : Row) → r.status ≡ Ready → due r ≡ 2 + importer_reads r.importers
  due_ready r e = ap (λ s. due_of s r.left r.imports r.importers) e

  due_running : (r : Row) (hand : ℕ) → r.status ≡ Running hand → due r ≡ 1 + importer_reads r.importers
  due_running r hand e = ap (λ s. due_of s r.left r.imports r.importers) e

  pub taken_paid : (looks next imports_count backs same : ℕ) (hand : ℕ) → (row_at R k).status ≡ Ready → row.status ≡ Running hand → next ≡ looks + 1 → same ≡ backs → IsPaid looks R imports_count backs → IsPaid next N imports_count same
  taken_paid looks next imports_count backs same hand ready runs one still paid =
      let o : owed N ≡ owed (set R k row) = ap owed written in
      let t : importer_reads row.importers ≡ importer_reads (row_at R k).importers = ap importer_reads importers in (
        omega (arith, act_count, paid.0, one),
        omega (arith, act_count, paid.1, one, still, o, owed_set R k row inside, due_ready (row_at R k) ready, due_running row hand runs, t),
      )

  pub back_paid : (looks imports_count backs more : ℕ) (hand : ℕ) → (row_at R k).status ≡ Running hand → row.status ≡ Ready → more ≡ backs + 1 → IsPaid looks R imports_count backs → IsPaid looks N imports_count more
  back_paid looks imports_count backs more hand runs ready one paid =
      let o : owed N ≡ owed (set R k row) = ap owed written in
      let t : importer_reads row.importers ≡ importer_reads (row_at R k).importers = ap importer_reads importers in (
        omega (arith, act_count, paid.0),
        omega (arith, act_count, paid.1, one, o, owed_set R k row inside, due_running (row_at R k) hand runs, due_ready row ready, t),
      )
