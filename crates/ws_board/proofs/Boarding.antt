-- What a board keeps once something happened, and where want of memory undid it.
use Rattle.std.proofs.Common.{◌≡◌, ℕ, zero, suc, ◌+◌, ◌^◌, ◌<◌, ◌≤◌, true, false, cond, List, [], ◌∷◌, ◌++◌, length, count_by, Bool, Some, refl, sym, ap, ◌∙◌, subst, arith}
use Rattle.std.specs.Prelude.{IsTrue, ◌↔◌}
use Rattle.std.proofs.lemmas.List.{append_cancel_right}
use Rattle.std.proofs.lemmas.List.Elements.{All-nil}
use Rattle.std.proofs.lemmas.List.Sums.{count_by-le-length}
use Rattle.ws_action.specs.Actions.{Action}
use Rattle.ws_board.specs.declared.work.Event.{Event}
use Rattle.ws_board.specs.declared.work.JobStatus.TheVariants.{Running}
use Rattle.ws_board.specs.declared.table.Row.{Row}
use Rattle.ws_board.specs.declared.rows.Rows.{Rows}
use Rattle.ws_board.specs.declared.rows.moves.Change.{Change}
use Rattle.ws_board.specs.declared.rows.moves.Moves.{Moves}
use Rattle.ws_board.specs.Work.{Job, Entries, JobStates, Seen}
use Rattle.ws_board.specs.Machine.{is_running, status_at, is_back_of, IsRunBy, IsHistory}
use Rattle.ws_board.specs.Rows.{owed, is_back, import_count, undone, AreWritten, IsUndone, ArePropagatedBy, Waits, KnowsBacks, IsPaid, IsBounded}
use Rattle.ws_board.specs.Table.{row_at, job_states_of}
use Rattle.ws_board.proofs.Runs.{counted_none}
use Rattle.ws_board.proofs.Standing.{status_row, action_row}
use Rattle.ws_board.proofs.Onward.{waits_parts}
use Rattle.ws_board.proofs.Stepping.{backs_other, back_count, bounded}
use Rattle.ws_board.proofs.Finishing.{good_parts}

-- ---- what is owed

-- all that is read fits
pub reads_fit : (looks : ℕ) (R : List Row) (imports backs : ℕ) → IsPaid looks R imports backs → length R < 2 ^ 63 → imports < 2 ^ 64 → backs < 2 ^ 63 → looks + owed R + 1 < 2 ^ 128
reads_fit looks R imports backs paid rows fits few = omega (arith, paid.1, rows, fits, few)

pub still_count : (history all : List Event) (e : Event) → all ≡ history ++ e ∷ [] → is_back e ≡ false → count_by is_back all ≡ count_by is_back history
still_count history all e is not =
    let none : ◌≡◌ {A = ℕ} (cond (is_back e) 1 0) 0 = ap (λ b. cond b 1 0) not in
    omega (arith, back_count history all e is, none)

pub more_count : (history all : List Event) (e : Event) → all ≡ history ++ e ∷ [] → is_back e ≡ true → count_by is_back all ≡ count_by is_back history + 1
more_count history all e is hit =
    let one : ◌≡◌ {A = ℕ} (cond (is_back e) 1 0) 1 = ap (λ b. cond b 1 0) hit in
    omega (arith, back_count history all e is, one)

pub still_paid : (looks next : ℕ) (R N : List Row) (imports : ℕ) (history all : List Event) (e : Event) → length N ≡ length R → looks ≤ next → next + owed N ≤ looks + owed R → all ≡ history ++ e ∷ [] → is_back e ≡ false
    → IsPaid looks R imports (count_by is_back history) → IsPaid next N imports (count_by is_back all)
still_paid looks next R N imports history all e count more less is not paid =
    let same = still_count history all e is not in
    (omega (arith, count, more, paid.0), omega (arith, count, less, same, paid.1))

pub backs_few : (history : List Event) → count_by is_back history ≤ length history
backs_few history = count_by-le-length is_back history

-- ---- who was given back

pub still_backs : (R N : List Row) (history all : List Event) (e : Event) → length N ≡ length R → ((k : ℕ) → (row_at N k).was_back ≡ (row_at R k).was_back) → all ≡ history ++ e ∷ [] → ((k : ℕ) → is_back_of k e ≡ false)
    → KnowsBacks R history → KnowsBacks N all
still_backs R N history all e count same is not knows k lt = same k ∙ knows k (omega (arith, lt, count)) ∙ sym (backs_other k history all e is (not k))

-- ---- who runs

pub run_row : (R : List Row) (hand k : ℕ) (action : Action) → IsRunBy (job_states_of R) hand k action → ((row_at R k).status ≡ Running hand) × ((row_at R k).action ≡ Some action)
run_row R hand k action run = (sym (status_row R k) ∙ run.runs, sym (action_row R k) ∙ run.its)

pub row_run : (R : List Row) (hand k : ℕ) (action : Action) → (row_at R k).status ≡ Running hand → (row_at R k).action ≡ Some action → IsRunBy (job_states_of R) hand k action
row_run R hand k action runs its = record { runs = status_row R k ∙ runs; its = action_row R k ∙ its }

pub runs_some : (R : List Row) (hand k : ℕ) → (row_at R k).status ≡ Running hand → 0 < count_by is_running (job_states_of R).statuses
runs_some R hand k runs = positive (count_by is_running (job_states_of R).statuses) (λ none. counted_none (job_states_of R).statuses none k (ap is_running (status_row R k ∙ runs)))
  where
    positive : (n : ℕ) → (n ≡ 0 → ⊥) → 0 < n
    positive zero h = absurd (h refl)
    positive (suc n) h = omega arith

pub none_runs_of : (R : List Row) → count_by is_running (job_states_of R).statuses ≡ 0 → (k : ℕ) → is_running (status_at (job_states_of R).statuses k) ≡ false
none_runs_of R none k = not (is_running (status_at (job_states_of R).statuses k)) (λ runs. counted_none (job_states_of R).statuses none k runs)
  where
    not : (b : Bool) → (b ≡ true → ⊥) → b ≡ false
    not true h = absurd (h refl)
    not false h = refl

pub not_running : (r : Bool) (n : ℕ) → (IsTrue r ↔ (0 < n)) → r ≡ false → n ≡ 0
not_running r zero iff no_run = refl
not_running r (suc n) iff no_run = let c : true ≡ false = sym (iff.1 (omega arith)) ∙ no_run in absurd (cc)

-- ---- a board's parts, where the jobs are the same

pub moved : (J K : List Job) (I L : List (List ℕ)) (R : List Row) (cache added : Entries) (history : List Event) (now : JobStates) (looks backs : ℕ) → K ≡ J → L ≡ I → job_states_of R ≡ now
    → IsHistory (record { jobs = J; cache = cache }) history (record { standings = now; added = added }) → ArePropagatedBy J I R → Waits J R [] (λ j. false) → IsPaid looks R (import_count J) backs
    → IsHistory (record { jobs = K; cache = cache }) history (record { standings = job_states_of R; added = added }) × ArePropagatedBy K L R × Waits K R [] (λ j. false) × IsPaid looks R (import_count K) backs
moved J K I L R cache added history now looks backs jobs importers stands legal good waits paid = (
  subst (λ l. IsHistory (record { jobs = l; cache = cache }) history (record { standings = job_states_of R; added = added })) (sym jobs)
      (subst (λ s. IsHistory (record { jobs = J; cache = cache }) history (record { standings = s; added = added })) (sym stands) legal),
  good_parts J K I L R jobs importers good,
  waits_parts J K R R [] [] (λ j. false) jobs refl refl waits,
  subst (λ l. IsPaid looks R (import_count l) backs) (sym jobs) paid,
)

-- what is owed bounds what is read of it
pub within : (J K : List Job) (I : List (List ℕ)) (R : List Row) (looks backs : ℕ) → K ≡ J → ArePropagatedBy J I R → IsPaid looks R (import_count J) backs → IsBounded looks (length K) (import_count K) backs
within J K I R looks backs jobs good paid = bounded looks R (length K) (import_count K) backs (ap length jobs ∙ sym good.known.jobs) (subst (λ l. IsPaid looks R (import_count l) backs) (sym jobs) paid)

-- ---- want of memory

pub undone_all : (O N : Rows) (before after : Moves) → before.log.items ≡ [] → IsUndone O N before after → (undone after.log.items N.rows ≡ O.rows) × AreWritten (length N.rows) after.log.items
undone_all O N before after none u = (
  u.rows ∙ ap (λ l. undone l O.rows) none,
  subst (λ n. AreWritten n after.log.items) (sym u.count) (u.written (subst (AreWritten (length O.rows)) (sym none) (All-nil (λ (change : Change). change.job < length O.rows)))),
)

-- who joined is taken out again
pub out_again : (start now end more : List ℕ) → now ≡ start ++ more → now ≡ end ++ more → end ≡ start
out_again start now end more joined left = append_cancel_right end start more (sym left ∙ joined)

pub seen_same : (J K : List Job) (R N : List Row) (opened added more : Entries) (history : List Event) (looks : ℕ) → K ≡ J → N ≡ R → more ≡ added
    → ◌≡◌ {A = Seen} (record { opening = record { jobs = K; cache = opened }; state = record { standings = job_states_of N; added = more }; history = history; looks = looks }) (record { opening = record { jobs = J; cache = opened }; state = record { standings = job_states_of R; added = added }; history = history; looks = looks })
seen_same J K R N opened added more history looks jobs rows same = λ i. record { opening = record { jobs = jobs i; cache = opened }; state = record { standings = job_states_of (rows i); added = same i }; history = history; looks = looks }

-- all is as it was, where the rows were put back
pub unmoved : (J K : List Job) (I L : List (List ℕ)) (R N : List Row) (cache added more : Entries) (history : List Event) (looks backs : ℕ) → K ≡ J → L ≡ I → N ≡ R → more ≡ added
    → IsHistory (record { jobs = J; cache = cache }) history (record { standings = job_states_of R; added = added }) → ArePropagatedBy J I R → Waits J R [] (λ j. false) → IsPaid looks R (import_count J) backs
    → IsHistory (record { jobs = K; cache = cache }) history (record { standings = job_states_of N; added = more }) × ArePropagatedBy K L N × Waits K N [] (λ j. false) × IsPaid looks N (import_count K) backs
unmoved J K I L R N cache added more history looks backs jobs importers rows same legal good waits paid =
    moved J K I L N cache more history (job_states_of R) looks backs jobs importers (ap job_states_of rows)
    (subst (λ m. IsHistory (record { jobs = J; cache = cache }) history (record { standings = job_states_of R; added = m })) (sym same) legal)
    (subst (ArePropagatedBy J I) (sym rows) good) (subst (λ r. Waits J r [] (λ j. false)) (sym rows) waits) (subst (λ r. IsPaid looks r (import_count J) backs) (sym rows) paid)
