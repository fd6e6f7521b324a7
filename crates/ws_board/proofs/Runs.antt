-- How many jobs run.
use Rattle.std.proofs.Common.{◌≡◌, ℕ, zero, suc, ◌+◌, ◌<◌, ◌≤◌, Bool, true, false, ◌&&◌, cond, List, [], ◌∷◌, length, count_by, map, Option, Some, None, refl, sym, ap, ◌∙◌, inl, inr, arith}
use Rattle.std.specs.Prelude.{if◌then◌else◌}
use Rattle.std.specs.List.{slice_get}
use Rattle.std.proofs.lemmas.List.Sums.{sum_by-cons}
use Rattle.std.proofs.lemmas.Bool.{cases_lt}
use Rattle.std.proofs.lemmas.Slice.Eq.{bytes_eq-Decides}
use Rattle.ws_action.specs.Actions.{Action, action_id}
use Rattle.ws_board.specs.declared.work.JobStatus.{JobStatus}
use Rattle.ws_board.specs.declared.work.JobStatus.TheVariants.{Waiting, Running, Done}
use Rattle.ws_board.specs.Work.{Job, JobStates}
use Rattle.ws_board.specs.Machine.{Holdings, is_open, is_running, is_active, status_at, action_at, has_id, has_action_id, Readiness, Wait, Stop, Act, Follows, IsPlaced, HasStatus, Propagated, mark, IsMarked, IsRunBy, unopened}
use Rattle.ws_board.proofs.Carry.{past_end, waiting_or, carried_agrees}

cond_le : (a b : Bool) → (a ≡ true → b ≡ true) → cond a 1 0 ≤ cond b 1 0
cond_le true true h = omega arith
cond_le true false h = absurd (let e : false ≡ true = h refl in cc)
cond_le false true h = omega arith
cond_le false false h = omega arith

-- where what passes passed before, no more pass
pub at_most : (p : JobStatus → Bool) (xs ys : List JobStatus) → length ys ≡ length xs → ((k : ℕ) → p (status_at ys k) ≡ true → p (status_at xs k) ≡ true) → count_by p ys ≤ count_by p xs
at_most p [] [] len h = omega arith
at_most p [] (y ∷ ys) len h = absurd (omega (arith, len))
at_most p (x ∷ xs) [] len h = omega arith
at_most p (x ∷ xs) (y ∷ ys) len h =
    omega (arith, sum_by-cons (λ s. cond (p s) 1 0) x xs, sum_by-cons (λ s. cond (p s) 1 0) y ys, cond_le (p y) (p x) (h 0), at_most p xs ys (omega (arith, len)) (λ k. h (suc k)))

-- and less, where one stopped
pub less : (p : JobStatus → Bool) (xs ys : List JobStatus) (j : ℕ) → length ys ≡ length xs → ((k : ℕ) → p (status_at ys k) ≡ true → p (status_at xs k) ≡ true) → j < length xs → p (status_at xs j) ≡ true → p (status_at ys j) ≡ false → count_by p ys + 1 ≤ count_by p xs
less p [] ys j len h inside was is = absurd (omega (arith, inside))
less p (x ∷ xs) [] j len h inside was is = absurd (omega (arith, len))
less p (x ∷ xs) (y ∷ ys) zero len h inside was is =
    let a : ◌≡◌ {A = ℕ} (cond (p x) 1 0) 1 = ap (λ b. cond b 1 0) was in
    let b : ◌≡◌ {A = ℕ} (cond (p y) 1 0) 0 = ap (λ b. cond b 1 0) is in
    omega (arith, sum_by-cons (λ s. cond (p s) 1 0) x xs, sum_by-cons (λ s. cond (p s) 1 0) y ys, a, b, at_most p xs ys (omega (arith, len)) (λ k. h (suc k)))
less p (x ∷ xs) (y ∷ ys) (suc j) len h inside was is =
    omega (arith, sum_by-cons (λ s. cond (p s) 1 0) x xs, sum_by-cons (λ s. cond (p s) 1 0) y ys, cond_le (p y) (p x) (h 0), less p xs ys j (omega (arith, len)) (λ k. h (suc k)) (omega (arith, inside)) was is)

pub inside_of : (xs : List JobStatus) (k : ℕ) (s : JobStatus) → status_at xs k ≡ s → is_active s ≡ true → k < length xs
inside_of xs k s e a = elim (cases_lt k (length xs)) [
  | inl lt ↦ lt
  | inr le ↦ (let c : false ≡ true = ap is_active (sym (past_end xs k le) ∙ e) ∙ a in absurd (cc))
]

-- ---- what stands so doesn't run

pub stands_rests : (h : Holdings) (now : JobStates) (o : Option Job) (s : JobStatus) (x : Option Action) → HasStatus h now o s x → is_running s ≡ false
stands_rests h now None s x st = ap is_running st.0
stands_rests h now (Some job) s x st = by_verdict st.0 st.2
  where
    placed : (p : Option Action) → IsPlaced p s → is_running s ≡ false
    placed None p = ap is_running p
    placed (Some b) p = ap is_running p.2

    by_verdict : (v : Readiness) → Follows h v s x → is_running s ≡ false
    by_verdict Wait f = ap is_running f.0
    by_verdict Stop f = ap is_running f.0
    by_verdict (Act a) f = placed (h (action_id a)) f.0

pub carried_ran : (jobs : List Job) (h : Holdings) (old new : JobStates) → Propagated jobs h old new → (k : ℕ) → is_running (status_at new.statuses k) ≡ true → is_running (status_at old.statuses k) ≡ true
carried_ran jobs h old new c k e = elim (waiting_or (status_at old.statuses k)) [
  | inl w ↦ (let x : true ≡ false = sym e ∙ stands_rests h new (slice_get jobs k) (status_at new.statuses k) (action_at new.actions k) (c.waiting k w) in absurd (cc))
  | inr w ↦ ap is_running (sym (c.others k w).0) ∙ e
]

mark_ran1 : (b : Bool) (good : Bool) (s : JobStatus) → is_running (if b then Done good else s) ≡ true → is_running s ≡ true
mark_ran1 true good s h = let c : false ≡ true = h in absurd (cc)
mark_ran1 false good s h = h

pub mark_ran : (id : List ℕ) (good : Bool) (old new : JobStates) → IsMarked id good old new → (k : ℕ) → is_running (status_at new.statuses k) ≡ true → is_running (status_at old.statuses k) ≡ true
mark_ran id good old new m k e = mark_ran1 (is_active (status_at old.statuses k) && has_id old.actions id k) good (status_at old.statuses k) (ap is_running (sym (m.each k)) ∙ e)

pub has_its_id : (actions : List (Option Action)) (id : List ℕ) (k : ℕ) (a : Action) → action_at actions k ≡ Some a → action_id a ≡ id → has_id actions id k ≡ true
has_its_id actions id k a its same = ap (has_action_id id) its ∙ (bytes_eq-Decides (action_id a) id).1 same

pub marked_done : (id : List ℕ) (good : Bool) (old new : JobStates) → IsMarked id good old new → (hand k : ℕ) (a : Action) → IsRunBy old hand k a → action_id a ≡ id → status_at new.statuses k ≡ Done good
marked_done id good old new m hand k a run same =
    m.each k ∙ ap (mark old.actions id good k) run.runs ∙ ap (λ b. if b then Done good else Running hand) (has_its_id old.actions id k a run.its same)

pub finished_done : (jobs : List Job) (h : Holdings) (id : List ℕ) (good : Bool) (old mid new : JobStates) → IsMarked id good old mid → Propagated jobs h mid new → (hand k : ℕ) (a : Action) → IsRunBy old hand k a → action_id a ≡ id → status_at new.statuses k ≡ Done good
finished_done jobs h id good old mid new m c hand k a run same =
    let done : status_at mid.statuses k ≡ Done good = marked_done id good old mid m hand k a run same in
    carried_agrees jobs h mid new c k (ap is_open done) ∙ done

-- ---- one job is written

-- ---- at first

none_runs : (jobs : List Job) → count_by is_running (map (λ job. Waiting) jobs) ≡ 0
none_runs [] = refl
none_runs (x ∷ xs) = omega (arith, sum_by-cons (λ s. cond (is_running s) 1 0) Waiting (map (λ job. Waiting) xs), none_runs xs)

pub opening_rests : (jobs : List Job) (h : Holdings) (new : JobStates) → Propagated jobs h (unopened jobs) new → count_by is_running new.statuses ≡ 0
opening_rests jobs h new c =
    let le = at_most is_running (map (λ job. Waiting) jobs) new.statuses c.same_length.0 (carried_ran jobs h (unopened jobs) new c) in
    omega (arith, le, none_runs jobs)

-- where none runs, the count is 0
pub none_counted : (xs : List JobStatus) → ((k : ℕ) → is_running (status_at xs k) ≡ false) → count_by is_running xs ≡ 0
none_counted [] h = refl
none_counted (x ∷ xs) h =
    let a : ◌≡◌ {A = ℕ} (cond (is_running x) 1 0) 0 = ap (λ b. cond b 1 0) (h 0) in
    omega (arith, sum_by-cons (λ s. cond (is_running s) 1 0) x xs, a, none_counted xs (λ k. h (suc k)))

-- where the count is 0, none runs
pub counted_none : (xs : List JobStatus) → count_by is_running xs ≡ 0 → (k : ℕ) → is_running (status_at xs k) ≡ true → ⊥
counted_none [] h k e = cc
counted_none (x ∷ xs) h zero e =
    let a : ◌≡◌ {A = ℕ} (cond (is_running x) 1 0) 1 = ap (λ b. cond b 1 0) e in
    absurd (omega (arith, sum_by-cons (λ s. cond (is_running s) 1 0) x xs, a, h))
counted_none (x ∷ xs) h (suc k) e = counted_none xs (omega (arith, sum_by-cons (λ s. cond (is_running s) 1 0) x xs, h)) k e
