-- What holds whenever the lock is free stays so with each event.
use Rattle.std.proofs.Common.{◌≡◌, ◌∙◌, ℕ, zero, suc, true, false, List, [], ◌∷◌, ◌++◌, map, Option, Some, None, sym, ap, subst, refl}
use Rattle.std.specs.List.{slice_get}
use Rattle.ws_action.specs.Actions.{Action}
use Rattle.ws_board.specs.declared.work.JobStatus.{JobStatus}
use Rattle.ws_board.specs.declared.work.Event.{Event}
use Rattle.ws_board.specs.declared.work.Event.TheVariants.{Take, Finish, Back, Idle}
use Rattle.ws_board.specs.declared.work.Taken.{Taken}
use Rattle.ws_board.specs.declared.work.Taken.TheVariants as told
use Rattle.ws_board.specs.Work.{Work, Job, Opening, JobStates, BoardState, Seen}
use Rattle.ws_board.specs.Machine.{Holdings, Readiness, Wait, Stop, Act, is_waiting, status_at, action_at, held, unopened, IsReadiness, Follows, HasStatus, Propagated}
use Rattle.ws_board.specs.Calls.{IsFresh, Happens, TakeStep}
use Rattle.ws_board.specs.Ends.{work_in, work_at, AddsOwn, MayBeResult, GivesOwn}
use Rattle.ws_board.proofs.Own.{own_first, own_take, own_back, own_idle}
use Rattle.ws_shared.specs.Counts.{Counts, none_made, count_event, counts_of}
use Rattle.ws_shared.specs.Workers.{WorkerState, IsActionOf, AreActionsOf, IsOwn, with_taken, job_of, TaskGivenOrLater, BoardInvariant}

-- ---- counts

-- of two events either may be counted first
counted_swap : (made : Counts) (d e : Event) → count_event (count_event made d) e ≡ count_event (count_event made e) d
counted_swap made (Take _ _) (Take _ _) = refl
counted_swap made (Take _ _) (Finish _ _) = refl
counted_swap made (Take _ _) (Back _ _) = refl
counted_swap made (Take _ _) (Idle _) = refl
counted_swap made (Finish _ _) (Take _ _) = refl
counted_swap made (Finish _ _) (Finish _ _) = refl
counted_swap made (Finish _ _) (Back _ _) = refl
counted_swap made (Finish _ _) (Idle _) = refl
counted_swap made (Back _ _) (Take _ _) = refl
counted_swap made (Back _ _) (Finish _ _) = refl
counted_swap made (Back _ _) (Back _ _) = refl
counted_swap made (Back _ _) (Idle _) = refl
counted_swap made (Idle _) (Take _ _) = refl
counted_swap made (Idle _) (Finish _ _) = refl
counted_swap made (Idle _) (Back _ _) = refl
counted_swap made (Idle _) (Idle _) = refl

counts_more : (history : List Event) (e : Event) → counts_of (history ++ e ∷ []) ≡ count_event (counts_of history) e
counts_more [] e = refl
counts_more (x ∷ xs) e = ap (λ (made : Counts). count_event made x) (counts_more xs e) ∙ counted_swap (counts_of xs) e x

-- ---- actions

-- where a job is carried on with an action, this is of its work
follows_formed : (held : Holdings) (now : JobStates) (work : Option Work) (imports : List ℕ) (verdict : Readiness) (status : JobStatus) (formed : Option Action) (action : Action) →
    IsReadiness held now work imports verdict → Follows held verdict status formed → formed ≡ Some action → IsActionOf work action
follows_formed held now work imports Wait status formed action v f e = (let wrong : None ≡ Some action = sym f.1 ∙ e in absurd (cc (wrong)))
follows_formed held now work imports Stop status formed action v f e = (let wrong : None ≡ Some action = sym f.1 ∙ e in absurd (cc (wrong)))
follows_formed held now None imports (Act its) status formed action v f e = absurd (cc (v))
follows_formed held now (Some work) imports (Act its) status formed action v f e =
    let some : Some its ≡ Some action = sym f.1 ∙ e in
    let same : its ≡ action = cc (some) in
    record { its = work; is_its = refl; summaries = (v.may).summaries; is = sym same ∙ (v.may).is }

stands_formed : (held : Holdings) (now : JobStates) (job : Option Job) (status : JobStatus) (formed : Option Action) (action : Action) →
    HasStatus held now job status formed → formed ≡ Some action → IsActionOf (work_in job) action
stands_formed held now None status formed action h e = (let wrong : None ≡ Some action = sym h.1 ∙ e in absurd (cc (wrong)))
stands_formed held now (Some job) status formed action h e = follows_formed held now job.work job.imports h.0 status formed action h.1 h.2 e

carried_formed : (jobs : List Job) (held : Holdings) (old new : JobStates) → Propagated jobs held old new → AreActionsOf jobs old.actions → AreActionsOf jobs new.actions
carried_formed jobs held old new c before = λ job action e.
    elim (is_waiting (status_at old.statuses job)) as (λ b. is_waiting (status_at old.statuses job) ≡ b → IsActionOf (work_at jobs job) action) [
      | true ↦ λ w. stands_formed held new (slice_get jobs job) (status_at new.statuses job) (action_at new.actions job) action (c.waiting job w) e
      | false ↦ λ w. before job action (sym (c.others job w).1 ∙ e)
    ] refl

none_formed : (jobs : List Job) (k : ℕ) → action_at (map (λ job. None) jobs) k ≡ None
none_formed [] k = refl
none_formed (j ∷ js) zero = refl
none_formed (j ∷ js) (suc k) = none_formed js k

unopened_formed : (jobs : List Job) → AreActionsOf jobs (unopened jobs).actions
unopened_formed jobs = λ job action e. (let wrong : None ≡ Some action = sym (none_formed jobs job) ∙ e in absurd (cc (wrong)))

-- ---- what is kept

moved : (a b : Opening) (actions : List (Option Action)) → a ≡ b → AreActionsOf a.jobs actions → AreActionsOf b.jobs actions
moved a b actions same = subst (λ (o : Opening). AreActionsOf o.jobs actions) same

pub kept_first : (opening : Opening) (books : Counts) (board : Seen) → board.opening ≡ opening → IsFresh board → books ≡ none_made → BoardInvariant opening books board
kept_first opening books board opened fresh none = record {
  opened = opened;
  counts = none ∙ sym (ap counts_of fresh.nothing_happened);
  formed = moved board.opening opening board.state.standings.actions opened
      (carried_formed board.opening.jobs (held board.opening board.state) (unopened board.opening.jobs) board.state.standings (fresh.first).carried (unopened_formed board.opening.jobs));
  own = own_first board fresh;
}

kept_event : (opening : Opening) (books : Counts) (old new : Seen) (e : Event) → Happens old e new → AreActionsOf opening.jobs new.state.standings.actions → AddsOwn new → BoardInvariant opening books old → BoardInvariant opening (count_event books e) new
kept_event opening books old new e h formed own kept = record {
  opened = h.opening ∙ kept.opened;
  counts = ap (λ (made : Counts). count_event made e) kept.counts ∙ sym (counts_more old.history e) ∙ sym (ap counts_of h.history);
  formed = formed;
  own = own;
}

same_formed : (opening : Opening) (old new : BoardState) → new.standings.actions ≡ old.standings.actions → AreActionsOf opening.jobs old.standings.actions → AreActionsOf opening.jobs new.standings.actions
same_formed opening old new same = subst (AreActionsOf opening.jobs) (sym same)

pub kept_take : (opening : Opening) (books : Counts) (old new : Seen) (hand : ℕ) (t : Taken) → TakeStep hand t old new → BoardInvariant opening books old → BoardInvariant opening (with_taken hand t books) new
kept_take opening books old new hand (told.Job task) s kept =
    let h = s.happens in
    kept_event opening books old new (Take hand task.job) h (same_formed opening old.state new.state (ap (λ (z : BoardState). z.standings.actions) h.step.2) kept.formed) (own_take old new hand task.job h kept.own) kept
kept_take opening books old new hand told.Idle h kept =
    kept_event opening books old new (Idle hand) h (same_formed opening old.state new.state (ap (λ (z : BoardState). z.standings.actions) h.step.1) kept.formed) (own_idle old new hand h kept.own) kept
kept_take opening books old new hand told.Later s kept = subst (BoardInvariant opening books) (sym s.2) kept

pub kept_back : (opening : Opening) (books : Counts) (old new : Seen) (hand job : ℕ) → Happens old (Back hand job) new → BoardInvariant opening books old → BoardInvariant opening (count_event books (Back hand job)) new
kept_back opening books old new hand job h kept =
    kept_event opening books old new (Back hand job) h (same_formed opening old.state new.state (ap (λ (z : BoardState). z.standings.actions) h.step.2) kept.formed) (own_back old new hand job h kept.own) kept

pub kept_finish : (opening : Opening) (books : Counts) (old new : Seen) (hand job : ℕ) → Happens old (Finish hand job) new → (AddsOwn old → AddsOwn new) → BoardInvariant opening books old → BoardInvariant opening (count_event books (Finish hand job)) new
kept_finish opening books old new hand job h own kept =
    let f = h.step.2 in
    let before = moved opening old.opening old.state.standings.actions (sym kept.opened) kept.formed in
    let marked : AreActionsOf old.opening.jobs f.marked.actions = subst (AreActionsOf old.opening.jobs) (sym (f.marks).actions) before in
    let formed = carried_formed old.opening.jobs (held old.opening new.state) f.marked new.state.standings f.carried marked in
    kept_event opening books old new (Finish hand job) h (moved old.opening opening new.state.standings.actions kept.opened formed) (own kept.own) kept

-- ---- actions that come

pub taken_own : (opening : Opening) (books : Counts) (old : Seen) (t : Taken) → GivesOwn old t → BoardInvariant opening books old → IsOwn opening t
taken_own opening books old (told.Job task) gives kept = subst (λ (o : Opening). MayBeResult o task.action) kept.opened (gives kept.own)
taken_own opening books old told.Idle gives kept = tt
taken_own opening books old told.Later gives kept = tt

pub finished_own : (opening : Opening) (old : Seen) (entry action : Action) → old.opening ≡ opening → entry ≡ action → MayBeResult opening action → MayBeResult old.opening entry
finished_own opening old entry action opened same comes = subst (λ (o : Opening). MayBeResult o entry) (sym opened) (subst (MayBeResult opening) (sym same) comes)

-- ---- what a worker is told

pub told_by : (opening : Opening) (t : Taken) (b d : Seen) (old new : WorkerState) → TakeStep old.number t b d → AreActionsOf opening.jobs d.state.standings.actions → IsOwn opening t → old.runs ≡ None
    → new ≡ record { number = old.number; runs = job_of t; made = with_taken old.number t old.made } → TaskGivenOrLater opening t old new
told_by opening (told.Job task) b d old new s formed own none e = (formed task.job task.action (s.runs).its, own, e)
told_by opening told.Idle b d old new s formed own none e = e
told_by opening told.Later b d old new s formed own none e = e ∙ ap (λ (r : Option ℕ). let h : WorkerState = record { number = old.number; runs = r; made = old.made } in h) (sym none)
