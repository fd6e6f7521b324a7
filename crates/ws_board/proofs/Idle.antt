-- Where nothing may be given and nothing runs, nothing is ready. After an idle it stays so; then, by ranks, nothing waits.
use Rattle.std.proofs.Common.{◌≡◌, ℕ, ◌<◌, Bool, true, false, ◌||◌, ◌&&◌, List, [], ◌∷◌, Option, Some, None, refl, sym, ap, ◌∙◌, subst}
use Rattle.std.specs.List.{slice_get, list_any, Contains}
use Rattle.ws_action.specs.Actions.{Action, action_id}
use Rattle.ws_action.proofs.Members.{later, at_head}
use Rattle.ws_board.specs.declared.work.JobStatus.{JobStatus}
use Rattle.ws_board.specs.declared.work.JobStatus.TheVariants.{Waiting, Ready, Running, Blocked, Done}
use Rattle.ws_board.specs.declared.work.Event.{Event}
use Rattle.ws_board.specs.declared.work.Event.TheVariants.{Take, Finish, Back, Idle}
use Rattle.ws_board.specs.Work.{Work, Job, JobStates, Opening, BoardState}
use Rattle.ws_board.specs.Machine.{Holdings, is_open, is_waiting, is_active, is_running, is_run_of, status_at, action_at, has_id, IsReadiness, Wait, NoneFree, IsIdle, Replays, is_idle}
use Rattle.ws_board.specs.Ends.{work_in, job_imports, IsRanked}
use Rattle.ws_board.proofs.OneEnd.{ranked}
use Rattle.ws_board.proofs.Sounds.{IsSound, Keeps}

active_cases : (s : JobStatus) → (s ≡ Ready → ⊥) → is_running s ≡ false → is_active s ≡ false
active_cases Waiting a b = refl
active_cases Ready a b = absurd (a refl)
active_cases (Running hand) a b = absurd (cc)
active_cases Blocked a b = refl
active_cases (Done good) a b = refl

run_is_running : (now : JobStates) (id : List ℕ) (k : ℕ) → is_running (status_at now.statuses k) ≡ false → is_run_of now id k ≡ false
run_is_running now id k h = ap (λ b. b && has_id now.actions id k) h

pub idle_is : (now : JobStates) → ((job : ℕ) → status_at now.statuses job ≡ Ready → (action : Action) × (action_at now.actions job ≡ Some action)) → NoneFree now → ((k : ℕ) → is_running (status_at now.statuses k) ≡ false) → IsIdle now.statuses
idle_is now has none still job = active_cases (status_at now.statuses job) (λ ready. (
    let a = has job ready in
    let r = none job a.0 ready a.1 in
    let c : true ≡ false = sym r.1 ∙ run_is_running now (action_id a.0) r.0 (still r.0) in cc)) (still job)

-- ---- after an idle

idle_not : (statuses : List JobStatus) → IsIdle statuses → (j : ℕ) (s : JobStatus) → status_at statuses j ≡ s → is_active s ≡ true → ⊥
idle_not statuses idle j s e a = let c : false ≡ true = sym (idle j) ∙ ap is_active e ∙ a in cc

idle_stays : (opening : Opening) (events : List Event) (old new : BoardState) → Replays opening old events new → IsIdle old.standings.statuses → IsIdle new.standings.statuses
idle_stays opening [] old new r idle = subst (λ (s : BoardState). IsIdle s.standings.statuses) (sym r) idle
idle_stays opening (Take hand j ∷ events) old new (mid, s, r) idle = absurd (idle_not old.standings.statuses idle j Ready s.1.ready refl)
idle_stays opening (Finish hand j ∷ events) old new (mid, s, r) idle = absurd (idle_not old.standings.statuses idle j (Running hand) s.2.run.runs refl)
idle_stays opening (Back hand j ∷ events) old new (mid, s, r) idle = absurd (idle_not old.standings.statuses idle j (Running hand) s.1.runs refl)
idle_stays opening (Idle hand ∷ events) old new (mid, s, r) idle = idle_stays opening events mid new r (subst (λ (s : BoardState). IsIdle s.standings.statuses) (sym s.1) s.0)

pub after_idle : (opening : Opening) (events : List Event) (old new : BoardState) → Replays opening old events new → list_any is_idle events ≡ true → IsIdle new.standings.statuses
after_idle opening [] old new r h = absurd (cc)
after_idle opening (Take hand j ∷ events) old new (mid, s, r) h = after_idle opening events mid new r h
after_idle opening (Finish hand j ∷ events) old new (mid, s, r) h = after_idle opening events mid new r h
after_idle opening (Back hand j ∷ events) old new (mid, s, r) h = after_idle opening events mid new r h
after_idle opening (Idle hand ∷ events) old new (mid, s, r) h = idle_stays opening events mid new r (subst (λ (s : BoardState). IsIdle s.standings.statuses) (sym s.1) s.0)

some_open : (f : ℕ → JobStatus) (ks : List ℕ) → list_any (λ k. is_open (f k)) ks ≡ true → (k : ℕ) × Contains ks k × (is_open (f k) ≡ true)
some_open f [] h = absurd (cc)
some_open f (k ∷ ks) h = by_first (is_open (f k)) refl (some_open f ks) h
  where
    by_first : (b : Bool) → is_open (f k) ≡ b → (list_any (λ k. is_open (f k)) ks ≡ true → (i : ℕ) × Contains ks i × (is_open (f i) ≡ true)) → (b || list_any (λ k. is_open (f k)) ks) ≡ true → (i : ℕ) × Contains (k ∷ ks) i × (is_open (f i) ≡ true)
    by_first true e rest h = (k, at_head ks k k refl, e)
    by_first false e rest h = let r = rest h in (r.0, later k ks r.0 r.1, r.2)

open_waits : (s : JobStatus) → is_active s ≡ false → is_open s ≡ true → is_waiting s ≡ true
open_waits Waiting a o = refl
open_waits Ready a o = absurd (cc)
open_waits (Running hand) a o = absurd (cc)
open_waits Blocked a o = absurd (cc)
open_waits (Done good) a o = absurd (cc)

shut_or : (s : JobStatus) → is_active s ≡ false → (is_waiting s ≡ true → ⊥) → is_open s ≡ false
shut_or Waiting a w = absurd (w refl)
shut_or Ready a w = a
shut_or (Running hand) a w = a
shut_or Blocked a w = refl
shut_or (Done good) a w = refl

-- what waits has work, and an import that is open
waits_work : (now : JobStates) (h : Holdings) (job : Job) (o : Option Work) → job.work ≡ o → IsReadiness h now o job.imports Wait → ((w : Work) × (job.work ≡ Some w)) × ((i : ℕ) × Contains job.imports i × (is_open (status_at now.statuses i) ≡ true))
waits_work now h job None e v = absurd (cc)
waits_work now h job (Some work) e v = ((work, e), some_open (status_at now.statuses) job.imports v)

waits_on : (h : Holdings) (now : JobStates) (o : Option Job) (s : JobStatus) (x : Option Action) → is_waiting s ≡ true → IsSound h now o s x
    → ((w : Work) × (work_in o ≡ Some w)) × ((i : ℕ) × Contains (job_imports o) i × (is_open (status_at now.statuses i) ≡ true))
waits_on h now None s x w sound = let c : true ≡ false = sym w ∙ ap is_waiting sound.0 in absurd (cc)
waits_on h now (Some job) Waiting x w sound = waits_work now h job job.work refl sound.1
waits_on h now (Some job) Ready x w sound = absurd (cc)
waits_on h now (Some job) (Running hand) x w sound = absurd (cc)
waits_on h now (Some job) Blocked x w sound = absurd (cc)
waits_on h now (Some job) (Done good) x w sound = absurd (cc)

module _ (jobs : List Job) (h : Holdings) (now : JobStates) (keeps : Keeps jobs h now) (idle : IsIdle now.statuses) (rank : ℕ → ℕ) (down : IsRanked rank jobs) where
  none_step : (k : ℕ) → ((i : ℕ) → rank i < rank k → is_waiting (status_at now.statuses i) ≡ true → ⊥) → is_waiting (status_at now.statuses k) ≡ true → ⊥
  none_step k below w =
      let on = waits_on h now (slice_get jobs k) (status_at now.statuses k) (action_at now.actions k) w (keeps.sound k) in
      let i : ℕ = on.1.0 in
      let too : is_waiting (status_at now.statuses i) ≡ true = open_waits (status_at now.statuses i) (idle i) on.1.2 in
      let its = waits_on h now (slice_get jobs i) (status_at now.statuses i) (action_at now.actions i) too (keeps.sound i) in
      below i (down k i on.0.0 its.0.0 on.0.1 on.1.1 its.0.1) too

  pub all_settled : (k : ℕ) → is_open (status_at now.statuses k) ≡ false
  all_settled k = shut_or (status_at now.statuses k) (idle k) (ranked rank (λ k. is_waiting (status_at now.statuses k) ≡ true → ⊥) none_step k)
