-- What imports make of a job stays, once none of them is open.
use Rattle.std.proofs.Common.{◌≡◌, ℕ, Bool, true, false, ◌||◌, List, [], ◌∷◌, Option, Some, None, refl, sym, ap, ◌∙◌}
use Rattle.std.specs.List.{AllZip}
use Rattle.go_export.specs.Summaries.{Summary}
use Rattle.ws_action.specs.Actions.{Action, action_id}
use Rattle.ws_board.specs.declared.work.JobStatus.{JobStatus}
use Rattle.ws_board.specs.declared.work.JobStatus.TheVariants.{Done}
use Rattle.ws_board.specs.Work.{Work, Job, JobStates}
use Rattle.ws_board.specs.Machine.{Holdings, is_open, is_waiting, status_at, action_at, any_open, JobHasSummary, MayForm, IsFormed, Readiness, Wait, Stop, Act, IsReadiness, Follows, HasStatus}

pub first_false : (a b : Bool) → (a || b) ≡ false → a ≡ false
first_false false b h = refl
first_false true b h = h

pub second_false : (a b : Bool) → (a || b) ≡ false → b ≡ false
second_false false b h = h
second_false true b h = absurd (cc)

-- what is settled stays so, and so does what is held for it
pub record Later (was is : Holdings) (old new : JobStates) : Type 0 where
  pub settled : (k : ℕ) → is_open (status_at old.statuses k) ≡ false → (status_at new.statuses k ≡ status_at old.statuses k) × (action_at new.actions k ≡ action_at old.actions k)
  pub keeps : (k : ℕ) (good : Bool) (a : Action) → status_at old.statuses k ≡ Done good → action_at old.actions k ≡ Some a → is (action_id a) ≡ was (action_id a)

module _ (was is : Holdings) (old new : JobStates) (later : Later was is old new) where
  summary_there : (k : ℕ) (s : Summary) → JobHasSummary was old k s → JobHasSummary is new k s
  summary_there k s h =
      let same = later.settled k (ap is_open h.done) in
      record { done = same.0 ∙ h.done; action = h.action; its = same.1 ∙ h.its; entry = h.entry; is_held = later.keeps k true h.action h.done h.its ∙ h.is_held; object = h.object; compiled = h.compiled }

  summary_back : (k : ℕ) (s : Summary) → is_open (status_at old.statuses k) ≡ false → JobHasSummary is new k s → JobHasSummary was old k s
  summary_back k s shut h =
      let same = later.settled k shut in
      let done : status_at old.statuses k ≡ Done true = sym same.0 ∙ h.done in
      let its : action_at old.actions k ≡ Some h.action = sym same.1 ∙ h.its in
      record { done = done; action = h.action; its = its; entry = h.entry; is_held = sym (later.keeps k true h.action done its) ∙ h.is_held; object = h.object; compiled = h.compiled }

  summaries_there : (ks : List ℕ) (ss : List Summary) → AllZip (JobHasSummary was old) ks ss → AllZip (JobHasSummary is new) ks ss
  summaries_there [] [] h = h
  summaries_there [] (s ∷ ss) h = absurd h
  summaries_there (k ∷ ks) [] h = absurd h
  summaries_there (k ∷ ks) (s ∷ ss) h = (summary_there k s h.0, summaries_there ks ss h.1)

  summaries_back : (ks : List ℕ) (ss : List Summary) → any_open old ks ≡ false → AllZip (JobHasSummary is new) ks ss → AllZip (JobHasSummary was old) ks ss
  summaries_back [] [] o h = h
  summaries_back [] (s ∷ ss) o h = absurd h
  summaries_back (k ∷ ks) [] o h = absurd h
  summaries_back (k ∷ ks) (s ∷ ss) o h = (summary_back k s (first_false (is_open (status_at old.statuses k)) (any_open old ks) o) h.0, summaries_back ks ss (second_false (is_open (status_at old.statuses k)) (any_open old ks) o) h.1)

  shut_stays : (ks : List ℕ) → any_open old ks ≡ false → any_open new ks ≡ false
  shut_stays [] o = refl
  shut_stays (k ∷ ks) o =
      let here : is_open (status_at old.statuses k) ≡ false = first_false (is_open (status_at old.statuses k)) (any_open old ks) o in
      ap (λ b. b || any_open new ks) (ap is_open (later.settled k here).0 ∙ here) ∙ shut_stays ks (second_false (is_open (status_at old.statuses k)) (any_open old ks) o)

  pub formed_stays : (work : Work) (ks : List ℕ) (a : Action) → IsFormed was old work ks a → IsFormed is new work ks a
  formed_stays work ks a f =
      record { may = record { summaries = f.may.summaries; have = summaries_there ks f.may.summaries f.may.have; make = f.may.make; is = f.may.is }; written = f.written; sized = f.sized }

  unformed_stays : (work : Work) (ks : List ℕ) → any_open old ks ≡ false → ((a : Action) → ¬ (MayForm was old work ks a)) → (a : Action) → ¬ (MayForm is new work ks a)
  unformed_stays work ks o none a m = none a (record { summaries = m.summaries; have = summaries_back ks m.summaries o m.have; make = m.make; is = m.is })

  pub act_stays : (o : Option Work) (ks : List ℕ) (a : Action) → IsReadiness was old o ks (Act a) → IsReadiness is new o ks (Act a)
  act_stays None ks a v = v
  act_stays (Some work) ks a v = formed_stays work ks a v

  pub stop_stays : (o : Option Work) (ks : List ℕ) → IsReadiness was old o ks Stop → IsReadiness is new o ks Stop
  stop_stays None ks v = v
  stop_stays (Some work) ks v = (shut_stays ks v.0, unformed_stays work ks v.0 v.1)

-- a job that stands otherwise than waiting still stands so, by what is held as before
pub stands_stays : (h : Holdings) (old new : JobStates) → Later h h old new → (o : Option Job) (s : JobStatus) (x : Option Action) → is_waiting s ≡ false → HasStatus h old o s x → HasStatus h new o s x
stands_stays h old new later None s x w st = st
stands_stays h old new later (Some job) s x w st = by_verdict st.0 st.1 st.2
  where
    by_verdict : (v : Readiness) → IsReadiness h old job.work job.imports v → Follows h v s x → HasStatus h new (Some job) s x
    by_verdict Wait v f = let c : true ≡ false = sym (ap is_waiting f.0) ∙ w in absurd (cc)
    by_verdict Stop v f = (Stop, stop_stays h h old new later job.work job.imports v, f)
    by_verdict (Act a) v f = (Act a, act_stays h h old new later job.work job.imports a v, f)
