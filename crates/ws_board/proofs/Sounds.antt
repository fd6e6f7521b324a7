-- Along a legal history each job stands as its imports say, and nothing is held for what is ready or runs.
use Rattle.std.proofs.Common.{◌≡◌, ◌⊎◌, ℕ, zero, suc, Bool, true, false, ◌||◌, cond, List, [], ◌∷◌, Option, Some, None, refl, sym, ap, ◌∙◌, subst, inl, inr}
use Rattle.std.specs.Prelude.{slice_set}
use Rattle.std.specs.List.{slice_get, list_any}
use Rattle.std.specs.Str.{bytes_eq}
use Rattle.std.proofs.lemmas.Slice.Eq.{bytes_eq-Decides}
use Rattle.ws_map.specs.Kept.{taken}
use Rattle.ws_action.specs.Actions.{Action, action_id}
use Rattle.ws_cache.specs.Joined.{lesser}
use Rattle.ws_board.specs.declared.work.JobStatus.{JobStatus}
use Rattle.ws_board.specs.declared.work.JobStatus.TheVariants.{Waiting, Ready, Running, Blocked, Done}
use Rattle.ws_board.specs.declared.work.Event.{Event}
use Rattle.ws_board.specs.declared.work.Event.TheVariants.{Take, Finish, Back, Idle}
use Rattle.ws_board.specs.Work.{Work, Job, JobStates, Opening, BoardState}
use Rattle.ws_board.specs.Machine.{Holdings, is_waiting, is_active, is_open, status_at, action_at, has_action_id, has_id, Readiness, Wait, Stop, Act, IsReadiness, IsGoodness, IsPlaced, Follows, HasStatus, Propagated, held, mark, IsMarked, stood, IsRunBy, Finishes, BoardStep, Replays, unopened, IsFirst, IsHistory}
use Rattle.ws_board.proofs.Grown.{Grows, grows}
use Rattle.ws_board.proofs.Later.{Later, act_stays, stop_stays}
use Rattle.ws_board.proofs.Carry.{shut_waits_not}

-- as its imports say; what is done has a result that is held
abbrev pub IsSound : Holdings → JobStates → Option Job → JobStatus → Option Action → Type 0
IsSound h now None status action = (status ≡ Blocked) × (action ≡ None)
IsSound h now (Some job) Waiting action = (action ≡ None) × IsReadiness h now job.work job.imports Wait
IsSound h now (Some job) Blocked action = (action ≡ None) × IsReadiness h now job.work job.imports Stop
IsSound h now (Some job) (Done good) action =
    (a : Action) × (action ≡ Some a) × IsReadiness h now job.work job.imports (Act a) × ((entry : Action) × (h (action_id a) ≡ Some entry) × IsGoodness entry good)
IsSound h now (Some job) Ready action = (a : Action) × (action ≡ Some a) × IsReadiness h now job.work job.imports (Act a)
IsSound h now (Some job) (Running hand) action = (a : Action) × (action ≡ Some a) × IsReadiness h now job.work job.imports (Act a)

-- each job stands as its imports say, and nothing is held for what is active
pub record Keeps (jobs : List Job) (h : Holdings) (now : JobStates) : Type 0 where
  pub sound : (k : ℕ) → IsSound h now (slice_get jobs k) (status_at now.statuses k) (action_at now.actions k)
  pub fresh : (k : ℕ) (a : Action) → is_active (status_at now.statuses k) ≡ true → action_at now.actions k ≡ Some a → h (action_id a) ≡ None

-- the same but for what waits, which has no action
pub record Half (jobs : List Job) (h : Holdings) (now : JobStates) : Type 0 where
  pub sound : (k : ℕ) → is_waiting (status_at now.statuses k) ≡ false → IsSound h now (slice_get jobs k) (status_at now.statuses k) (action_at now.actions k)
  pub bare : (k : ℕ) → is_waiting (status_at now.statuses k) ≡ true → action_at now.actions k ≡ None
  pub fresh : (k : ℕ) (a : Action) → is_active (status_at now.statuses k) ≡ true → action_at now.actions k ≡ Some a → h (action_id a) ≡ None

-- what is done has an action for which something is held
pub done_held : (h : Holdings) (now : JobStates) (o : Option Job) (s : JobStatus) (x : Option Action) (good : Bool) → IsSound h now o s x → s ≡ Done good → (a : Action) → x ≡ Some a → (entry : Action) × (h (action_id a) ≡ Some entry)
done_held h now None s x good sound is a its = let c : Blocked ≡ Done good = sym sound.0 ∙ is in absurd (cc)
done_held h now (Some job) (Done g) x good sound is a its =
    let same : sound.0 ≡ a = (let p : Some sound.0 ≡ Some a = sym sound.1 ∙ its in cc) in
    (sound.3.0, ap (λ z. h (action_id z)) (sym same) ∙ sound.3.1)
done_held h now (Some job) Waiting x good sound is a its = absurd (cc)
done_held h now (Some job) Ready x good sound is a its = absurd (cc)
done_held h now (Some job) (Running hand) x good sound is a its = absurd (cc)
done_held h now (Some job) Blocked x good sound is a its = absurd (cc)

pub waits_unformed : (h : Holdings) (now : JobStates) (o : Option Job) (s : JobStatus) (x : Option Action) → is_waiting s ≡ true → IsSound h now o s x → x ≡ None
waits_unformed h now None s x w sound = sound.1
waits_unformed h now (Some job) Waiting x w sound = sound.0
waits_unformed h now (Some job) Ready x w sound = absurd (cc)
waits_unformed h now (Some job) (Running hand) x w sound = absurd (cc)
waits_unformed h now (Some job) Blocked x w sound = absurd (cc)
waits_unformed h now (Some job) (Done good) x w sound = absurd (cc)

-- what doesn't wait stays sound
pub sound_stays : (was is : Holdings) (old new : JobStates) → Later was is old new → (o : Option Job) (s : JobStatus) (x : Option Action)
    → ((good : Bool) (a : Action) → s ≡ Done good → x ≡ Some a → is (action_id a) ≡ was (action_id a)) → is_waiting s ≡ false → IsSound was old o s x → IsSound is new o s x
sound_stays was is old new later None s x same w sound = sound
sound_stays was is old new later (Some job) Waiting x same w sound = absurd (cc)
sound_stays was is old new later (Some job) Blocked x same w sound = (sound.0, stop_stays was is old new later job.work job.imports sound.1)
sound_stays was is old new later (Some job) (Done good) x same w sound =
    (sound.0, sound.1, act_stays was is old new later job.work job.imports sound.0 sound.2, (sound.3.0, same good sound.0 refl sound.1 ∙ sound.3.1, sound.3.2))
sound_stays was is old new later (Some job) Ready x same w sound = (sound.0, sound.1, act_stays was is old new later job.work job.imports sound.0 sound.2)
sound_stays was is old new later (Some job) (Running hand) x same w sound = (sound.0, sound.1, act_stays was is old new later job.work job.imports sound.0 sound.2)

-- ---- carrying

-- a job that stands so is sound
pub stands_sound : (h : Holdings) (now : JobStates) (o : Option Job) (s : JobStatus) (x : Option Action) → HasStatus h now o s x → IsSound h now o s x
stands_sound h now None s x st = st
stands_sound h now (Some job) s x st = by_verdict st.0 st.1 st.2
  where
    placed : (a : Action) (p : Option Action) → h (action_id a) ≡ p → IsPlaced p s → x ≡ Some a → IsReadiness h now job.work job.imports (Act a) → IsSound h now (Some job) s x
    placed a None e p is v = subst (λ z. IsSound h now (Some job) z x) (sym p) (a, is, v)
    placed a (Some entry) e p is v = subst (λ z. IsSound h now (Some job) z x) (sym p.2) (a, is, v, (entry, e, p.1))

    by_verdict : (v : Readiness) → IsReadiness h now job.work job.imports v → Follows h v s x → IsSound h now (Some job) s x
    by_verdict Wait v f = subst (λ z. IsSound h now (Some job) z x) (sym f.0) (f.1, v)
    by_verdict Stop v f = subst (λ z. IsSound h now (Some job) z x) (sym f.0) (f.1, v)
    by_verdict (Act a) v f = placed a (h (action_id a)) refl f.0 f.1 v

-- what is placed as active has an id that nothing is held for
stands_fresh : (h : Holdings) (now : JobStates) (o : Option Job) (s : JobStatus) (x : Option Action) (a : Action) → HasStatus h now o s x → is_active s ≡ true → x ≡ Some a → h (action_id a) ≡ None
stands_fresh h now None s x a st active its = let c : true ≡ false = sym active ∙ ap is_active st.0 in absurd (cc)
stands_fresh h now (Some job) s x a st active its = by_verdict st.0 st.2
  where
    placed : (b : Action) (p : Option Action) → h (action_id b) ≡ p → IsPlaced p s → x ≡ Some b → h (action_id a) ≡ None
    placed b None e p is = let same : b ≡ a = (let q : Some b ≡ Some a = sym is ∙ its in cc) in ap (λ z. h (action_id z)) (sym same) ∙ e
    placed b (Some entry) e p is = let c : true ≡ false = sym active ∙ ap is_active p.2 in absurd (cc)

    by_verdict : (v : Readiness) → Follows h v s x → h (action_id a) ≡ None
    by_verdict Wait f = let c : true ≡ false = sym active ∙ ap is_active f.0 in absurd (cc)
    by_verdict Stop f = let c : true ≡ false = sym active ∙ ap is_active f.0 in absurd (cc)
    by_verdict (Act b) f = placed b (h (action_id b)) refl f.0 f.1

module _ (jobs : List Job) (h : Holdings) (old new : JobStates) (half : Half jobs h old) (c : Propagated jobs h old new) where
  carried_later : Later h h old new
  carried_later = record { settled = λ k shut. c.others k (shut_waits_not (status_at old.statuses k) shut); keeps = λ k good a done its. refl }

  sound_at : (k : ℕ) (b : Bool) → is_waiting (status_at old.statuses k) ≡ b → IsSound h new (slice_get jobs k) (status_at new.statuses k) (action_at new.actions k)
  sound_at k true e = stands_sound h new (slice_get jobs k) (status_at new.statuses k) (action_at new.actions k) (c.waiting k e)
  sound_at k false e =
      let here = sound_stays h h old new carried_later (slice_get jobs k) (status_at old.statuses k) (action_at old.actions k) (λ good a done its. refl) e (half.sound k e) in
      subst (λ a. IsSound h new (slice_get jobs k) (status_at new.statuses k) a) (sym (c.others k e).1) (subst (λ s. IsSound h new (slice_get jobs k) s (action_at old.actions k)) (sym (c.others k e).0) here)

  fresh_at : (k : ℕ) (a : Action) → is_active (status_at new.statuses k) ≡ true → action_at new.actions k ≡ Some a → (b : Bool) → is_waiting (status_at old.statuses k) ≡ b → h (action_id a) ≡ None
  fresh_at k a active its true e = stands_fresh h new (slice_get jobs k) (status_at new.statuses k) (action_at new.actions k) a (c.waiting k e) active its
  fresh_at k a active its false e = half.fresh k a (ap is_active (sym (c.others k e).0) ∙ active) (sym (c.others k e).1 ∙ its)

  pub carried_keeps : Keeps jobs h new
  carried_keeps = record { sound = λ k. sound_at k (is_waiting (status_at old.statuses k)) refl; fresh = λ k a active its. fresh_at k a active its (is_waiting (status_at old.statuses k)) refl }

-- ---- a job that is given or given back

set_at : (xs : List JobStatus) (j k : ℕ) (s : JobStatus) → (status_at (slice_set xs j s) k ≡ status_at xs k) ⊎ ((k ≡ j) × (status_at (slice_set xs j s) k ≡ s))
set_at [] j k s = inl refl
set_at (x ∷ xs) zero zero s = inr (refl, refl)
set_at (x ∷ xs) zero (suc k) s = inl refl
set_at (x ∷ xs) (suc j) zero s = inl refl
set_at (x ∷ xs) (suc j) (suc k) s = by_rest (set_at xs j k s)
  where
    by_rest : (status_at (slice_set xs j s) k ≡ status_at xs k) ⊎ ((k ≡ j) × (status_at (slice_set xs j s) k ≡ s))
        → (status_at (slice_set xs j s) k ≡ status_at xs k) ⊎ ((suc k ≡ suc j) × (status_at (slice_set xs j s) k ≡ s))
    by_rest (inl same) = inl same
    by_rest (inr here) = inr (ap suc here.0, here.1)

active_open : (s : JobStatus) → is_active s ≡ true → is_open s ≡ true
active_open Ready a = refl
active_open (Running hand) a = refl
active_open Waiting a = absurd (cc)
active_open Blocked a = absurd (cc)
active_open (Done good) a = absurd (cc)

any_true : (p q : ℕ → Bool) → ((k : ℕ) → p k ≡ true → q k ≡ true) → (ks : List ℕ) → list_any p ks ≡ true → list_any q ks ≡ true
any_true p q each [] h = absurd (cc)
any_true p q each (k ∷ ks) h = by_first (p k) (q k) refl (each k) (any_true p q each ks) h
  where
    by_first : (b c : Bool) → p k ≡ b → (p k ≡ true → c ≡ true) → (list_any p ks ≡ true → list_any q ks ≡ true) → (b || list_any p ks) ≡ true → (c || list_any q ks) ≡ true
    by_first true c e one rest h = ap (λ x. x || list_any q ks) (one e)
    by_first false true e one rest h = refl
    by_first false false e one rest h = rest h

-- ready or run is alike
active_alike : (h : Holdings) (now : JobStates) (o : Option Job) (s t : JobStatus) (x : Option Action) → is_active s ≡ true → is_active t ≡ true → IsSound h now o s x → IsSound h now o t x
active_alike h now None s t x p q sound = let c : true ≡ false = sym p ∙ ap is_active sound.0 in absurd (cc)
active_alike h now (Some job) Ready Ready x p q sound = sound
active_alike h now (Some job) Ready (Running hand) x p q sound = sound
active_alike h now (Some job) (Running hand) Ready x p q sound = sound
active_alike h now (Some job) (Running hand) (Running other) x p q sound = sound
active_alike h now (Some job) Ready Waiting x p q sound = absurd (cc)
active_alike h now (Some job) Ready Blocked x p q sound = absurd (cc)
active_alike h now (Some job) Ready (Done good) x p q sound = absurd (cc)
active_alike h now (Some job) (Running hand) Waiting x p q sound = absurd (cc)
active_alike h now (Some job) (Running hand) Blocked x p q sound = absurd (cc)
active_alike h now (Some job) (Running hand) (Done good) x p q sound = absurd (cc)
active_alike h now (Some job) Waiting t x p q sound = absurd (cc)
active_alike h now (Some job) Blocked t x p q sound = absurd (cc)
active_alike h now (Some job) (Done good) t x p q sound = absurd (cc)

module _ (jobs : List Job) (h : Holdings) (old : JobStates) (job : ℕ) (s : JobStatus) (was : is_active (status_at old.statuses job) ≡ true) (is : is_active s ≡ true) (keeps : Keeps jobs h old) where
  abbrev Placed : ℕ → Type 0
  Placed k = (status_at (slice_set old.statuses job s) k ≡ status_at old.statuses k) ⊎ ((k ≡ job) × (status_at (slice_set old.statuses job s) k ≡ s))

  active_here : (k : ℕ) → k ≡ job → is_active (status_at old.statuses k) ≡ true
  active_here k e = ap (λ i. is_active (status_at old.statuses i)) e ∙ was

  open_there : (k : ℕ) → Placed k → is_open (status_at old.statuses k) ≡ true → is_open (status_at (stood old job s).statuses k) ≡ true
  open_there k (inl same) o = ap is_open same ∙ o
  open_there k (inr here) o = ap is_open here.1 ∙ active_open s is

  settled_there : (k : ℕ) → Placed k → is_open (status_at old.statuses k) ≡ false → status_at (slice_set old.statuses job s) k ≡ status_at old.statuses k
  settled_there k (inl same) shut = same
  settled_there k (inr here) shut = let c : true ≡ false = sym (active_open (status_at old.statuses k) (active_here k here.0)) ∙ shut in absurd (cc)

  stood_later : Later h h old (stood old job s)
  stood_later = record { settled = λ k shut. (settled_there k (set_at old.statuses job k s) shut, refl); keeps = λ k good a done its. refl }

  waits_still : (o : Option Work) (ks : List ℕ) → IsReadiness h old o ks Wait → IsReadiness h (stood old job s) o ks Wait
  waits_still None ks v = v
  waits_still (Some work) ks v = any_true (λ k. is_open (status_at old.statuses k)) (λ k. is_open (status_at (stood old job s).statuses k)) (λ k. open_there k (set_at old.statuses job k s)) ks v

  stays_sound : (o : Option Job) (t : JobStatus) (x : Option Action) → IsSound h old o t x → IsSound h (stood old job s) o t x
  stays_sound None t x sound = sound
  stays_sound (Some j) Waiting x sound = (sound.0, waits_still j.work j.imports sound.1)
  stays_sound (Some j) Ready x sound = sound_stays h h old (stood old job s) stood_later (Some j) Ready x (λ good a done its. refl) refl sound
  stays_sound (Some j) (Running hand) x sound = sound_stays h h old (stood old job s) stood_later (Some j) (Running hand) x (λ good a done its. refl) refl sound
  stays_sound (Some j) Blocked x sound = sound_stays h h old (stood old job s) stood_later (Some j) Blocked x (λ good a done its. refl) refl sound
  stays_sound (Some j) (Done good) x sound = sound_stays h h old (stood old job s) stood_later (Some j) (Done good) x (λ good a done its. refl) refl sound

  sound_there : (k : ℕ) → Placed k → IsSound h (stood old job s) (slice_get jobs k) (status_at (slice_set old.statuses job s) k) (action_at old.actions k)
  sound_there k (inl same) =
      subst (λ z. IsSound h (stood old job s) (slice_get jobs k) z (action_at old.actions k)) (sym same) (stays_sound (slice_get jobs k) (status_at old.statuses k) (action_at old.actions k) (keeps.sound k))
  sound_there k (inr here) =
      subst (λ z. IsSound h (stood old job s) (slice_get jobs k) z (action_at old.actions k)) (sym here.1)
      (active_alike h (stood old job s) (slice_get jobs k) (status_at old.statuses k) s (action_at old.actions k) (active_here k here.0) is
      (stays_sound (slice_get jobs k) (status_at old.statuses k) (action_at old.actions k) (keeps.sound k)))

  active_before : (k : ℕ) → Placed k → is_active (status_at (slice_set old.statuses job s) k) ≡ true → is_active (status_at old.statuses k) ≡ true
  active_before k (inl same) active = ap is_active (sym same) ∙ active
  active_before k (inr here) active = active_here k here.0

  pub stood_keeps : Keeps jobs h (stood old job s)
  stood_keeps = record { sound = λ k. sound_there k (set_at old.statuses job k s); fresh = λ k a active its. keeps.fresh k a (active_before k (set_at old.statuses job k s) active) its }

-- ---- jobs that are marked

mark_shut : (actions : List (Option Action)) (id : List ℕ) (good : Bool) (k : ℕ) (s : JobStatus) → is_active s ≡ false → mark actions id good k s ≡ s
mark_shut actions id good k Waiting a = refl
mark_shut actions id good k Blocked a = refl
mark_shut actions id good k (Done g) a = refl
mark_shut actions id good k Ready a = absurd (cc)
mark_shut actions id good k (Running hand) a = absurd (cc)

shut_idle : (s : JobStatus) → is_open s ≡ false → is_active s ≡ false
shut_idle Blocked o = refl
shut_idle (Done g) o = refl
shut_idle Waiting o = absurd (cc)
shut_idle Ready o = absurd (cc)
shut_idle (Running hand) o = absurd (cc)

-- an active job is done, if it has the id, and stands as it did, if it has another
abbrev pub IsByMark : List (Option Action) → List ℕ → Bool → ℕ → JobStatus → Type 0
IsByMark actions id good k s =
    ((mark actions id good k s ≡ Done good) × ((a : Action) → action_at actions k ≡ Some a → action_id a ≡ id))
    ⊎ ((mark actions id good k s ≡ s) × ((a : Action) → action_at actions k ≡ Some a → action_id a ≡ id → ⊥))

by_mark : (actions : List (Option Action)) (id : List ℕ) (good : Bool) (k : ℕ) (s : JobStatus) → is_active s ≡ true → IsByMark actions id good k s
by_mark actions id good k s active = by_id (has_id actions id k) refl
  where
    same_id : (a : Action) → action_at actions k ≡ Some a → has_id actions id k ≡ bytes_eq (action_id a) id
    same_id a e = ap (has_action_id id) e

    chosen : (b : Bool) (s : JobStatus) → is_active s ≡ true → has_id actions id k ≡ b → mark actions id good k s ≡ cond b (Done good) s
    chosen b Ready active e = ap (λ c. cond c (Done good) Ready) e
    chosen b (Running hand) active e = ap (λ c. cond c (Done good) (Running hand)) e
    chosen b Waiting active e = absurd (cc)
    chosen b Blocked active e = absurd (cc)
    chosen b (Done g) active e = absurd (cc)

    by_id : (b : Bool) → has_id actions id k ≡ b → IsByMark actions id good k s
    by_id true e = inl (chosen true s active e, λ a at. (bytes_eq-Decides (action_id a) id).0 (sym (same_id a at) ∙ e))
    by_id false e = inr (chosen false s active e, λ a at same. let c : false ≡ true = sym e ∙ same_id a at ∙ (bytes_eq-Decides (action_id a) id).1 same in cc)

module _ (jobs : List Job) (was is : Holdings) (id : List ℕ) (entry : Action) (good : Bool) (grown : Grows was is id entry) (goodness : IsGoodness entry good)
    (old marked : JobStates) (marks : IsMarked id good old marked) (keeps : Keeps jobs was old) where
  same_actions : (k : ℕ) → action_at marked.actions k ≡ action_at old.actions k
  same_actions k = ap (λ l. action_at l k) marks.actions

  done_same : (k : ℕ) (g : Bool) (a : Action) → status_at old.statuses k ≡ Done g → action_at old.actions k ≡ Some a → is (action_id a) ≡ was (action_id a)
  done_same k g a done its =
      let has = done_held was old (slice_get jobs k) (status_at old.statuses k) (action_at old.actions k) g (keeps.sound k) done a its in
      grown.others (action_id a) (λ same. let c : Some has.0 ≡ None = sym has.1 ∙ ap was same ∙ grown.before in cc)

  pub marked_later : Later was is old marked
  marked_later = record { settled = λ k shut. (marks.each k ∙ mark_shut old.actions id good k (status_at old.statuses k) (shut_idle (status_at old.statuses k) shut), same_actions k); keeps = done_same }

  -- what was active and is done is sound
  done_sound : (o : Option Job) (s : JobStatus) (x : Option Action) → is_active s ≡ true → ((a : Action) → x ≡ Some a → action_id a ≡ id) → IsSound is marked o s x → IsSound is marked o (Done good) x
  done_sound None s x active same sound = let c : true ≡ false = sym active ∙ ap is_active sound.0 in absurd (cc)
  done_sound (Some j) Ready x active same sound = (sound.0, sound.1, sound.2, (entry, ap is (same sound.0 sound.1) ∙ grown.here, goodness))
  done_sound (Some j) (Running hand) x active same sound = (sound.0, sound.1, sound.2, (entry, ap is (same sound.0 sound.1) ∙ grown.here, goodness))
  done_sound (Some j) Waiting x active same sound = absurd (cc)
  done_sound (Some j) Blocked x active same sound = absurd (cc)
  done_sound (Some j) (Done g) x active same sound = absurd (cc)

  abbrev SoundAt : ℕ → JobStatus → Type 0
  SoundAt k z = IsSound is marked (slice_get jobs k) z (action_at old.actions k)

  moved : (k : ℕ) (s : JobStatus) → status_at old.statuses k ≡ s → is_waiting s ≡ false → SoundAt k s
  moved k s e w =
      subst (SoundAt k) e
      (sound_stays was is old marked marked_later (slice_get jobs k) (status_at old.statuses k) (action_at old.actions k) (done_same k) (ap is_waiting e ∙ w) (keeps.sound k))

  active_marked : (k : ℕ) (s : JobStatus) → status_at old.statuses k ≡ s → is_active s ≡ true → is_waiting s ≡ false → IsByMark old.actions id good k s → SoundAt k (mark old.actions id good k s)
  active_marked k s e active w (inl done) = subst (SoundAt k) (sym done.0) (done_sound (slice_get jobs k) s (action_at old.actions k) active done.1 (moved k s e w))
  active_marked k s e active w (inr same) = subst (SoundAt k) (sym same.0) (moved k s e w)

  sound_marked : (k : ℕ) (s : JobStatus) → status_at old.statuses k ≡ s → is_waiting (mark old.actions id good k s) ≡ false → SoundAt k (mark old.actions id good k s)
  sound_marked k Waiting e w = absurd (cc)
  sound_marked k Blocked e w = moved k Blocked e refl
  sound_marked k (Done g) e w = moved k (Done g) e refl
  sound_marked k Ready e w = active_marked k Ready e refl refl (by_mark old.actions id good k Ready refl)
  sound_marked k (Running hand) e w = active_marked k (Running hand) e refl refl (by_mark old.actions id good k (Running hand) refl)

  active_waits_not : (k : ℕ) (s : JobStatus) → is_waiting s ≡ false → IsByMark old.actions id good k s → is_waiting (mark old.actions id good k s) ≡ true → is_waiting s ≡ true
  active_waits_not k s w (inl done) h = let c : false ≡ true = ap is_waiting (sym done.0) ∙ h in absurd (cc)
  active_waits_not k s w (inr same) h = ap is_waiting (sym same.0) ∙ h

  waited : (k : ℕ) (s : JobStatus) → is_waiting (mark old.actions id good k s) ≡ true → is_waiting s ≡ true
  waited k Waiting h = refl
  waited k Blocked h = h
  waited k (Done g) h = h
  waited k Ready h = active_waits_not k Ready refl (by_mark old.actions id good k Ready refl) h
  waited k (Running hand) h = active_waits_not k (Running hand) refl (by_mark old.actions id good k (Running hand) refl) h

  fresh_by : (k : ℕ) (a : Action) (s : JobStatus) → status_at old.statuses k ≡ s → is_active s ≡ true → IsByMark old.actions id good k s → is_active (mark old.actions id good k s) ≡ true → action_at old.actions k ≡ Some a → is (action_id a) ≡ None
  fresh_by k a s e active (inl done) h at = let c : false ≡ true = ap is_active (sym done.0) ∙ h in absurd (cc)
  fresh_by k a s e active (inr same) h at = grown.others (action_id a) (same.1 a at) ∙ keeps.fresh k a (ap is_active e ∙ active) at

  fresh_marked : (k : ℕ) (a : Action) (s : JobStatus) → status_at old.statuses k ≡ s → is_active (mark old.actions id good k s) ≡ true → action_at old.actions k ≡ Some a → is (action_id a) ≡ None
  fresh_marked k a Waiting e h at = absurd (cc)
  fresh_marked k a Blocked e h at = absurd (cc)
  fresh_marked k a (Done g) e h at = absurd (cc)
  fresh_marked k a Ready e h at = fresh_by k a Ready e refl (by_mark old.actions id good k Ready refl) h at
  fresh_marked k a (Running hand) e h at = fresh_by k a (Running hand) e refl (by_mark old.actions id good k (Running hand) refl) h at

  pub half_marked : Half jobs is marked
  half_marked =
      record {
        sound = λ k w.
            subst (λ x. IsSound is marked (slice_get jobs k) (status_at marked.statuses k) x) (sym (same_actions k))
            (subst (SoundAt k) (sym (marks.each k)) (sound_marked k (status_at old.statuses k) refl (ap is_waiting (sym (marks.each k)) ∙ w)));
        bare = λ k w. same_actions k ∙ waits_unformed was old (slice_get jobs k) (status_at old.statuses k) (action_at old.actions k) (waited k (status_at old.statuses k) (ap is_waiting (sym (marks.each k)) ∙ w)) (keeps.sound k);
        fresh = λ k a h at. fresh_marked k a (status_at old.statuses k) refl (ap is_active (sym (marks.each k)) ∙ h) (sym (same_actions k) ∙ at);
      }

-- ---- histories

abbrev pub KeepsIn : Opening → BoardState → Type 0
KeepsIn op now = Keeps op.jobs (held op now) now.standings

-- for the id of a job that runs nothing is held
pub running_unheld : (op : Opening) (now : BoardState) (hand j : ℕ) (a : Action) → KeepsIn op now → IsRunBy now.standings hand j a → held op now (action_id a) ≡ None
running_unheld op now hand j a keeps run = keeps.fresh j a (ap is_active run.runs) run.its

pub finish_grows : (op : Opening) (old : BoardState) (hand j : ℕ) (a e : Action) (new : BoardState) → KeepsIn op old → Finishes op old hand j a e new → Grows (held op old) (held op new) (action_id a) e
finish_grows op old hand j a e new keeps fin =
    grows op old new (action_id a) e (subst (λ i. new.added ≡ taken lesser old.added i e) fin.fits fin.joins) (running_unheld op old hand j a keeps fin.run)

pub finish_half : (op : Opening) (old : BoardState) (hand j : ℕ) (a e : Action) (new : BoardState) → KeepsIn op old → (fin : Finishes op old hand j a e new) → Half op.jobs (held op new) fin.marked
finish_half op old hand j a e new keeps fin = half_marked op.jobs (held op old) (held op new) (action_id a) e fin.good (finish_grows op old hand j a e new keeps fin) fin.goodness old.standings fin.marked fin.marks keeps

pub step_keeps : (op : Opening) (old : BoardState) (event : Event) (new : BoardState) → BoardStep op old event new → KeepsIn op old → KeepsIn op new
step_keeps op old (Take hand job) new s keeps = subst (KeepsIn op) (sym s.2) (stood_keeps op.jobs (held op old) old.standings job (Running hand) (ap is_active s.1.ready) refl keeps)
step_keeps op old (Back hand job) new s keeps = subst (KeepsIn op) (sym s.2) (stood_keeps op.jobs (held op old) old.standings job Ready (ap is_active s.1.runs) refl keeps)
step_keeps op old (Idle hand) new s keeps = subst (KeepsIn op) (sym s.1) keeps
step_keeps op old (Finish hand job) new s keeps = carried_keeps op.jobs (held op new) s.2.marked new.standings (finish_half op old hand job s.0 s.1 new keeps s.2) s.2.carried

-- what is settled stays so
abbrev pub Settles : JobStates → JobStates → Type 0
Settles old new = (k : ℕ) → is_open (status_at old.statuses k) ≡ false → (status_at new.statuses k ≡ status_at old.statuses k) × (action_at new.actions k ≡ action_at old.actions k)

pub step_settled : (op : Opening) (old : BoardState) (event : Event) (new : BoardState) → KeepsIn op old → BoardStep op old event new → Settles old.standings new.standings
step_settled op old (Take hand job) new keeps s =
    subst (λ (z : BoardState). Settles old.standings z.standings) (sym s.2) (stood_later op.jobs (held op old) old.standings job (Running hand) (ap is_active s.1.ready) refl keeps).settled
step_settled op old (Back hand job) new keeps s =
    subst (λ (z : BoardState). Settles old.standings z.standings) (sym s.2) (stood_later op.jobs (held op old) old.standings job Ready (ap is_active s.1.runs) refl keeps).settled
step_settled op old (Idle hand) new keeps s = subst (λ (z : BoardState). Settles old.standings z.standings) (sym s.1) (λ k shut. (refl, refl))
step_settled op old (Finish hand job) new keeps s = λ k shut. (
    let fin = s.2 in
    let one = (marked_later op.jobs (held op old) (held op new) (action_id s.0) s.1 fin.good (finish_grows op old hand job s.0 s.1 new keeps fin) fin.goodness old.standings fin.marked fin.marks keeps).settled k shut in
    let two = fin.carried.others k (shut_waits_not (status_at fin.marked.statuses k) (ap is_open one.0 ∙ shut)) in
    (two.0 ∙ one.0, two.1 ∙ one.1))

pub replays_keep : (op : Opening) (events : List Event) (old new : BoardState) → Replays op old events new → KeepsIn op old → KeepsIn op new
replays_keep op [] old new r keeps = subst (KeepsIn op) (sym r) keeps
replays_keep op (event ∷ events) old new r keeps = replays_keep op events r.0 new r.2 (step_keeps op old event r.0 r.1 keeps)

-- ---- the opening

bare_at : (jobs : List Job) (k : ℕ) → action_at (unopened jobs).actions k ≡ None
bare_at [] k = refl
bare_at (job ∷ jobs) zero = refl
bare_at (job ∷ jobs) (suc k) = bare_at jobs k

idle_at : (jobs : List Job) (k : ℕ) → is_active (status_at (unopened jobs).statuses k) ≡ false
idle_at [] k = refl
idle_at (job ∷ jobs) zero = refl
idle_at (job ∷ jobs) (suc k) = idle_at jobs k

past_at : (h : Holdings) (now : JobStates) (jobs : List Job) (k : ℕ) → is_waiting (status_at (unopened jobs).statuses k) ≡ false → IsSound h now (slice_get jobs k) (status_at (unopened jobs).statuses k) (action_at (unopened jobs).actions k)
past_at h now [] k w = (refl, refl)
past_at h now (job ∷ jobs) zero w = absurd (cc)
past_at h now (job ∷ jobs) (suc k) w = past_at h now jobs k w

half_unopened : (jobs : List Job) (h : Holdings) → Half jobs h (unopened jobs)
half_unopened jobs h =
    record { sound = λ k w. past_at h (unopened jobs) jobs k w; bare = λ k w. bare_at jobs k; fresh = λ k a active its. let c : true ≡ false = sym active ∙ idle_at jobs k in absurd (cc) }

pub first_keeps : (op : Opening) (first : BoardState) → IsFirst op first → KeepsIn op first
first_keeps op first f = carried_keeps op.jobs (held op first) (unopened op.jobs) first.standings (half_unopened op.jobs (held op first)) f.carried

pub history_keeps : (op : Opening) (events : List Event) (now : BoardState) → IsHistory op events now → KeepsIn op now
history_keeps op events now h = replays_keep op events h.first now h.replays (first_keeps op h.first h.begins)
