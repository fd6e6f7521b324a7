-- In a legal history one job at most runs an id, and an id that was taken is taken again only where it was given back.
use Rattle.std.proofs.Common.{◌≡◌, ℕ, Bool, true, false, ◌&&◌, ◌||◌, ◌⊎◌, List, [], ◌∷◌, ◌++◌, Option, Some, None, refl, sym, ap, ◌∙◌, subst, inl, inr, get_or-set_other, get_or-set_same}
use Rattle.std.specs.Prelude.{if◌then◌else◌}
use Rattle.std.specs.List.{list_any}
use Rattle.std.specs.Str.{bytes_eq}
use Rattle.std.proofs.Math.ListN.{set}
use Rattle.std.proofs.lemmas.Bool.{cases_eq}
use Rattle.std.proofs.lemmas.Slice.Eq.{bytes_eq-Decides}
use Rattle.ws_action.specs.Actions.{Action, action_id}
use Rattle.ws_board.specs.declared.work.JobStatus.{JobStatus}
use Rattle.ws_board.specs.declared.work.JobStatus.TheVariants.{Waiting, Ready, Running, Blocked, Done}
use Rattle.ws_board.specs.declared.work.Event.{Event}
use Rattle.ws_board.specs.declared.work.Event.TheVariants.{Take, Finish, Back, Idle}
use Rattle.ws_board.specs.Work.{JobStates, Opening, BoardState, Seen}
use Rattle.ws_board.specs.Machine.{is_running, is_waiting, is_active, status_at, action_at, has_action_id, has_id, held, is_run_of, IsFree, Finishes, BoardStep, Replays, IsFirst, IsHistory, is_idle}
use Rattle.ws_board.specs.Histories.{AreSettled, RunsAlone, is_back_with, IsTakenOnce}
use Rattle.ws_board.proofs.Carry.{waiting_or}
use Rattle.ws_board.proofs.Idle.{after_idle, all_settled}
use Rattle.ws_board.proofs.Runs.{inside_of, carried_ran, mark_ran, opening_rests, counted_none}
use Rattle.ws_board.proofs.Sounds.{KeepsIn, finish_grows, finish_half, step_keeps, replays_keep, first_keeps, history_keeps}

both : (a b : Bool) → (a && b) ≡ true → (a ≡ true) × (b ≡ true)
both true b h = (refl, h)
both false b h = absurd (cc)

both_back : (a b : Bool) → a ≡ true → b ≡ true → (a && b) ≡ true
both_back true b e f = f
both_back false b e f = absurd (cc)

id_of : (o : Option Action) (id : List ℕ) → has_action_id id o ≡ true → (a : Action) × (o ≡ Some a) × (action_id a ≡ id)
id_of None id h = absurd (cc)
id_of (Some a) id h = (a, refl, (bytes_eq-Decides (action_id a) id).0 h)

same_action : (o : Option Action) (a b : Action) → o ≡ Some a → o ≡ Some b → a ≡ b
same_action None a b e f = absurd (cc)
same_action (Some x) a b e f = cc

-- the id of an action that is there
its_id : (actions : List (Option Action)) (id : List ℕ) (k : ℕ) (a : Action) → action_at actions k ≡ Some a → has_id actions id k ≡ true → action_id a ≡ id
its_id actions id k a its h =
    let r = id_of (action_at actions k) id h in
    ap action_id (same_action (action_at actions k) a r.0 its r.1) ∙ r.2

-- ---- an action that is formed stays

step_its : (op : Opening) (old : BoardState) (event : Event) (new : BoardState) → BoardStep op old event new → KeepsIn op old → (k : ℕ) (a : Action) → action_at old.standings.actions k ≡ Some a → action_at new.standings.actions k ≡ Some a
step_its op old (Take hand j) new s keeps k a e = ap (λ (z : BoardState). action_at z.standings.actions k) s.2 ∙ e
step_its op old (Back hand j) new s keeps k a e = ap (λ (z : BoardState). action_at z.standings.actions k) s.2 ∙ e
step_its op old (Idle hand) new s keeps k a e = ap (λ (z : BoardState). action_at z.standings.actions k) s.1 ∙ e
step_its op old (Finish hand j) new s keeps k a e =
    let fin = s.2 in
    let mid : action_at fin.marked.actions k ≡ Some a = ap (λ l. action_at l k) fin.marks.actions ∙ e in
    elim (waiting_or (status_at fin.marked.statuses k)) [
      | inl w ↦ (let c : None ≡ Some a = sym ((finish_half op old hand j s.0 s.1 new keeps fin).bare k w) ∙ mid in absurd (cc))
      | inr w ↦ (fin.carried.others k w).1 ∙ mid
    ]

replays_its : (op : Opening) (events : List Event) (old new : BoardState) → Replays op old events new → KeepsIn op old → (k : ℕ) (a : Action) → action_at old.standings.actions k ≡ Some a → action_at new.standings.actions k ≡ Some a
replays_its op [] old new r keeps k a e = ap (λ (z : BoardState). action_at z.standings.actions k) r ∙ e
replays_its op (event ∷ events) old new (mid, s, r) keeps k a e = replays_its op events mid new r (step_keeps op old event mid s keeps) k a (step_its op old event mid s keeps k a e)

-- ---- what runs after a step ran before, but for the job that was taken

finish_ran : (op : Opening) (old : BoardState) (hand j : ℕ) (a e : Action) (new : BoardState) → Finishes op old hand j a e new → (id : List ℕ) (k : ℕ) → is_run_of new.standings id k ≡ true → is_run_of old.standings id k ≡ true
finish_ran op old hand j a e new fin id k r =
    let now = both (is_running (status_at new.standings.statuses k)) (has_id new.standings.actions id k) r in
    let ran : is_running (status_at fin.marked.statuses k) ≡ true = carried_ran op.jobs (held op new) fin.marked new.standings fin.carried k now.0 in
    both_back (is_running (status_at old.standings.statuses k)) (has_id old.standings.actions id k) (mark_ran (action_id a) fin.good old.standings fin.marked fin.marks k ran)
    (ap (λ l. has_id l id k) (sym fin.marks.actions) ∙ ap (has_action_id id) (sym (fin.carried.others k (not_waiting (status_at fin.marked.statuses k) ran)).1) ∙ now.1)
  where
    not_waiting : (s : JobStatus) → is_running s ≡ true → is_waiting s ≡ false
    not_waiting Waiting h = absurd (cc)
    not_waiting Ready h = refl
    not_waiting (Running hand) h = refl
    not_waiting Blocked h = refl
    not_waiting (Done good) h = refl

back_ran : (xs : List JobStatus) (hand j k : ℕ) → status_at xs j ≡ Running hand → is_running (status_at (set xs j Ready) k) ≡ true → is_running (status_at xs k) ≡ true
back_ran xs hand j k was h = elim (cases_eq k j) [
  | inl e ↦ (let c : false ≡ true = ap is_running (sym (ap (status_at (set xs j Ready)) e ∙ get_or-set_same xs j Ready Blocked (inside_of xs j (Running hand) was refl))) ∙ h in absurd (cc))
  | inr ne ↦ ap is_running (sym (get_or-set_other xs j k Ready Blocked ne)) ∙ h
]

take_ran : (xs : List JobStatus) (hand j k : ℕ) → is_running (status_at (set xs j (Running hand)) k) ≡ true → (k ≡ j) ⊎ (is_running (status_at xs k) ≡ true)
take_ran xs hand j k h = elim (cases_eq k j) [
  | inl e ↦ inl e
  | inr ne ↦ inr (ap is_running (sym (get_or-set_other xs j k (Running hand) Blocked ne)) ∙ h)
]

still_runs : (xs : List JobStatus) (hand j k : ℕ) → status_at xs j ≡ Ready → is_running (status_at xs k) ≡ true → is_running (status_at (set xs j (Running hand)) k) ≡ true
still_runs xs hand j k was h = elim (cases_eq k j) [
  | inl e ↦ (let c : false ≡ true = ap is_running (sym (ap (status_at xs) e ∙ was)) ∙ h in absurd (cc))
  | inr ne ↦ ap is_running (get_or-set_other xs j k (Running hand) Blocked ne) ∙ h
]

-- ---- one job at most runs an id

abbrev AreAlone : JobStates → Type 0
AreAlone now = (id : List ℕ) (j k : ℕ) → is_run_of now id j ≡ true → is_run_of now id k ≡ true → j ≡ k

-- a job that may be given has no id that is run
free_apart : (now : JobStates) (j : ℕ) (a : Action) → IsFree now j a → (id : List ℕ) → has_id now.actions id j ≡ true → (k : ℕ) → is_run_of now id k ≡ true → ⊥
free_apart now j a free id has k r =
    let c : false ≡ true = sym (free.apart k) ∙ ap (λ i. is_run_of now i k) (its_id now.actions id j a free.its has) ∙ r in cc

taken_alone : (now : JobStates) (hand j : ℕ) (a : Action) → IsFree now j a → AreAlone now → AreAlone (record { statuses = set now.statuses j (Running hand); actions = now.actions })
taken_alone now hand j a free alone id i k r s =
    let one = both (is_running (status_at (set now.statuses j (Running hand)) i)) (has_id now.actions id i) r in
    let two = both (is_running (status_at (set now.statuses j (Running hand)) k)) (has_id now.actions id k) s in
    by_cases one.1 two.1 (take_ran now.statuses hand j i one.0) (take_ran now.statuses hand j k two.0)
  where
    by_cases : has_id now.actions id i ≡ true → has_id now.actions id k ≡ true → (i ≡ j) ⊎ (is_running (status_at now.statuses i) ≡ true) → (k ≡ j) ⊎ (is_running (status_at now.statuses k) ≡ true) → i ≡ k
    by_cases hi hk (inl e) (inl f) = e ∙ sym f
    by_cases hi hk (inl e) (inr f) = absurd (free_apart now j a free id (ap (has_id now.actions id) (sym e) ∙ hi) k (both_back (is_running (status_at now.statuses k)) (has_id now.actions id k) f hk))
    by_cases hi hk (inr e) (inl f) = absurd (free_apart now j a free id (ap (has_id now.actions id) (sym f) ∙ hk) i (both_back (is_running (status_at now.statuses i)) (has_id now.actions id i) e hi))
    by_cases hi hk (inr e) (inr f) =
        alone id i k (both_back (is_running (status_at now.statuses i)) (has_id now.actions id i) e hi) (both_back (is_running (status_at now.statuses k)) (has_id now.actions id k) f hk)

fewer_alone : (old new : JobStates) → ((id : List ℕ) (k : ℕ) → is_run_of new id k ≡ true → is_run_of old id k ≡ true) → AreAlone old → AreAlone new
fewer_alone old new ran alone id j k r s = alone id j k (ran id j r) (ran id k s)

alone_step : (op : Opening) (old : BoardState) (event : Event) (new : BoardState) → BoardStep op old event new → AreAlone old.standings → AreAlone new.standings
alone_step op old (Take hand j) new s alone = subst (λ (z : BoardState). AreAlone z.standings) (sym s.2) (taken_alone old.standings hand j s.0 s.1 alone)
alone_step op old (Finish hand j) new s alone = fewer_alone old.standings new.standings (finish_ran op old hand j s.0 s.1 new s.2) alone
alone_step op old (Back hand j) new s alone =
    subst (λ (z : BoardState). AreAlone z.standings) (sym s.2) (fewer_alone old.standings (record { statuses = set old.standings.statuses j Ready; actions = old.standings.actions }) (λ id k r. (
    let now = both (is_running (status_at (set old.standings.statuses j Ready) k)) (has_id old.standings.actions id k) r in
    both_back (is_running (status_at old.standings.statuses k)) (has_id old.standings.actions id k) (back_ran old.standings.statuses hand j k s.1.runs now.0) now.1)) alone)
alone_step op old (Idle hand) new s alone = subst (λ (z : BoardState). AreAlone z.standings) (sym s.1) alone

replays_alone : (op : Opening) (events : List Event) (old new : BoardState) → Replays op old events new → AreAlone old.standings → AreAlone new.standings
replays_alone op [] old new r alone = subst (λ (z : BoardState). AreAlone z.standings) (sym r) alone
replays_alone op (event ∷ events) old new (mid, s, r) alone = replays_alone op events mid new r (alone_step op old event mid s alone)

first_alone : (op : Opening) (first : BoardState) → IsFirst op first → AreAlone first.standings
first_alone op first f id j k r s =
    absurd (counted_none first.standings.statuses (opening_rests op.jobs (held op first) first.standings f.carried) j (both (is_running (status_at first.standings.statuses j)) (has_id first.standings.actions id j) r).0)

pub history_alone : (op : Opening) (events : List Event) (now : BoardState) → IsHistory op events now → RunsAlone now.standings
history_alone op events now h = record { one = replays_alone op events h.first now h.replays (first_alone op h.first h.begins) }

-- ---- an id that was taken

-- a worker runs the id, or something is held for it
abbrev IsKept : Opening → BoardState → List ℕ → Type 0
IsKept op now id = ((k : ℕ) × (is_run_of now.standings id k ≡ true)) ⊎ ((e : Action) × (held op now id ≡ Some e))

stood_kept : (op : Opening) (old : BoardState) (j : ℕ) (s : JobStatus) (id : List ℕ) → ((k : ℕ) → is_run_of old.standings id k ≡ true → is_running (status_at (set old.standings.statuses j s) k) ≡ true) → IsKept op old id
    → IsKept op (record { standings = record { statuses = set old.standings.statuses j s; actions = old.standings.actions }; added = old.added }) id
stood_kept op old j s id still (inl (k, r)) =
    inl (k, both_back (is_running (status_at (set old.standings.statuses j s) k)) (has_id old.standings.actions id k) (still k r) (both (is_running (status_at old.standings.statuses k)) (has_id old.standings.actions id k) r).1)
stood_kept op old j s id still (inr e) = inr e

finish_kept : (op : Opening) (old : BoardState) (hand j : ℕ) (a e : Action) (new : BoardState) → KeepsIn op old → Finishes op old hand j a e new → (id : List ℕ) → (b : Bool) → bytes_eq (action_id a) id ≡ b → IsKept op old id → IsKept op new id
finish_kept op old hand j a e new keeps fin id true is kept =
    inr (e, ap (held op new) (sym ((bytes_eq-Decides (action_id a) id).0 is)) ∙ (finish_grows op old hand j a e new keeps fin).here)
finish_kept op old hand j a e new keeps fin id false is (inr (x, h)) =
    inr (x, (finish_grows op old hand j a e new keeps fin).others id (λ same. let c : true ≡ false = sym ((bytes_eq-Decides (action_id a) id).1 (sym same)) ∙ is in cc) ∙ h)
finish_kept op old hand j a e new keeps fin id false is (inl (k, r)) =
    let was = both (is_running (status_at old.standings.statuses k)) (has_id old.standings.actions id k) r in
    let b = id_of (action_at old.standings.actions k) id was.1 in
    let apart : has_id old.standings.actions (action_id a) k ≡ false = not_true (has_id old.standings.actions (action_id a) k) (λ has. (
    let same : action_id b.0 ≡ action_id a = its_id old.standings.actions (action_id a) k b.0 b.1 has in
    let c : true ≡ false = sym ((bytes_eq-Decides (action_id a) id).1 (sym same ∙ b.2)) ∙ is in cc)) in
    let mid : status_at fin.marked.statuses k ≡ status_at old.standings.statuses k = fin.marks.each k ∙ unmarked (is_active (status_at old.standings.statuses k)) (has_id old.standings.actions (action_id a) k) fin.good (status_at old.standings.statuses k) apart in
    let same = fin.carried.others k (runs_on (status_at fin.marked.statuses k) (ap is_running mid ∙ was.0)) in
    inl (
      k,
      both_back (is_running (status_at new.standings.statuses k)) (has_id new.standings.actions id k) (ap is_running (same.0 ∙ mid) ∙ was.0)
          (ap (has_action_id id) same.1 ∙ ap (λ l. has_id l id k) fin.marks.actions ∙ was.1),
    )
  where
    not_true : (b : Bool) → (b ≡ true → ⊥) → b ≡ false
    not_true true h = absurd (h refl)
    not_true false h = refl

    unmarked : (x y good : Bool) (s : JobStatus) → y ≡ false → (if x && y then Done good else s) ≡ s
    unmarked true y good s e = ap (λ b. if b then Done good else s) e
    unmarked false y good s e = refl

    runs_on : (s : JobStatus) → is_running s ≡ true → is_waiting s ≡ false
    runs_on Waiting h = absurd (cc)
    runs_on Ready h = refl
    runs_on (Running hand) h = refl
    runs_on Blocked h = refl
    runs_on (Done good) h = refl

other_runs : (now : JobStates) (id : List ℕ) (j : ℕ) → has_id now.actions id j ≡ false → (k : ℕ) → is_run_of now id k ≡ true → is_running (status_at (set now.statuses j Ready) k) ≡ true
other_runs now id j other k r =
    let was = both (is_running (status_at now.statuses k)) (has_id now.actions id k) r in
    elim (cases_eq k j) [
      | inl e ↦ (let c : false ≡ true = sym other ∙ ap (has_id now.actions id) (sym e) ∙ was.1 in absurd (cc))
      | inr ne ↦ ap is_running (get_or-set_other now.statuses j k Ready Blocked ne) ∙ was.0
    ]

take_kept : (op : Opening) (old : BoardState) (hand j : ℕ) (new : BoardState) → BoardStep op old (Take hand j) new → (id : List ℕ) → IsKept op old id → IsKept op new id
take_kept op old hand j new s id kept =
    subst (λ (z : BoardState). IsKept op z id) (sym s.2) (stood_kept op old j (Running hand) id (λ k r. still_runs old.standings.statuses hand j k s.1.ready (both (is_running (status_at old.standings.statuses k)) (has_id old.standings.actions id k) r).0) kept)

module _ (op : Opening) (final : BoardState) (id : List ℕ) (other k : ℕ) (after : List Event) (has : has_id final.standings.actions id k ≡ true) where
  taken_again : (now mid : BoardState) → BoardStep op now (Take other k) mid → KeepsIn op now → Replays op mid after final → IsKept op now id → ⊥
  taken_again now mid s keeps r kept = by_kept kept
    where
      same : action_id s.0 ≡ id
      same = its_id final.standings.actions id k s.0 (replays_its op after mid final r (step_keeps op now (Take other k) mid s keeps) k s.0 (step_its op now (Take other k) mid s keeps k s.0 s.1.its)) has

      by_kept : IsKept op now id → ⊥
      by_kept (inl (j, run)) = let c : false ≡ true = sym (s.1.apart j) ∙ ap (λ i. is_run_of now.standings i j) same ∙ run in cc
      by_kept (inr (e, h)) = let c : None ≡ Some e = sym (keeps.fresh k s.0 (ap is_active s.1.ready) s.1.its) ∙ ap (held op now) same ∙ h in cc

  backs_between : (between : List Event) (now : BoardState) → Replays op now (between ++ (Take other k ∷ after)) final → KeepsIn op now → IsKept op now id → list_any (is_back_with final.standings.actions id) between ≡ true
  backs_between [] now (mid, s, r) keeps kept = absurd (taken_again now mid s keeps r kept)
  backs_between (Take hand j ∷ events) now (mid, s, r) keeps kept = backs_between events mid r (step_keeps op now (Take hand j) mid s keeps) (take_kept op now hand j mid s id kept)
  backs_between (Finish hand j ∷ events) now (mid, s, r) keeps kept =
      backs_between events mid r (step_keeps op now (Finish hand j) mid s keeps) (finish_kept op now hand j s.0 s.1 mid keeps s.2 id (bytes_eq (action_id s.0) id) refl kept)
  backs_between (Idle hand ∷ events) now (mid, s, r) keeps kept = backs_between events mid r (step_keeps op now (Idle hand) mid s keeps) (subst (λ (z : BoardState). IsKept op z id) (sym s.1) kept)
  backs_between (Back hand j ∷ events) now (mid, s, r) keeps kept = by_id (has_id final.standings.actions id j) refl (backs_between events mid r (step_keeps op now (Back hand j) mid s keeps))
    where
      there : action_at final.standings.actions j ≡ Some s.0
      there = replays_its op (events ++ (Take other k ∷ after)) mid final r (step_keeps op now (Back hand j) mid s keeps) j s.0 (step_its op now (Back hand j) mid s keeps j s.0 s.1.its)

      by_id : (b : Bool) → has_id final.standings.actions id j ≡ b → (IsKept op mid id → list_any (is_back_with final.standings.actions id) events ≡ true) → list_any (is_back_with final.standings.actions id) (Back hand j ∷ events) ≡ true
      by_id true e rest = ap (λ b. b || list_any (is_back_with final.standings.actions id) events) e
      by_id false e rest =
          let not : has_id now.standings.actions id j ≡ false = ap (has_action_id id) (s.1.its ∙ sym there) ∙ e in
          ap (λ b. b || list_any (is_back_with final.standings.actions id) events) e ∙ rest (subst (λ (z : BoardState). IsKept op z id) (sym s.2) (stood_kept op now j Ready id (other_runs now.standings id j not) kept))

split : (op : Opening) (xs ys : List Event) (old new : BoardState) → Replays op old (xs ++ ys) new → (mid : BoardState) × Replays op old xs mid × Replays op mid ys new
split op [] ys old new r = (old, refl, r)
split op (x ∷ xs) ys old new (mid, s, r) = let rest = split op xs ys mid new r in (rest.0, (mid, s, rest.1), rest.2)

taken_runs : (op : Opening) (old : BoardState) (hand j : ℕ) (new : BoardState) → BoardStep op old (Take hand j) new → (id : List ℕ) → has_id old.standings.actions id j ≡ true → IsKept op new id
taken_runs op old hand j new s id h =
    subst (λ (z : BoardState). IsKept op z id) (sym s.2) (inl (j, both_back (is_running (status_at (set old.standings.statuses j (Running hand)) j)) (has_id old.standings.actions id j) (ap is_running (get_or-set_same old.standings.statuses j (Running hand) Blocked (inside_of old.standings.statuses j Ready s.1.ready refl))) h))

backs_of : (seen : Seen) → IsHistory seen.opening seen.history seen.state → (id : List ℕ) (before between after : List Event) (hand other j k : ℕ) → seen.history ≡ before ++ (Take hand j ∷ (between ++ (Take other k ∷ after)))
    → has_id seen.state.standings.actions id j ≡ true → has_id seen.state.standings.actions id k ≡ true → list_any (is_back_with seen.state.standings.actions id) between ≡ true
backs_of seen h id before between after hand other j k is hj hk =
    let op = seen.opening in
    let parts = split op before (Take hand j ∷ (between ++ (Take other k ∷ after))) h.first seen.state (subst (λ l. Replays op h.first l seen.state) is h.replays) in
    let keeps : KeepsIn op parts.0 = replays_keep op before h.first parts.0 parts.1 (first_keeps op h.first h.begins) in
    let mid = parts.2.0 in
    let step = parts.2.1 in
    let rest = parts.2.2 in
    let later : KeepsIn op mid = step_keeps op parts.0 (Take hand j) mid step keeps in
    let there : action_at seen.state.standings.actions j ≡ Some step.0 = replays_its op (between ++ (Take other k ∷ after)) mid seen.state rest later j step.0 (step_its op parts.0 (Take hand j) mid step keeps j step.0 step.1.its) in
    let had : has_id parts.0.standings.actions id j ≡ true = ap (has_action_id id) (step.1.its ∙ sym there) ∙ hj in
    backs_between op seen.state id other k after hk between mid rest later (taken_runs op parts.0 hand j mid step id had)

pub history_once : (seen : Seen) → IsHistory seen.opening seen.history seen.state → IsTakenOnce seen
history_once seen h = record { backs = backs_of seen h }

-- ---- after an idle

pub history_settled : (seen : Seen) → IsHistory seen.opening seen.history seen.state → list_any is_idle seen.history ≡ true → AreSettled seen
history_settled seen h idled = record {
  each = λ rank down. all_settled seen.opening.jobs (held seen.opening seen.state) seen.state.standings (history_keeps seen.opening seen.history seen.state h) (after_idle seen.opening seen.history h.first seen.state h.replays idled) rank down;
}
