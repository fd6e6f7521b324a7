-- Carrying on, job by job, until nothing changes.
use Rattle.std.proofs.Common.{◌≡◌, ℕ, ◌<◌, ◌≤◌, true, false, cond, List, length, get_or, count_by, Option, Some, None, refl, sym, ap, ◌∙◌, subst, inl, inr, ◌⊎◌, arith, get_or-set_other, get_or-set_same}
use Rattle.std.proofs.Math.ListN.{set, length-set}
use Rattle.std.specs.List.{slice_get}
use Rattle.std.specs.Option.{unwrap_or}
use Rattle.std.proofs.lemmas.List.Sums.{sum_by-set}
use Rattle.std.proofs.lemmas.Bool.{cases_eq}
use Rattle.std.proofs.lemmas.Option.{slice_get_past, unwrap_or-slice_get}
use Rattle.ws_action.specs.Actions.{Action, action_id}
use Rattle.ws_board.specs.declared.work.JobStatus.{JobStatus}
use Rattle.ws_board.specs.declared.work.JobStatus.TheVariants.{Waiting, Ready, Running, Blocked, Done}
use Rattle.ws_board.specs.Work.{Job, JobStates}
use Rattle.ws_board.specs.Machine.{Holdings, is_open, is_waiting, status_at, action_at, Readiness, Wait, Stop, Act, Follows, IsPlaced, HasStatus, Propagated}
use Rattle.ws_board.specs.Propagation.{IsUnder}
use Rattle.ws_board.proofs.Later.{Later, stands_stays}

-- the two agree wherever the first is settled
abbrev pub Agrees : (ℕ → JobStatus) → (ℕ → JobStatus) → Type 0
Agrees f g = (k : ℕ) → is_open (f k) ≡ false → g k ≡ f k

pub waiting_is : (s : JobStatus) → is_waiting s ≡ true → s ≡ Waiting
waiting_is Waiting h = refl
waiting_is Ready h = absurd (cc)
waiting_is (Running hand) h = absurd (cc)
waiting_is Blocked h = absurd (cc)
waiting_is (Done good) h = absurd (cc)

pub waiting_or : (s : JobStatus) → (is_waiting s ≡ true) ⊎ (is_waiting s ≡ false)
waiting_or Waiting = inl refl
waiting_or Ready = inr refl
waiting_or (Running hand) = inr refl
waiting_or Blocked = inr refl
waiting_or (Done good) = inr refl

pub past_end : (xs : List JobStatus) (j : ℕ) → length xs ≤ j → status_at xs j ≡ Blocked
past_end xs j le = sym (unwrap_or-slice_get xs j Blocked) ∙ ap (λ o. unwrap_or o Blocked) (slice_get_past xs j le)

-- ---- on the way

pub start_under : (jobs : List Job) (h : Holdings) (first : JobStates) → ((k : ℕ) → status_at first.statuses k ≡ Waiting → action_at first.actions k ≡ None) → IsUnder jobs h first first
start_under jobs h first bare = record { same_length = (refl, refl); others = λ j w. (refl, refl); waiting = λ j w. inl (waiting_is (status_at first.statuses j) w); bare = bare }

module _ (jobs : List Job) (h : Holdings) (old new : JobStates) (j : ℕ) (s : JobStatus) (x : Option Action)
    (inside : j < length old.statuses) (within : j < length old.actions) (waits : status_at old.statuses j ≡ Waiting) (stands : HasStatus h old (slice_get jobs j) s x) (not : is_waiting s ≡ false)
    (statuses : new.statuses ≡ set old.statuses j s) (actions : new.actions ≡ set old.actions j x) where
  here : status_at new.statuses j ≡ s
  here = ap (λ xs. status_at xs j) statuses ∙ get_or-set_same old.statuses j s Blocked inside

  here_action : action_at new.actions j ≡ x
  here_action = ap (λ xs. action_at xs j) actions ∙ get_or-set_same old.actions j x None within

  other : (k : ℕ) → (k ≡ j → ⊥) → status_at new.statuses k ≡ status_at old.statuses k
  other k ne = ap (λ xs. status_at xs k) statuses ∙ get_or-set_other old.statuses j k s Blocked ne

  other_action : (k : ℕ) → (k ≡ j → ⊥) → action_at new.actions k ≡ action_at old.actions k
  other_action k ne = ap (λ xs. action_at xs k) actions ∙ get_or-set_other old.actions j k x None ne

  apart : (k : ℕ) → is_open (status_at old.statuses k) ≡ false → k ≡ j → ⊥
  apart k shut e = let c : true ≡ false = sym (ap is_open waits) ∙ ap (λ i. is_open (status_at old.statuses i)) (sym e) ∙ shut in cc

  set_later : Later h h old new
  set_later = record { settled = λ k shut. (other k (apart k shut), other_action k (apart k shut)); keeps = λ k good a done its. refl }

  stands_here : HasStatus h new (slice_get jobs j) (status_at new.statuses j) (action_at new.actions j)
  stands_here =
      subst (λ t. HasStatus h new (slice_get jobs j) t (action_at new.actions j)) (sym here)
      (subst (λ t. HasStatus h new (slice_get jobs j) s t) (sym here_action) (stands_stays h old new set_later (slice_get jobs j) s x not stands))

  keep_other : (k : ℕ) → (k ≡ j → ⊥) → (status_at old.statuses k ≡ Waiting) ⊎ HasStatus h old (slice_get jobs k) (status_at old.statuses k) (action_at old.actions k)
      → (status_at new.statuses k ≡ Waiting) ⊎ HasStatus h new (slice_get jobs k) (status_at new.statuses k) (action_at new.actions k)
  keep_other k ne (inl w) = inl (other k ne ∙ w)
  keep_other k ne (inr st) = elim (waiting_or (status_at old.statuses k)) [
    | inl w ↦ inl (other k ne ∙ waiting_is (status_at old.statuses k) w)
    | inr w ↦ inr (subst (λ t. HasStatus h new (slice_get jobs k) t (action_at new.actions k)) (sym (other k ne))
        (subst (λ t. HasStatus h new (slice_get jobs k) (status_at old.statuses k) t) (sym (other_action k ne))
        (stands_stays h old new set_later (slice_get jobs k) (status_at old.statuses k) (action_at old.actions k) w st)))
  ]

  pub keep_under : (first : JobStates) → IsUnder jobs h first old → IsUnder jobs h first new
  keep_under first under = record {
    same_length = (ap length statuses ∙ length-set old.statuses j s ∙ under.same_length.0, ap length actions ∙ length-set old.actions j x ∙ under.same_length.1);
    others = λ k n. elim (cases_eq k j) [
      | inl e ↦ (let c : true ≡ false = sym (ap is_waiting (sym (under.others k n).0 ∙ ap (status_at old.statuses) e ∙ waits)) ∙ n in absurd (cc))
      | inr ne ↦ (other k ne ∙ (under.others k n).0, other_action k ne ∙ (under.others k n).1)
    ];
    waiting = λ k n. elim (cases_eq k j) [
      | inl e ↦ inr (subst (λ i. HasStatus h new (slice_get jobs i) (status_at new.statuses i) (action_at new.actions i)) (sym e) stands_here)
      | inr ne ↦ keep_other k ne (under.waiting k n)
    ];
    bare = λ k w. elim (cases_eq k j) [
      | inl e ↦ (let c : true ≡ false = sym (ap is_waiting (sym here ∙ ap (status_at new.statuses) (sym e) ∙ w)) ∙ not in absurd (cc))
      | inr ne ↦ other_action k ne ∙ under.bare k (sym (other k ne) ∙ w)
    ];
  }

-- if this job waits, its imports say so
abbrev pub RestsAt : List Job → Holdings → JobStates → ℕ → Type 0
RestsAt jobs h now j = status_at now.statuses j ≡ Waiting → HasStatus h now (slice_get jobs j) Waiting None

end_waiting : (jobs : List Job) (h : Holdings) (new : JobStates) (k : ℕ) → RestsAt jobs h new k → (status_at new.statuses k ≡ Waiting → action_at new.actions k ≡ None)
    → (status_at new.statuses k ≡ Waiting) ⊎ HasStatus h new (slice_get jobs k) (status_at new.statuses k) (action_at new.actions k)
    → HasStatus h new (slice_get jobs k) (status_at new.statuses k) (action_at new.actions k)
end_waiting jobs h new k rests bare (inl w) =
    subst (λ t. HasStatus h new (slice_get jobs k) t (action_at new.actions k)) (sym w) (subst (λ t. HasStatus h new (slice_get jobs k) Waiting t) (sym (bare w)) (rests w))
end_waiting jobs h new k rests bare (inr s) = s

pub end_carried : (jobs : List Job) (h : Holdings) (first new : JobStates) → IsUnder jobs h first new → ((j : ℕ) → RestsAt jobs h new j) → Propagated jobs h first new
end_carried jobs h first new under rest = record {
  same_length = under.same_length;
  others = under.others;
  waiting = λ k n. end_waiting jobs h new k (rest k) (under.bare k) (under.waiting k n);
}

-- what waits has no action
pub waits_bare : (h : Holdings) (now : JobStates) (o : Option Job) (s : JobStatus) (x : Option Action) → HasStatus h now o s x → s ≡ Waiting → x ≡ None
waits_bare h now None s x st w = st.1
waits_bare h now (Some job) s x st w = by_verdict st.0 st.2
  where
    placed : (a : Action) (p : Option Action) → IsPlaced p s → x ≡ None
    placed a None p = let c : Ready ≡ Waiting = sym p ∙ w in absurd (cc)
    placed a (Some e) p = let c : Done p.0 ≡ Waiting = sym p.2 ∙ w in absurd (cc)

    by_verdict : (v : Readiness) → Follows h v s x → x ≡ None
    by_verdict Wait f = f.1
    by_verdict Stop f = f.1
    by_verdict (Act a) f = placed a (h (action_id a)) f.0

-- ---- fewer wait

pub fewer : (xs : List JobStatus) (j : ℕ) (now : JobStatus) → j < length xs → status_at xs j ≡ Waiting → is_waiting now ≡ false → count_by is_waiting (set xs j now) < count_by is_waiting xs
fewer xs j now inside w not =
    let e = sum_by-set (λ s. cond (is_waiting s) 1 0) xs j now Blocked inside in
    let a : ◌≡◌ {A = ℕ} (cond (is_waiting (get_or xs j Blocked)) 1 0) 1 = ap (λ s. cond (is_waiting s) 1 0) w in
    let b : ◌≡◌ {A = ℕ} (cond (is_waiting now) 1 0) 0 = ap (λ b. cond b 1 0) not in
    omega (arith, e, a, b)

-- ---- carried on

pub shut_waits_not : (s : JobStatus) → is_open s ≡ false → is_waiting s ≡ false
shut_waits_not Waiting h = let c : true ≡ false = h in absurd (cc)
shut_waits_not Ready h = refl
shut_waits_not (Running hand) h = refl
shut_waits_not Blocked h = refl
shut_waits_not (Done good) h = refl

pub carried_agrees : (jobs : List Job) (h : Holdings) (old new : JobStates) → Propagated jobs h old new → Agrees (status_at old.statuses) (status_at new.statuses)
carried_agrees jobs h old new c k shut = (c.others k (shut_waits_not (status_at old.statuses k) shut)).0

-- ---- at first
