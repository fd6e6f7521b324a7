-- A board that is opened and never run shows how the jobs' actions stand among those that are held.
use Rattle.std.proofs.Common.{◌≡◌, ℕ, true, false, ◌||◌, List, [], ◌∷◌, Option, Some, None, refl, sym, ap, ◌∙◌, subst, inl, inr}
use Rattle.std.specs.List.{slice_get, Contains, AllZip}
use Rattle.std.specs.FinMap.{get}
use Rattle.std.specs.Option.{option_or}
use Rattle.std.proofs.lemmas.List.Elements.{All-nil, All-cons, All-head, All-tail}
use Rattle.go_export.specs.Summaries.{Summary}
use Rattle.ws_action.specs.Actions.{Action, action_id, IsSized}
use Rattle.ws_action.proofs.Members.{none_in_empty}
use Rattle.ws_cache.specs.Held.{CacheStandsFor}
use Rattle.ws_cache.proofs.Joined.{empty_stands}
use Rattle.ws_board.specs.declared.work.JobStatus.{JobStatus}
use Rattle.ws_board.specs.declared.work.JobStatus.TheVariants.{Waiting, Ready, Running, Blocked as Stays, Done}
use Rattle.ws_board.specs.Work.{Work, Job, JobStates, Opening, Seen}
use Rattle.ws_board.specs.Machine.{Holdings, is_open, is_running, is_active, status_at, action_at, any_open, held, JobHasSummary, IsReadiness, Wait}
use Rattle.ws_board.specs.Calls.{IsFresh}
use Rattle.ws_board.specs.Ends.{End, end_at, end_results, job_imports, AreEnds, IsRanked, AreClear, AllGood, IsEndOfJob, ShowsEnds}
use Rattle.ws_board.proofs.Meeting.{Meets, meets, formed_of, comes}
use Rattle.ws_board.proofs.Runs.{counted_none}
use Rattle.ws_board.proofs.Sounds.{IsSound, KeepsIn, first_keeps}
use Rattle.ws_board.proofs.Tells.{clear_with, tells_by, held_from, some_of}

all_good_of : (h : Holdings) (now : JobStates) (ks : List ℕ) (ss : List Summary) → AllZip (JobHasSummary h now) ks ss → AllGood now.statuses ks
all_good_of h now [] [] z = All-nil (λ k. status_at now.statuses k ≡ Done true)
all_good_of h now [] (s ∷ ss) z = absurd z
all_good_of h now (k ∷ ks) [] z = absurd z
all_good_of h now (k ∷ ks) (s ∷ ss) z = All-cons (λ k. status_at now.statuses k ≡ Done true) k ks z.0.done (all_good_of h now ks ss z.1)

good_shut : (now : JobStates) (ks : List ℕ) → AllGood now.statuses ks → any_open now ks ≡ false
good_shut now [] all = refl
good_shut now (k ∷ ks) all =
    ap (λ b. b || any_open now ks) (ap is_open (All-head (λ k. status_at now.statuses k ≡ Done true) k ks all)) ∙ good_shut now ks (All-tail (λ k. status_at now.statuses k ≡ Done true) k ks all)

waits_open : (h : Holdings) (now : JobStates) (o : Option Work) (ks : List ℕ) → IsReadiness h now o ks Wait → AllGood now.statuses ks → ⊥
waits_open h now None ks v all = cc
waits_open h now (Some work) ks v all = let c : false ≡ true = sym (good_shut now ks all) ∙ v in cc

-- where an action is formed all imports are good
formed_good : (h : Holdings) (now : JobStates) (o : Option Job) (s : JobStatus) (x : Option Action) (a : Action) → IsSound h now o s x → x ≡ Some a → AllGood now.statuses (job_imports o)
formed_good h now o s x a sound its =
    let f = formed_of h now o s x a sound its in
    subst (λ p. AllGood now.statuses (job_imports p)) (sym f.is) (all_good_of h now f.job.imports f.formed.may.summaries f.formed.may.have)

module _ (seen : Seen) (fresh : IsFresh seen) (E : List Action) (rank : ℕ → ℕ) (ends : List End) (stands : CacheStandsFor seen.opening.cache E) (down : IsRanked rank seen.opening.jobs) (are : AreEnds seen.opening.jobs ends) (clear : AreClear E (end_results ends)) where
  abbrev op : Opening
  op = seen.opening

  abbrev now : JobStates
  now = seen.state.standings

  abbrev h : Holdings
  h = held op seen.state

  keeps : KeepsIn op seen.state
  keeps = first_keeps op seen.state fresh.first

  none : CacheStandsFor seen.state.added []
  none = empty_stands seen.state.added fresh.first.added

  tells : (a entry : Action) → Contains (end_results ends) a → IsSized a → h (action_id a) ≡ Some entry → entry ≡ a
  tells = tells_by op seen.state E [] (end_results ends) stands none (clear_with E [] (end_results ends) (λ a c. absurd (none_in_empty a c)) (λ a c. absurd (none_in_empty a c)) clear)

  -- what is held is of E, and all of E is held
  is_held : (a : Action) → h (action_id a) ≡ Some a → Contains E a
  is_held a e = elim (held_from op seen.state E [] stands none (action_id a) a e).0 [ inl c ↦ c | inr c ↦ absurd (none_in_empty a c) ]

  not_held : (a : Action) → h (action_id a) ≡ None → Contains E a → ⊥
  not_held a e c =
      let got = some_of op.cache E stands a c in
      let there : h (action_id a) ≡ Some got.0 = ap (λ o. option_or o (get seen.state.added (action_id a))) got.1 in
      let wrong : None ≡ Some got.0 = sym e ∙ there in cc

  shown_ready : (k : ℕ) (s : JobStatus) → status_at now.statuses k ≡ s → s ≡ Ready → IsSound h now (slice_get op.jobs k) Ready (action_at now.actions k)
      → IsEndOfJob E now.statuses (job_imports (slice_get op.jobs k)) (end_at ends k) Ready (action_at now.actions k)
  shown_ready k s at is sound =
      let its = ready_action (slice_get op.jobs k) (action_at now.actions k) sound in
      let c = comes op.jobs h now ends rank down are keeps tells k its.0 its.1 in
      let fresh : h (action_id its.0) ≡ None = keeps.fresh k its.0 (ap is_active (at ∙ is)) its.1 in
      (formed_good h now (slice_get op.jobs k) Ready (action_at now.actions k) its.0 sound its.1, (its.0, c.result, its.1, c.end, not_held its.0 fresh))
    where
      ready_action : (o : Option Job) (x : Option Action) → IsSound h now o Ready x → (a : Action) × (x ≡ Some a)
      ready_action None x sound = let c : Ready ≡ Stays = sound.0 in absurd (cc)
      ready_action (Some job) x sound = (sound.0, sound.1)

  by_status : (k : ℕ) (s : JobStatus) → status_at now.statuses k ≡ s → IsSound h now (slice_get op.jobs k) s (action_at now.actions k) → Meets h s (action_at now.actions k) (end_at ends k)
      → IsEndOfJob E now.statuses (job_imports (slice_get op.jobs k)) (end_at ends k) s (action_at now.actions k)
  by_status k Stays at sound m = m
  by_status k (Running hand) at sound m = counted_none now.statuses fresh.nothing_runs k (ap is_running at)
  by_status k Ready at sound m = shown_ready k Ready at refl sound
  by_status k (Done good) at sound (a, r, its, itself, end, compiled, tells_good, sized) =
      (formed_good h now (slice_get op.jobs k) (Done good) (action_at now.actions k) a sound its, (a, r, its, end, is_held a itself, tells_good, compiled))
  by_status k Waiting at sound m = by_job (slice_get op.jobs k) (action_at now.actions k) sound
    where
      by_job : (o : Option Job) (x : Option Action) → IsSound h now o Waiting x → (x ≡ None) × ¬ (AllGood now.statuses (job_imports o))
      by_job None x sound = let c : Waiting ≡ Stays = sound.0 in absurd (cc)
      by_job (Some job) x sound = (sound.0, waits_open h now job.work job.imports sound.1)

  shown_at : (k : ℕ) → IsEndOfJob E now.statuses (job_imports (slice_get op.jobs k)) (end_at ends k) (status_at now.statuses k) (action_at now.actions k)
  shown_at k = by_status k (status_at now.statuses k) refl (keeps.sound k) (meets op.jobs h now ends rank down are keeps tells k)

pub shows : (seen : Seen) → IsFresh seen → ShowsEnds seen
shows seen fresh E rank ends stands down are clear k = shown_at seen fresh E rank ends stands down are clear k
