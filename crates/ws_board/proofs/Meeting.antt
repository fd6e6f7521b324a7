-- What is formed comes, and what is settled came to its end, where ids tell the actions that come.
use Rattle.std.proofs.Common.{◌≡◌, ℕ, zero, suc, ◌<◌, Bool, false, List, [], ◌∷◌, map, Option, Some, None, refl, sym, ap, ◌∙◌, subst, inl, inr}
use Rattle.std.specs.List.{slice_get, Contains, AllZip}
use Rattle.go_check.specs.Names.{importable_by}
use Rattle.go_export.specs.Summaries.{Summary}
use Rattle.ws_action.specs.Actions.{Action, action_id, IsSized}
use Rattle.ws_action.proofs.Members.{none_in_empty, head_or_later, later, at_head}
use Rattle.ws_cache.specs.Compiles as compiles
use Rattle.ws_cache.specs.Compiles.{Compiled, Compiles, IsResult}
use Rattle.ws_cache.proofs.Outcomes.{held_is_result}
use Rattle.ws_board.specs.declared.work.JobStatus.{JobStatus}
use Rattle.ws_board.specs.declared.work.JobStatus.TheVariants.{Waiting, Ready, Running, Blocked as Stays, Done}
use Rattle.ws_board.specs.Work.{Work, Job, JobStates}
use Rattle.ws_board.specs.Machine.{Holdings, is_open, is_good_result, status_at, action_at, any_open, JobHasSummary, IsFormed, IsGoodness, IsReadiness, Stop, Act}
use Rattle.ws_board.specs.Ends.{End, Blocked, Came, summary_in, end_at, HasAction, IsEnd, AreEnds, end_result, somes, end_results, work_in, job_imports, IsRanked}
use Rattle.ws_board.proofs.Later.{first_false, second_false}
use Rattle.ws_board.proofs.OneEnd.{ranked, IsEndIn, zip_at, HaveSummaries, one_work, same_summaries, one_action, result_with, has_work}
use Rattle.ws_board.proofs.Sounds.{IsSound, Keeps}

-- ---- members

somes_later : (o : Option Action) (rest : List (Option Action)) (a : Action) → Contains (somes rest) a → Contains (somes (o ∷ rest)) a
somes_later None rest a c = c
somes_later (Some x) rest a c = later x (somes rest) a c

somes_head : (o : Option Action) (rest : List (Option Action)) (a : Action) → o ≡ Some a → Contains (somes (o ∷ rest)) a
somes_head None rest a e = absurd (cc)
somes_head (Some x) rest a e = at_head (somes rest) x a (let p : Some x ≡ Some a = e in cc)

pub came_has : (es : List End) (k : ℕ) (a : Action) → end_result (end_at es k) ≡ Some a → Contains (end_results es) a
came_has [] k a e = absurd (cc)
came_has (x ∷ es) zero a e = somes_head (end_result x) (map end_result es) a e
came_has (x ∷ es) (suc k) a e = somes_later (end_result x) (map end_result es) a (came_has es k a e)

came_in : (x : End) (es : List End) (a : Action) (o : Option Action) → end_result x ≡ o → Contains (somes (o ∷ map end_result es)) a → (Contains (end_results es) a → (k : ℕ) × (end_result (end_at es k) ≡ Some a)) → (k : ℕ) × (end_result (end_at (x ∷ es) k) ≡ Some a)
came_in x es a None e c rest = let r = rest c in (suc r.0, r.1)
came_in x es a (Some y) e c rest = elim (head_or_later y (end_results es) a c) [
  | inl same ↦ (zero, e ∙ ap Some same)
  | inr l ↦ (let r = rest l in (suc r.0, r.1))
]

pub came_from : (es : List End) (a : Action) → Contains (end_results es) a → (k : ℕ) × (end_result (end_at es k) ≡ Some a)
came_from [] a c = absurd (none_in_empty a c)
came_from (x ∷ es) a c = came_in x es a (end_result x) refl c (came_from es a)

-- ---- a job whose action is formed

pub record IsFormedJob (h : Holdings) (now : JobStates) (o : Option Job) (a : Action) : Type 0 where
  pub job : Job
  pub is : o ≡ Some job
  pub work : Work
  pub its : job.work ≡ Some work
  pub formed : IsFormed h now work job.imports a

act_formed : (h : Holdings) (now : JobStates) (job : Job) (a : Action) (o : Option Work) → job.work ≡ o → IsReadiness h now o job.imports (Act a) → (work : Work) × (job.work ≡ Some work) × IsFormed h now work job.imports a
act_formed h now job a None e v = absurd (cc)
act_formed h now job a (Some work) e v = (work, e, v)

formed_by : (h : Holdings) (now : JobStates) (job : Job) (a b : Action) (x : Option Action) → x ≡ Some b → IsReadiness h now job.work job.imports (Act b) → x ≡ Some a → IsFormedJob h now (Some job) a
formed_by h now job a b x is v its =
    let same : b ≡ a = (let p : Some b ≡ Some a = sym is ∙ its in cc) in
    let f = act_formed h now job b job.work refl v in
    record { job = job; is = refl; work = f.0; its = f.1; formed = subst (IsFormed h now f.0 job.imports) same f.2 }

pub formed_of : (h : Holdings) (now : JobStates) (o : Option Job) (s : JobStatus) (x : Option Action) (a : Action) → IsSound h now o s x → x ≡ Some a → IsFormedJob h now o a
formed_of h now None s x a sound its = let c : None ≡ Some a = sym sound.1 ∙ its in absurd (cc)
formed_of h now (Some job) Waiting x a sound its = let c : None ≡ Some a = sym sound.0 ∙ its in absurd (cc)
formed_of h now (Some job) Stays x a sound its = let c : None ≡ Some a = sym sound.0 ∙ its in absurd (cc)
formed_of h now (Some job) Ready x a sound its = formed_by h now job a sound.0 x sound.1 sound.2 its
formed_of h now (Some job) (Running hand) x a sound its = formed_by h now job a sound.0 x sound.1 sound.2 its
formed_of h now (Some job) (Done good) x a sound its = formed_by h now job a sound.0 x sound.1 sound.2 its

-- ---- where ids tell

pub record Comes (ends : List End) (k : ℕ) (a : Action) : Type 0 where
  pub result : Compiled
  pub end : end_at ends k ≡ Came a result
  pub sized : IsSized a
  pub one : (r : Compiled) → Compiles a r → r ≡ result

-- it came to that end, if it is settled
abbrev pub Meets : Holdings → JobStatus → Option Action → End → Type 0
Meets h Stays x e = (x ≡ None) × (e ≡ Blocked)
Meets h (Done good) x e = (a : Action) × (r : Compiled) × (x ≡ Some a) × (h (action_id a) ≡ Some a) × (e ≡ Came a r) × Compiles a r × (good ≡ is_good_result r) × IsSized a
Meets h Waiting x e = Unit {0}
Meets h Ready x e = Unit {0}
Meets h (Running hand) x e = Unit {0}

module _ (jobs : List Job) (h : Holdings) (now : JobStates) (ends : List End) (rank : ℕ → ℕ) (down : IsRanked rank jobs) (are : AreEnds jobs ends) (keeps : Keeps jobs h now)
    (tells : (a entry : Action) → Contains (end_results ends) a → IsSized a → h (action_id a) ≡ Some entry → entry ≡ a) where
  ends_at : (k : ℕ) → IsEndIn ends (slice_get jobs k) (end_at ends k)
  ends_at = zip_at ends jobs ends are

  formed_at : (k : ℕ) (a : Action) → action_at now.actions k ≡ Some a → IsFormedJob h now (slice_get jobs k) a
  formed_at k a its = formed_of h now (slice_get jobs k) (status_at now.statuses k) (action_at now.actions k) a (keeps.sound k) its

  -- ---- what is formed comes

  abbrev ComesAt : ℕ → Type 0
  ComesAt k = (a : Action) → action_at now.actions k ≡ Some a → Comes ends k a

  summary_shown : (i : ℕ) (s : Summary) → ComesAt i → JobHasSummary h now i s → summary_in (end_at ends i) ≡ Some s
  summary_shown i s comes has =
      let c = comes has.action has.its in
      let among : Contains (end_results ends) has.action = came_has ends i has.action (ap end_result c.end) in
      let same : has.entry ≡ has.action = tells has.action has.entry among c.sized has.is_held in
      let result : compiles.Good s has.object ≡ c.result = c.one (compiles.Good s has.object) (subst (λ z. Compiles z (compiles.Good s has.object)) same has.compiled) in
      ap summary_in (c.end ∙ ap (Came has.action) (sym result))

  all_shown : (ks : List ℕ) (ss : List Summary) → ((i : ℕ) (s : Summary) → Contains ks i → JobHasSummary h now i s → ComesAt i) → AllZip (JobHasSummary h now) ks ss → HaveSummaries ends ks ss
  all_shown [] [] m z = z
  all_shown [] (s ∷ ss) m z = absurd z
  all_shown (k ∷ ks) [] m z = absurd z
  all_shown (k ∷ ks) (s ∷ ss) m z = (summary_shown k s (m k s (at_head ks k k refl) z.0) z.0, all_shown ks ss (λ i t c. m i t (later k ks i c)) z.1)

  has_by : (a : Action) (job : Job) (work : Work) (its : job.work ≡ Some work) (formed : IsFormed h now work job.imports a) → HaveSummaries ends job.imports formed.may.summaries → HasAction ends job a
  has_by a job work its formed have = record { work = work; its = its; summaries = formed.may.summaries; have = have; make = formed.may.make; is = formed.may.is }

  comes_by : (k : ℕ) (a : Action) (job : Job) (work : Work) (its : job.work ≡ Some work) (formed : IsFormed h now work job.imports a) (have : HaveSummaries ends job.imports formed.may.summaries) (e : End) → end_at ends k ≡ e → IsEnd ends job e → Comes ends k a
  unfolding has_by
  comes_by k a job work its formed have Blocked at end = absurd (end a (has_by a job work its formed have))
  comes_by k a job work its formed have (Came x r) at end =
      let has : HasAction ends job a = has_by a job work its formed have in
      let same : x ≡ a = one_action ends job x a end.0 has in
      let result : IsResult work.path work.files (map importable_by formed.may.summaries) r = result_with end.0.work work end.0.summaries formed.may.summaries r (one_work ends job x a end.0 has) (same_summaries ends job x a end.0 has) end.1 in
      record {
        result = r;
        end = at ∙ ap (λ z. Came z r) same;
        sized = formed.sized;
        one = λ q c. held_is_result work.edition work.path work.files formed.may.summaries formed.may.make.alike formed.written q r (subst (λ z. Compiles z q) formed.may.is c) result;
      }

  comes_step : (k : ℕ) → ((i : ℕ) → rank i < rank k → ComesAt i) → ComesAt k
  comes_step k below a its =
      let f = formed_at k a its in
      let imports : (i : ℕ) (s : Summary) → Contains f.job.imports i → JobHasSummary h now i s → ComesAt i =
      λ i s c has. (let g = formed_at i has.action has.its in below i (down k i f.work g.work (ap work_in f.is ∙ f.its) (subst (λ o. Contains (job_imports o) i) (sym f.is) c) (ap work_in g.is ∙ g.its))) in
      let have : HaveSummaries ends f.job.imports f.formed.may.summaries = all_shown f.job.imports f.formed.may.summaries imports f.formed.may.have in
      comes_by k a f.job f.work f.its f.formed have (end_at ends k) refl (subst (λ o. IsEndIn ends o (end_at ends k)) f.is (ends_at k))

  pub comes : (k : ℕ) → ComesAt k
  comes = ranked rank ComesAt comes_step

  -- ---- what is settled came to its end

  abbrev pub MeetsAt : ℕ → Type 0
  MeetsAt k = Meets h (status_at now.statuses k) (action_at now.actions k) (end_at ends k)

  done_meets : (k : ℕ) (good : Bool) (a entry : Action) → action_at now.actions k ≡ Some a → h (action_id a) ≡ Some entry → IsGoodness entry good → Meets h (Done good) (action_at now.actions k) (end_at ends k)
  done_meets k good a entry its is goodness =
      let c = comes k a its in
      let same : entry ≡ a = tells a entry (came_has ends k a (ap end_result c.end)) c.sized is in
      let comp : Compiles a goodness.0 = subst (λ z. Compiles z goodness.0) same goodness.1 in
      let result : goodness.0 ≡ c.result = c.one goodness.0 comp in
      (a, c.result, its, is ∙ ap Some same, c.end, subst (Compiles a) result comp, goodness.2 ∙ ap is_good_result result, c.sized)

  meets_summary : (i : ℕ) (s : Summary) (st : JobStatus) (x : Option Action) → status_at now.statuses i ≡ st → action_at now.actions i ≡ x → is_open st ≡ false → Meets h st x (end_at ends i) → summary_in (end_at ends i) ≡ Some s → JobHasSummary h now i s
  meets_summary i s Waiting x e f shut m is = absurd (cc)
  meets_summary i s Ready x e f shut m is = absurd (cc)
  meets_summary i s (Running hand) x e f shut m is = absurd (cc)
  meets_summary i s Stays x e f shut m is = let c : None ≡ Some s = sym (ap summary_in m.1) ∙ is in absurd (cc)
  meets_summary i s (Done good) x e f shut (a, r, its, has, end, comp, good_is, sized) is = by_result r comp good_is (sym (ap summary_in end) ∙ is)
    where
      by_result : (r : Compiled) → Compiles a r → good ≡ is_good_result r → summary_in (Came a r) ≡ Some s → JobHasSummary h now i s
      by_result (compiles.Faulty fault) c g p = absurd (cc)
      by_result (compiles.Good t o) c g p =
          let same : t ≡ s = (let q : Some t ≡ Some s = p in cc) in
          record { done = e ∙ ap Done g; action = a; its = f ∙ its; entry = a; is_held = has; object = o; compiled = subst (λ z. Compiles a (compiles.Good z o)) same c }

  all_held : (ks : List ℕ) (ss : List Summary) → any_open now ks ≡ false → ((i : ℕ) (s : Summary) → Contains ks i → summary_in (end_at ends i) ≡ Some s → MeetsAt i) → HaveSummaries ends ks ss → AllZip (JobHasSummary h now) ks ss
  all_held [] [] o m z = z
  all_held [] (s ∷ ss) o m z = absurd z
  all_held (k ∷ ks) [] o m z = absurd z
  all_held (k ∷ ks) (s ∷ ss) o m z = (
    meets_summary k s (status_at now.statuses k) (action_at now.actions k) refl refl (first_false (is_open (status_at now.statuses k)) (any_open now ks) o) (m k s (at_head ks k k refl) z.0) z.0,
    all_held ks ss (second_false (is_open (status_at now.statuses k)) (any_open now ks) o) (λ i t c. m i t (later k ks i c)) z.1,
  )

  module _ (k : ℕ) (below : (i : ℕ) → rank i < rank k → MeetsAt i) where
    stopped : (job : Job) (x : Action) (has : HasAction ends job x) → slice_get jobs k ≡ Some job → IsReadiness h now (Some has.work) job.imports Stop → ⊥
    stopped job x has is v =
        let imports : (i : ℕ) (s : Summary) → Contains job.imports i → summary_in (end_at ends i) ≡ Some s → MeetsAt i =
        λ i s c shown. (let w = has_work ends (slice_get jobs i) (end_at ends i) s (ends_at i) shown in below i (down k i has.work w.0 (ap work_in is ∙ has.its) (subst (λ o. Contains (job_imports o) i) (sym is) c) w.1)) in
        v.1 x (record { summaries = has.summaries; have = all_held job.imports has.summaries v.0 imports has.have; make = has.make; is = has.is })

    stop_end : (job : Job) (e : End) → slice_get jobs k ≡ Some job → IsReadiness h now job.work job.imports Stop → IsEnd ends job e → e ≡ Blocked
    stop_end job Blocked is v end = refl
    stop_end job (Came x r) is v end = absurd (stopped job x end.0 is (subst (λ o. IsReadiness h now o job.imports Stop) end.0.its v))

    meets_by : (o : Option Job) (s : JobStatus) → slice_get jobs k ≡ o → IsSound h now o s (action_at now.actions k) → IsEndIn ends o (end_at ends k) → Meets h s (action_at now.actions k) (end_at ends k)
    meets_by None Stays is sound end = (sound.1, end)
    meets_by None Waiting is sound end = tt
    meets_by None Ready is sound end = tt
    meets_by None (Running hand) is sound end = tt
    meets_by None (Done good) is sound end = let c : Done good ≡ Stays = sound.0 in absurd (cc)
    meets_by (Some job) Stays is sound end = (sound.0, stop_end job (end_at ends k) is sound.1 end)
    meets_by (Some job) Waiting is sound end = tt
    meets_by (Some job) Ready is sound end = tt
    meets_by (Some job) (Running hand) is sound end = tt
    meets_by (Some job) (Done good) is sound end = done_meets k good sound.0 sound.3.0 sound.1 sound.3.1 sound.3.2

  pub meets : (k : ℕ) → MeetsAt k
  meets = ranked rank MeetsAt (λ k below. meets_by k below (slice_get jobs k) (status_at now.statuses k) refl (keeps.sound k) (ends_at k))
