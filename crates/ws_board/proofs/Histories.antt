-- A legal history, and one event more.
use Rattle.std.proofs.Common.{◌≡◌, ℕ, Bool, List, [], ◌∷◌, ◌++◌, Option, Some, None, refl, sym, ap, ◌∙◌, subst}
use Rattle.std.specs.Prelude.{true, false, if◌then◌else◌}
use Rattle.std.specs.FinMap.{get, empty}
use Rattle.std.specs.Option.{option_or}
use Rattle.std.specs.Str.{bytes_eq}
use Rattle.std.specs.List.{slice_get}
use Rattle.std.proofs.lemmas.Slice.Eq.{bytes_eq-Decides}
use Rattle.ws_map.specs.Kept.{taken}
use Rattle.ws_action.specs.Actions.{Action, action_id}
use Rattle.ws_cache.specs.Joined.{lesser}
use Rattle.ws_board.specs.declared.work.JobStatus.TheVariants.{Ready, Blocked}
use Rattle.ws_board.specs.declared.work.Event.{Event}
use Rattle.ws_board.specs.Work.{Job, Entries, JobStates, Opening, BoardState}
use Rattle.ws_board.specs.Machine.{status_at, action_at, held, IsGoodness, Propagated, IsMarked, IsRunBy, Finishes, BoardStep, Replays, IsFirst, IsHistory, unopened}
use Rattle.ws_board.specs.Propagation.{held_with}
use Rattle.ws_board.proofs.Grown.{taken_here, taken_other}
use Rattle.ws_board.proofs.Sounds.{IsSound, KeepsIn, history_keeps, running_unheld}

replays_more : (opening : Opening) (events : List Event) (first old : BoardState) (event : Event) (new : BoardState) → Replays opening first events old → BoardStep opening old event new → Replays opening first (events ++ event ∷ []) new
replays_more opening [] first old event new r step = (new, subst (λ s. BoardStep opening s event new) r step, refl)
replays_more opening (e ∷ events) first old event new (mid, s, rest) step = (mid, s, replays_more opening events mid old event new rest step)

pub history_more : (opening : Opening) (events all : List Event) (old : BoardState) (event : Event) (new : BoardState) → IsHistory opening events old → BoardStep opening old event new → all ≡ events ++ event ∷ [] → IsHistory opening all new
history_more opening events all old event new h step is =
    subst (λ l. IsHistory opening l new) (sym is) (record { first = h.first; begins = h.begins; replays = replays_more opening events h.first old event new h.replays step })

-- in a legal history a job that is ready has an action
pub ready_has : (opening : Opening) (events : List Event) (now : BoardState) → IsHistory opening events now → (job : ℕ) → status_at now.standings.statuses job ≡ Ready → (action : Action) × (action_at now.standings.actions job ≡ Some action)
ready_has opening events now h job ready =
    has (slice_get opening.jobs job) (action_at now.standings.actions job)
    (subst (λ s. IsSound (held opening now) now.standings (slice_get opening.jobs job) s (action_at now.standings.actions job)) ready ((history_keeps opening events now h).sound job))
  where
    has : (o : Option Job) (x : Option Action) → IsSound (held opening now) now.standings o Ready x → (a : Action) × (x ≡ Some a)
    has None x sound = let c : Ready ≡ Blocked = sound.0 in absurd (cc)
    has (Some job) x sound = (sound.0, sound.1)

-- ---- what is held while an entry is about to be added, and then

or_assoc : (a b c : Option Action) → c ≡ None → option_or a (option_or b c) ≡ option_or a b
or_assoc None None c e = e
or_assoc None (Some x) c e = refl
or_assoc (Some x) b c e = refl

or_none : (a b : Option Action) → option_or a b ≡ None → (a ≡ None) × (b ≡ None)
or_none None b h = (refl, h)
or_none (Some x) b h = absurd (cc)

held_newest : (cache added : Entries) (entry : Action) (id : List ℕ) → get cache (action_id entry) ≡ None → get added (action_id entry) ≡ None → (b : Bool) → bytes_eq (action_id entry) id ≡ b
    → held_with cache added (Some entry) id ≡ option_or (get cache id) (get (taken lesser added (action_id entry) entry) id)
held_newest cache added entry id none nor true e =
    let same : action_id entry ≡ id = (bytes_eq-Decides (action_id entry) id).0 e in
    let first : get cache id ≡ None = ap (get cache) (sym same) ∙ none in
    let second : get added id ≡ None = ap (get added) (sym same) ∙ nor in
    let put : get (taken lesser added (action_id entry) entry) id ≡ Some entry = ap (get (taken lesser added (action_id entry) entry)) (sym same) ∙ taken_here added (action_id entry) entry nor in
    let new : (if bytes_eq (action_id entry) id then Some entry else None) ≡ Some entry = ap (λ b. if b then Some entry else None) e in
    ap (λ o. option_or o (option_or (get added id) (if bytes_eq (action_id entry) id then Some entry else None))) first
    ∙ ap (λ o. option_or o (if bytes_eq (action_id entry) id then Some entry else None)) second
    ∙ new ∙ sym (ap (λ o. option_or o (get (taken lesser added (action_id entry) entry) id)) first ∙ put)
held_newest cache added entry id none nor false e =
    let other : id ≡ action_id entry → ⊥ = λ same. (let c : true ≡ false = sym ((bytes_eq-Decides (action_id entry) id).1 (sym same)) ∙ e in cc) in
    or_assoc (get cache id) (get added id) (if bytes_eq (action_id entry) id then Some entry else None) (ap (λ b. if b then Some entry else None) e)
    ∙ ap (option_or (get cache id)) (sym (taken_other added (action_id entry) entry id other))

-- what is held with the newest entry is what is held once it was added
pub held_grown : (opening : Opening) (old : BoardState) (entry : Action) → held opening old (action_id entry) ≡ None
    → held_with opening.cache old.added (Some entry) ≡ held opening (record { standings = old.standings; added = taken lesser old.added (action_id entry) entry })
held_grown opening old entry none =
    let parts = or_none (get opening.cache (action_id entry)) (get old.added (action_id entry)) none in
    λ i id. held_newest opening.cache old.added entry id parts.0 parts.1 (bytes_eq (action_id entry) id) refl i

-- without one it is what is held
pub held_still : (cache added : Entries) → held_with cache added None ≡ (λ id. option_or (get cache id) (get added id))
held_still cache added = λ i id. or_assoc (get cache id) (get added id) None refl i

-- what a finish does is a step
pub finish_step : (opening : Opening) (old : BoardState) (hand job : ℕ) (action entry : Action) (good : Bool) (marked new : JobStates) → KeepsIn opening old → IsRunBy old.standings hand job action → action_id entry ≡ action_id action → IsGoodness entry good
    → IsMarked (action_id action) good old.standings marked → Propagated opening.jobs (held_with opening.cache old.added (Some entry)) marked new
    → Finishes opening old hand job action entry (record { standings = new; added = taken lesser old.added (action_id entry) entry })
finish_step opening old hand job action entry good marked new keeps run fits goodness marks carried =
    let none : held opening old (action_id entry) ≡ None = ap (held opening old) fits ∙ running_unheld opening old hand job action keeps run in
    record {
      good = good;
      marked = marked;
      run = run;
      fits = fits;
      goodness = goodness;
      joins = refl;
      marks = marks;
      carried = subst (λ h. Propagated opening.jobs h marked new) (held_grown opening old entry none) carried;
    }

-- ---- the opening

pub opened_first : (jobs : List Job) (cache added : Entries) (now : JobStates) → added ≡ empty → Propagated jobs (held_with cache added None) (unopened jobs) now
    → IsFirst (record { jobs = jobs; cache = cache }) (record { standings = now; added = added })
opened_first jobs cache added now none carried = record { added = none; carried = subst (λ h. Propagated jobs h (unopened jobs) now) (held_still cache added) carried }

pub opened_history : (opening : Opening) (first : BoardState) → IsFirst opening first → IsHistory opening [] first
opened_history opening first begins = record { first = first; begins = begins; replays = refl }
