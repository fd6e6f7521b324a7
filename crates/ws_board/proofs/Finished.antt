-- The entries that a history's finishes added: each has an id that nothing had before, and is for a job that is done.
use Rattle.std.proofs.Common.{◌≡◌, ℕ, suc, ◌+◌, Bool, false, cond, List, [], ◌∷◌, ◌++◌, length, count_by, map, Option, Some, None, refl, sym, ap, ◌∙◌, subst, inl, inr, arith}
use Rattle.std.specs.List.{Contains, IsDistinct}
use Rattle.std.specs.Str.{bytes_eq}
use Rattle.std.specs.Option.{option_or}
use Rattle.std.specs.FinMap.{get}
use Rattle.std.proofs.lemmas.List.{map-append, length-append}
use Rattle.std.proofs.lemmas.List.Elements.{Contains-push_cases}
use Rattle.std.proofs.lemmas.List.Sums.{sum_by-cons}
use Rattle.ws_action.specs.Actions.{Action, action_id}
use Rattle.ws_action.proofs.Members.{none_in_empty}
use Rattle.ws_cache.specs.Held.{IsHeld, CacheStandsFor}
use Rattle.ws_cache.proofs.Joined.{cache_stands, empty_stands, taken_stands}
use Rattle.ws_board.specs.declared.work.JobStatus.TheVariants.{Done}
use Rattle.ws_board.specs.declared.work.Event.{Event}
use Rattle.ws_board.specs.declared.work.Event.TheVariants.{Take, Finish, Back, Idle}
use Rattle.ws_board.specs.Work.{Entries, Opening, BoardState, Seen}
use Rattle.ws_board.specs.Machine.{is_open, is_waiting, status_at, action_at, held, Finishes, BoardStep, Replays, IsFirst, IsHistory, is_finish}
use Rattle.ws_board.specs.Ends.{AreFinished}
use Rattle.ws_board.proofs.Runs.{finished_done, marked_done}
use Rattle.ws_board.proofs.Counts.{known, known_id, distinct_push, distinct_none, not_true}
use Rattle.ws_board.proofs.Sounds.{KeepsIn, step_keeps, step_settled, Settles, running_unheld, first_keeps}

-- a job with that id is done
pub record IsDoneFor (now : BoardState) (id : List ℕ) : Type 0 where
  pub job : ℕ
  pub action : Action
  pub good : Bool
  pub done : status_at now.standings.statuses job ≡ Done good
  pub its : action_at now.standings.actions job ≡ Some action
  pub id_is : action_id action ≡ id

pub record AreEntered (opening : Opening) (now : BoardState) (count : ℕ) (entries : List Action) : Type 0 where
  pub stands : CacheStandsFor now.added entries
  pub counted : count ≡ length entries
  pub apart : (entry : Action) → Contains entries entry → get opening.cache (action_id entry) ≡ None
  pub distinct : IsDistinct bytes_eq (map action_id entries)
  pub from : (entry : Action) → Contains entries entry → IsDoneFor now (action_id entry)

done_stays : (old new : BoardState) → Settles old.standings new.standings → (id : List ℕ) → IsDoneFor old id → IsDoneFor new id
done_stays old new settled id d =
    let same = settled d.job (ap is_open d.done) in
    record { job = d.job; action = d.action; good = d.good; done = same.0 ∙ d.done; its = same.1 ∙ d.its; id_is = d.id_is }

stays : (opening : Opening) (old new : BoardState) (count : ℕ) (entries : List Action) → Settles old.standings new.standings → new.added ≡ old.added → AreEntered opening old count entries → AreEntered opening new count entries
stays opening old new count entries settled same h = record {
  stands = subst (λ (m : Entries). CacheStandsFor m entries) (sym same) h.stands;
  counted = h.counted;
  apart = h.apart;
  distinct = h.distinct;
  from = λ entry c. done_stays old new settled (action_id entry) (h.from entry c);
}

first_none : (a b : Option Action) → option_or a b ≡ None → a ≡ None
first_none None b h = refl
first_none (Some x) b h = absurd (cc)

second_none : (a b : Option Action) → option_or a b ≡ None → b ≡ None
second_none None b h = h
second_none (Some x) b h = absurd (cc)

-- what nothing is held for is none of those that were put
pub none_put : (m : Entries) (entries : List Action) → CacheStandsFor m entries → (id : List ℕ) → get m id ≡ None → (entry : Action) → Contains entries entry → action_id entry ≡ id → ⊥
none_put m entries stands id none entry c e = subst (IsHeld entries id) none (cache_stands m entries stands id) entry c e

put_cases : (P : Action → Type 0) (entries : List Action) (e : Action) → P e → ((x : Action) → Contains entries x → P x) → (x : Action) → Contains (entries ++ e ∷ []) x → P x
put_cases P entries e here old x c = elim (Contains-push_cases entries e x c) [ inl l ↦ old x l | inr s ↦ subst P s here ]

finish_enters : (opening : Opening) (old : BoardState) (hand j : ℕ) (a e : Action) (new : BoardState) (count : ℕ) (entries : List Action) → KeepsIn opening old → Finishes opening old hand j a e new → AreEntered opening old count entries → AreEntered opening new (suc count) (entries ++ e ∷ [])
finish_enters opening old hand j a e new count entries keeps fin h =
    let none : held opening old (action_id e) ≡ None = ap (held opening old) fin.fits ∙ running_unheld opening old hand j a keeps fin.run in
    let cache_none : get opening.cache (action_id e) ≡ None = first_none (get opening.cache (action_id e)) (get old.added (action_id e)) none in
    let added_none : get old.added (action_id e) ≡ None = second_none (get opening.cache (action_id e)) (get old.added (action_id e)) none in
    let new_id : known (map action_id entries) (action_id e) ≡ false =
    not_true (known (map action_id entries) (action_id e)) (λ k. (let r = known_id entries (action_id e) k in none_put old.added entries h.stands (action_id e) added_none r.0 r.1 r.2)) in
    let settled : Settles old.standings new.standings = step_settled opening old (Finish hand j) new keeps (a, e, fin) in
    let done : status_at new.standings.statuses j ≡ Done fin.good = finished_done opening.jobs (held opening new) (action_id a) fin.good old.standings fin.marked new.standings fin.marks fin.carried hand j a fin.run refl in
    let marked : status_at fin.marked.statuses j ≡ Done fin.good = marked_done (action_id a) fin.good old.standings fin.marked fin.marks hand j a fin.run refl in
    let here : IsDoneFor new (action_id e) = record {
      job = j;
      action = a;
      good = fin.good;
      done = done;
      its = (fin.carried.others j (ap is_waiting marked)).1 ∙ ap (λ l. action_at l j) fin.marks.actions ∙ fin.run.its;
      id_is = sym fin.fits;
    } in
    record {
      stands = taken_stands old.added new.added entries e fin.joins h.stands;
      counted = ap suc h.counted ∙ sym (omega (arith, length-append entries (e ∷ [])));
      apart = put_cases (λ x. get opening.cache (action_id x) ≡ None) entries e cache_none h.apart;
      distinct = subst (IsDistinct bytes_eq) (sym (map-append action_id entries (e ∷ []))) (distinct_push (map action_id entries) (action_id e) h.distinct new_id);
      from = put_cases (λ x. IsDoneFor new (action_id x)) entries e here (λ x c. done_stays old new settled (action_id x) (h.from x c));
    }

-- how many finishes, beside those before
abbrev with_finishes : ℕ → List Event → ℕ
with_finishes n [] = n
with_finishes n (Take hand j ∷ events) = with_finishes n events
with_finishes n (Finish hand j ∷ events) = with_finishes (suc n) events
with_finishes n (Back hand j ∷ events) = with_finishes n events
with_finishes n (Idle hand ∷ events) = with_finishes n events

finishes_counted : (n : ℕ) (events : List Event) → with_finishes n events ≡ n + count_by is_finish events
finishes_counted n [] = omega arith
finishes_counted n (Take hand j ∷ events) = omega (arith, finishes_counted n events, sum_by-cons (λ x. cond (is_finish x) 1 0) (Take hand j) events)
finishes_counted n (Finish hand j ∷ events) = omega (arith, finishes_counted (suc n) events, sum_by-cons (λ x. cond (is_finish x) 1 0) (Finish hand j) events)
finishes_counted n (Back hand j ∷ events) = omega (arith, finishes_counted n events, sum_by-cons (λ x. cond (is_finish x) 1 0) (Back hand j) events)
finishes_counted n (Idle hand ∷ events) = omega (arith, finishes_counted n events, sum_by-cons (λ x. cond (is_finish x) 1 0) (Idle hand) events)

same_added : (opening : Opening) (old new : BoardState) (n : ℕ) (entries : List Action) (event : Event) → BoardStep opening old event new → KeepsIn opening old → new.added ≡ old.added → AreEntered opening old n entries → AreEntered opening new n entries
same_added opening old new n entries event s keeps same h = stays opening old new n entries (step_settled opening old event new keeps s) same h

replays_enter : (opening : Opening) (events : List Event) (old new : BoardState) (n : ℕ) (entries : List Action) → Replays opening old events new → KeepsIn opening old → AreEntered opening old n entries → (all : List Action) × AreEntered opening new (with_finishes n events) all
replays_enter opening [] old new n entries r keeps h = (entries, subst (λ (s : BoardState). AreEntered opening s n entries) (sym r) h)
replays_enter opening (Take hand j ∷ events) old new n entries (mid, s, r) keeps h =
    replays_enter opening events mid new n entries r (step_keeps opening old (Take hand j) mid s keeps) (same_added opening old mid n entries (Take hand j) s keeps (ap (λ (s : BoardState). s.added) s.2) h)
replays_enter opening (Finish hand j ∷ events) old new n entries (mid, s, r) keeps h =
    replays_enter opening events mid new (suc n) (entries ++ s.1 ∷ []) r (step_keeps opening old (Finish hand j) mid s keeps) (finish_enters opening old hand j s.0 s.1 mid n entries keeps s.2 h)
replays_enter opening (Back hand j ∷ events) old new n entries (mid, s, r) keeps h =
    replays_enter opening events mid new n entries r (step_keeps opening old (Back hand j) mid s keeps) (same_added opening old mid n entries (Back hand j) s keeps (ap (λ (s : BoardState). s.added) s.2) h)
replays_enter opening (Idle hand ∷ events) old new n entries (mid, s, r) keeps h =
    replays_enter opening events mid new n entries r (step_keeps opening old (Idle hand) mid s keeps) (same_added opening old mid n entries (Idle hand) s keeps (ap (λ (s : BoardState). s.added) s.1) h)

first_entered : (opening : Opening) (first : BoardState) → IsFirst opening first → AreEntered opening first 0 []
first_entered opening first begins = record {
  stands = empty_stands first.added begins.added;
  counted = refl;
  apart = λ x c. absurd (none_in_empty x c);
  distinct = distinct_none;
  from = λ x c. absurd (none_in_empty x c);
}

pub history_entered : (opening : Opening) (events : List Event) (now : BoardState) → IsHistory opening events now → (entries : List Action) × AreEntered opening now (count_by is_finish events) entries
history_entered opening events now h =
    let r = replays_enter opening events h.first now 0 [] h.replays (first_keeps opening h.first h.begins) (first_entered opening h.first h.begins) in
    (r.0, subst (λ n. AreEntered opening now n r.0) (finishes_counted 0 events ∙ omega arith) r.1)

pub finished : (seen : Seen) → IsHistory seen.opening seen.history seen.state → (entries : List Action) × AreFinished seen entries
finished seen h =
    let r = history_entered seen.opening seen.history seen.state h in
    (r.0, record { stands = r.1.stands; count = r.1.counted; apart = r.1.apart; distinct = r.1.distinct })
