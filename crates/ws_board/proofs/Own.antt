-- A board whose entries are those of its jobs' own actions comes to the jobs' ends, whatever else was added.
use Rattle.std.proofs.Common.{◌≡◌, ℕ, List, [], ◌∷◌, ◌++◌, Some, sym, ap, subst, inl, inr}
use Rattle.std.specs.List.{slice_get, Contains}
use Rattle.std.proofs.lemmas.List.Elements.{Contains-push_cases}
use Rattle.ws_map.specs.Kept.{taken}
use Rattle.ws_action.specs.Actions.{Action, action_id, IsSized}
use Rattle.ws_action.specs.Clash.{Includes, AllSized}
use Rattle.ws_action.proofs.Members.{none_in_empty}
use Rattle.ws_cache.specs.Held.{CacheStandsFor}
use Rattle.ws_cache.specs.Joined.{lesser}
use Rattle.ws_cache.proofs.Joined.{empty_stands, taken_stands}
use Rattle.ws_board.specs.declared.work.Event.TheVariants.{Take, Back, Idle}
use Rattle.ws_board.specs.Work.{Entries, Opening, BoardState, Seen}
use Rattle.ws_board.specs.Machine.{status_at, action_at, held}
use Rattle.ws_board.specs.Calls.{IsFresh, Happens}
use Rattle.ws_board.specs.Ends.{End, end_result, end_results, AreEnds, IsRanked, AreClear, HasResults, AddsOwn, MayBeResult}
use Rattle.ws_board.proofs.Meeting.{comes, came_has, formed_of}
use Rattle.ws_board.proofs.Sounds.{KeepsIn}
use Rattle.ws_board.proofs.Tells.{clear_with, clear_alone, tells_by}

pub own_first : (seen : Seen) → IsFresh seen → AddsOwn seen
own_first seen fresh = record { entries = []; stands = empty_stands seen.state.added fresh.first.added; sized = λ a c. absurd (none_in_empty a c); among = λ E rank ends stands down are clear a c. absurd (none_in_empty a c) }

pub own_same : (old new : Seen) → new.opening ≡ old.opening → new.state.added ≡ old.state.added → AddsOwn old → AddsOwn new
own_same old new opened added own = record {
  entries = own.entries;
  stands = subst (λ (m : Entries). CacheStandsFor m own.entries) (sym added) own.stands;
  sized = own.sized;
  among = subst (λ (o : Opening). (E : List Action) (rank : ℕ → ℕ) (ends : List End) → CacheStandsFor o.cache E → IsRanked rank o.jobs → AreEnds o.jobs ends → AreClear E (end_results ends) → Includes (end_results ends) own.entries) (sym opened) own.among;
}

-- no event but a finish adds anything
pub own_take : (old new : Seen) (hand job : ℕ) → Happens old (Take hand job) new → AddsOwn old → AddsOwn new
own_take old new hand job h own = own_same old new h.opening (ap (λ (s : BoardState). s.added) h.step.2) own

pub own_back : (old new : Seen) (hand job : ℕ) → Happens old (Back hand job) new → AddsOwn old → AddsOwn new
own_back old new hand job h own = own_same old new h.opening (ap (λ (s : BoardState). s.added) h.step.2) own

pub own_idle : (old new : Seen) (hand : ℕ) → Happens old (Idle hand) new → AddsOwn old → AddsOwn new
own_idle old new hand h own = own_same old new h.opening (ap (λ (s : BoardState). s.added) h.step.1) own

pub own_ends : (seen : Seen) → AddsOwn seen → ((N : List Action) → CacheStandsFor seen.state.added N → HasResults seen N) → HasResults seen []
own_ends seen own to E rank ends stands down are clear =
    let alone : AreClear E (end_results ends) = clear_alone E (end_results ends) clear in
    to own.entries own.stands E rank ends stands down are (clear_with E own.entries (end_results ends) (own.among E rank ends stands down are alone) own.sized alone)

-- ---- jobs' own actions

module _ (op : Opening) (old : BoardState) (keeps : KeepsIn op old) (job : ℕ) (a : Action) (its : action_at old.standings.actions job ≡ Some a) (entries : List Action) (put : CacheStandsFor old.added entries) (sized : AllSized entries) where
  its_sized : IsSized a
  its_sized = (formed_of (held op old) old.standings (slice_get op.jobs job) (status_at old.standings.statuses job) (action_at old.standings.actions job) a (keeps.sound job) its).formed.sized

  came_own : (E : List Action) (rank : ℕ → ℕ) (ends : List End) → CacheStandsFor op.cache E → IsRanked rank op.jobs → AreEnds op.jobs ends → AreClear E (end_results ends) → Includes (end_results ends) entries → Contains (end_results ends) a
  came_own E rank ends stands down are clear among =
      let tells = tells_by op old E entries (end_results ends) stands put (clear_with E entries (end_results ends) among sized clear) in
      came_has ends job a (ap end_result (comes op.jobs (held op old) old.standings ends rank down are keeps tells job a its).end)

-- the action of a job comes, where only such were added
pub own_comes : (seen : Seen) (job : ℕ) (a : Action) → KeepsIn seen.opening seen.state → action_at seen.state.standings.actions job ≡ Some a → AddsOwn seen → MayBeResult seen.opening a
own_comes seen job a keeps its own = record {
  sized = its_sized seen.opening seen.state keeps job a its own.entries own.stands own.sized;
  among = λ E rank ends stands down are clear.
      came_own seen.opening seen.state keeps job a its own.entries own.stands own.sized E rank ends stands down are clear (own.among E rank ends stands down are clear);
}

pub own_finish : (old new : Seen) (a : Action) → new.opening ≡ old.opening → new.state.added ≡ taken lesser old.state.added (action_id a) a → MayBeResult old.opening a → AddsOwn old → AddsOwn new
own_finish old new a opened added comes own = record {
  entries = own.entries ++ a ∷ [];
  stands = taken_stands old.state.added new.state.added own.entries a added own.stands;
  sized = λ x c. elim (Contains-push_cases own.entries a x c) [ inl l ↦ own.sized x l | inr e ↦ subst IsSized e comes.sized ];
  among = subst (λ (o : Opening). (E : List Action) (rank : ℕ → ℕ) (ends : List End) → CacheStandsFor o.cache E → IsRanked rank o.jobs → AreEnds o.jobs ends → AreClear E (end_results ends) → Includes (end_results ends) (own.entries ++ a ∷ [])) (sym opened)
      (λ E rank ends stands down are clear x c. elim (Contains-push_cases own.entries a x c) [
        | inl l ↦ own.among E rank ends stands down are clear x l
        | inr e ↦ subst (Contains (end_results ends)) e (comes.among E rank ends stands down are clear)
      ]);
}
