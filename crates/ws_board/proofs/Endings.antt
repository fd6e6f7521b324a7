-- When nothing is left to do, the jobs came to their ends.
use Rattle.std.proofs.Common.{◌≡◌, ℕ, Bool, true, false, List, ◌++◌, map, count_by, Option, Some, None, refl, sym, ap, ◌∙◌, subst, inl, inr, ◌⊎◌}
use Rattle.std.specs.List.{list_any, Contains}
use Rattle.std.proofs.lemmas.List.{length-map}
use Rattle.std.proofs.lemmas.List.Elements.{Contains-append_left, Contains-append_right, Contains-append_cases}
use Rattle.ws_map.specs.Kept.{joined, SameMembers}
use Rattle.ws_action.specs.Actions.{Action, action_id, IsSized}
use Rattle.ws_cache.specs.Compiles.{Compiled, Compiles}
use Rattle.ws_cache.specs.Count.{compiled_count}
use Rattle.ws_cache.specs.Held.{CacheStandsFor}
use Rattle.ws_cache.specs.Joined.{lesser}
use Rattle.ws_cache.proofs.Joined.{joined_stands}
use Rattle.ws_board.specs.declared.work.JobStatus.{JobStatus}
use Rattle.ws_board.specs.declared.work.JobStatus.TheVariants.{Waiting, Ready, Running, Blocked as Stays, Done}
use Rattle.ws_board.specs.Work.{Opening, BoardState, Seen}
use Rattle.ws_board.specs.Machine.{Holdings, is_open, status_at, action_at, held, IsHistory, is_idle, is_finish}
use Rattle.ws_board.specs.Calls.{result_of}
use Rattle.ws_board.specs.Ends.{End, Blocked, Came, end_at, end_result, end_results, AreEnds, IsRanked, AreClear, HasResults}
use Rattle.ws_board.proofs.Counts.{known, id_known, known_id, count_is, not_true}
use Rattle.ws_board.proofs.Finished.{AreEntered, none_put, history_entered}
use Rattle.ws_board.proofs.Idle.{after_idle, all_settled}
use Rattle.ws_board.proofs.Meeting.{Meets, meets, came_has, came_from}
use Rattle.ws_board.proofs.Sounds.{KeepsIn, history_keeps}
use Rattle.ws_board.proofs.Tells.{tell, tells_by, stands_same, least_of, some_of, held_from, in_either}

-- what a settled job came to
pub record Settled (h : Holdings) (ends : List End) (a : Action) : Type 0 where
  pub result : Compiled
  pub itself : h (action_id a) ≡ Some a
  pub compiles : Compiles a result
  pub sized : IsSized a

met_end : (h : Holdings) (s : JobStatus) (x : Option Action) (e : End) (ends : List End) (a : Action) → is_open s ≡ false → Meets h s x e → end_result e ≡ Some a → Settled h ends a
met_end h Stays x e ends a shut m is = let c : None ≡ Some a = sym (ap end_result m.1) ∙ is in absurd (cc)
met_end h (Done good) x e ends a shut (b, r, its, itself, end, compiles, tells, sized) is =
    let same : b ≡ a = (let p : Some b ≡ Some a = sym (ap end_result end) ∙ is in cc) in
    record { result = r; itself = subst (λ z. h (action_id z) ≡ Some z) same itself; compiles = subst (λ z. Compiles z r) same compiles; sized = subst IsSized same sized }
met_end h Waiting x e ends a shut m is = absurd (cc)
met_end h Ready x e ends a shut m is = absurd (cc)
met_end h (Running hand) x e ends a shut m is = absurd (cc)

met_compiles : (h : Holdings) (s : JobStatus) (x : Option Action) (e : End) (a : Action) (r : Compiled) → is_open s ≡ false → Meets h s x e → e ≡ Came a r → Compiles a r
met_compiles h Stays x e a r shut m is = let c : Blocked ≡ Came a r = sym m.1 ∙ is in absurd (cc)
met_compiles h (Done good) x e a r shut (b, q, its, itself, end, compiles, tells, sized) is =
    let both : Came b q ≡ Came a r = sym end ∙ is in
    let same : b ≡ a = (let p : Some b ≡ Some a = ap end_result both in cc) in
    let results : q ≡ r = ap (result_in q) both in
    subst (λ z. Compiles z r) same (subst (Compiles b) results compiles)
  where
    result_in : Compiled → End → Compiled
    result_in other Blocked = other
    result_in other (Came a r) = r
met_compiles h Waiting x e a r shut m is = absurd (cc)
met_compiles h Ready x e a r shut m is = absurd (cc)
met_compiles h (Running hand) x e a r shut m is = absurd (cc)

met_result : (h : Holdings) (s : JobStatus) (x : Option Action) (e : End) → is_open s ≡ false → Meets h s x e → result_of h s x ≡ end_result e
met_result h Stays x e shut m = sym (ap end_result m.1)
met_result h (Done good) x e shut (a, r, its, itself, end, compiles, tells, sized) = ap (result_of h (Done good)) its ∙ itself ∙ sym (ap end_result end)
met_result h Waiting x e shut m = absurd (cc)
met_result h Ready x e shut m = absurd (cc)
met_result h (Running hand) x e shut m = absurd (cc)

done_came : (h : Holdings) (s : JobStatus) (x : Option Action) (e : End) (good : Bool) (a : Action) → Meets h s x e → s ≡ Done good → x ≡ Some a → end_result e ≡ Some a
done_came h (Done g) x e good a (b, r, its, itself, end, compiles, tells, sized) is at = ap end_result end ∙ sym its ∙ at
done_came h Stays x e good a m is at = absurd (cc)
done_came h Waiting x e good a m is at = absurd (cc)
done_came h Ready x e good a m is at = absurd (cc)
done_came h (Running hand) x e good a m is at = absurd (cc)

module _ (opening : Opening) (now : BoardState) (E N : List Action) (stands : CacheStandsFor opening.cache E) (added : CacheStandsFor now.added N) (rank : ℕ → ℕ) (ends : List End)
    (down : IsRanked rank opening.jobs) (are : AreEnds opening.jobs ends) (clear : AreClear (E ++ N) (end_results ends)) (keeps : KeepsIn opening now) where
  abbrev here : Holdings
  here = held opening now

  pub met : (k : ℕ) → Meets here (status_at now.standings.statuses k) (action_at now.standings.actions k) (end_at ends k)
  met = meets opening.jobs here now.standings ends rank down are keeps (tells_by opening now E N (end_results ends) stands added clear)

  module _ (shut : (k : ℕ) → is_open (status_at now.standings.statuses k) ≡ false) where
    settled : (a : Action) → Contains (end_results ends) a → Settled here ends a
    settled a c = let k = came_from ends a c in met_end here (status_at now.standings.statuses k.0) (action_at now.standings.actions k.0) (end_at ends k.0) ends a (shut k.0) (met k.0) k.1

    module _ (count : ℕ) (entries : List Action) (entered : AreEntered opening now count entries) where
      -- an entry's job came to something
      entry_came : (x : Action) → Contains entries x → (a : Action) × Contains (end_results ends) a × (action_id a ≡ action_id x)
      entry_came x c =
          let d = entered.from x c in
          let is = done_came here (status_at now.standings.statuses d.job) (action_at now.standings.actions d.job) (end_at ends d.job) d.good d.action (met d.job) d.done d.its in
          (d.action, came_has ends d.job d.action is, d.id_is)

      new_came : (y : Action) → Contains N y → Contains (end_results ends) y
      new_came y c =
          let C : List Action = end_results ends in
          let all : List Action = (E ++ N) ++ C in
          let mine : Contains (E ++ N) y = Contains-append_right E N y c in
          let got = some_of now.added N added y c in
          let l = least_of now.added N added (action_id y) got.0 got.1 in
          let its : Contains (E ++ N) got.0 = Contains-append_right E N got.0 l.among in
          let same : got.0 ≡ y = tell all clear.clear got.0 y (Contains-append_left (E ++ N) C got.0 its) (Contains-append_left (E ++ N) C y mine) (clear.sized got.0 its) (clear.sized y mine) l.known in
          let among : Contains entries y = (least_of now.added entries entered.stands (action_id y) y (got.1 ∙ ap Some same)).among in
          let r = entry_came y among in
          let is : r.0 ≡ y = tell all clear.clear r.0 y (Contains-append_right (E ++ N) C r.0 r.1) (Contains-append_left (E ++ N) C y mine) (settled r.0 r.1).sized (clear.sized y mine) r.2 in
          subst (λ z. Contains C z) is r.1

      from_came : (y : Action) → Contains (end_results ends) y → Contains E y ⊎ Contains N y
      from_came y c = (held_from opening now E N stands added (action_id y) y (settled y c).itself).0

      same_members : SameMembers (E ++ N) (E ++ end_results ends)
      same_members y = (
        λ c. elim (Contains-append_cases E N y c) [
          | inl l ↦ Contains-append_left E (end_results ends) y l
          | inr r ↦ Contains-append_right E (end_results ends) y (new_came y r)
        ],
        λ c. elim (Contains-append_cases E (end_results ends) y c) [
          | inl l ↦ Contains-append_left E N y l
          | inr r ↦ in_either E N y (from_came y r)
        ],
      )

      ids_apart : (y : List ℕ) → known (map action_id entries) y ≡ true → known (map action_id E) y ≡ false
      ids_apart y k =
          let x = known_id entries y k in
          not_true (known (map action_id E) y) (λ e. (let z = known_id E y e in none_put opening.cache E stands (action_id x.0) (entered.apart x.0 x.1) z.0 z.1 (z.2 ∙ sym x.2)))

      ids_among : (y : List ℕ) → known (map action_id entries) y ≡ true → known (map action_id (end_results ends)) y ≡ true
      ids_among y k = let x = known_id entries y k in let r = entry_came x.0 x.1 in id_known (end_results ends) y r.0 r.1 (r.2 ∙ x.2)

      ids_covered : (y : List ℕ) → known (map action_id (end_results ends)) y ≡ true → (known (map action_id E) y ≡ true) ⊎ (known (map action_id entries) y ≡ true)
      ids_covered y k =
          let a = known_id (end_results ends) y k in
          covers a.0 a.2 (held_from opening now E entries stands entered.stands (action_id a.0) a.0 (settled a.0 a.1).itself).0
        where
          covers : (a : Action) → action_id a ≡ y → Contains E a ⊎ Contains entries a → (known (map action_id E) y ≡ true) ⊎ (known (map action_id entries) y ≡ true)
          covers a is (inl l) = inl (id_known E y a l is)
          covers a is (inr r) = inr (id_known entries y a r is)

      counts : count ≡ compiled_count E (end_results ends)
      counts =
          entered.counted ∙ sym (length-map entries action_id)
          ∙ sym (count_is (map action_id entries) (map action_id E) (map action_id (end_results ends)) entered.distinct ids_apart ids_among ids_covered)

      pub told_stands : CacheStandsFor (joined lesser opening.cache now.added) (E ++ end_results ends)
      told_stands = stands_same (joined lesser opening.cache now.added) (E ++ N) (E ++ end_results ends) same_members (joined_stands opening.cache now.added (joined lesser opening.cache now.added) E N refl stands added)

      pub told_counts : count ≡ compiled_count E (end_results ends)
      told_counts = counts

    pub told_at : (k : ℕ) → result_of here (status_at now.standings.statuses k) (action_at now.standings.actions k) ≡ end_result (end_at ends k)
    told_at k = met_result here (status_at now.standings.statuses k) (action_at now.standings.actions k) (end_at ends k) (shut k) (met k)

    pub told_compiles : (k : ℕ) (a : Action) (r : Compiled) → end_at ends k ≡ Came a r → Compiles a r
    told_compiles k a r is = met_compiles here (status_at now.standings.statuses k) (action_at now.standings.actions k) (end_at ends k) a r (shut k) (met k) is

    pub told_sized : (a : Action) → Contains (end_results ends) a → IsSized a
    told_sized a c = (settled a c).sized

pub comes_to : (seen : Seen) → IsHistory seen.opening seen.history seen.state → list_any is_idle seen.history ≡ true → (N : List Action) → CacheStandsFor seen.state.added N → HasResults seen N
comes_to seen h idled N added E rank ends stands down are clear =
    let op : Opening = seen.opening in
    let now : BoardState = seen.state in
    let keeps : KeepsIn op now = history_keeps op seen.history now h in
    let shut : (k : ℕ) → is_open (status_at now.standings.statuses k) ≡ false =
    all_settled op.jobs (held op now) now.standings keeps (after_idle op seen.history h.first now h.replays idled) rank down in
    let entered = history_entered op seen.history now h in
    record {
      told = told_at op now E N stands added rank ends down are clear keeps shut;
      compiled = told_compiles op now E N stands added rank ends down are clear keeps shut;
      sized = told_sized op now E N stands added rank ends down are clear keeps shut;
      stands = told_stands op now E N stands added rank ends down are clear keeps shut (count_by is_finish seen.history) entered.0 entered.1;
      count = told_counts op now E N stands added rank ends down are clear keeps shut (count_by is_finish seen.history) entered.0 entered.1;
    }
