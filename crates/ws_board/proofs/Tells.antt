-- Where no two hashed texts clash, ids tell the actions.
use Rattle.std.proofs.Common.{◌≡◌, ℕ, List, [], ◌∷◌, ◌++◌, Option, Some, None, refl, sym, ◌∙◌, subst, inl, inr, ◌⊎◌}
use Rattle.std.specs.List.{Contains}
use Rattle.std.specs.Option.{option_or}
use Rattle.std.specs.FinMap.{get}
use Rattle.std.proofs.lemmas.List.Elements.{Contains-append_left, Contains-append_right, Contains-append_cases}
use Rattle.ws_map.specs.Kept.{SameMembers}
use Rattle.ws_action.specs.Actions.{Action, action_id, IsSized}
use Rattle.ws_action.specs.Clash.{NoClash, Includes, AllSized, hashed, hashed_actions}
use Rattle.ws_action.proofs.Members.{none_in_empty, head_or_later, later, at_head}
use Rattle.ws_action.proofs.OneAction.{one_action}
use Rattle.ws_cache.specs.Held.{IsLeast, IsHeld, CacheStandsFor}
use Rattle.ws_cache.proofs.Joined.{cache_stands}
use Rattle.ws_board.specs.Work.{Entries, Opening, BoardState}
use Rattle.ws_board.specs.Machine.{held}
use Rattle.ws_board.specs.Ends.{AreClear}

-- ---- texts of lists of actions

hashed_from : (A : List Action) (a : Action) → Contains A a → Includes (hashed_actions A) (hashed a)
hashed_from [] a c = absurd (none_in_empty a c)
hashed_from (x ∷ rest) a c = λ s h. elim (head_or_later x rest a c) [
  | inl e ↦ Contains-append_left (hashed x) (hashed_actions rest) s (subst (λ z. Contains (hashed z) s) (sym e) h)
  | inr l ↦ Contains-append_right (hashed x) (hashed_actions rest) s (hashed_from rest a l s h)
]

hashed_to : (A : List Action) (s : List ℕ) → Contains (hashed_actions A) s → (a : Action) × Contains A a × Contains (hashed a) s
hashed_to [] s c = absurd (none_in_empty s c)
hashed_to (x ∷ rest) s c = elim (Contains-append_cases (hashed x) (hashed_actions rest) s c) [
  | inl l ↦ (x, at_head rest x x refl, l)
  | inr r ↦ (let a = hashed_to rest s r in (a.0, later x rest a.0 a.1, a.2))
]

hashed_less : (A B : List Action) → Includes A B → Includes (hashed_actions A) (hashed_actions B)
hashed_less A B sub s c = let a = hashed_to B s c in hashed_from A a.0 (sub a.0 a.1) s a.2

-- fewer texts don't clash either
pub clear_less : (A B : List Action) → Includes A B → NoClash (hashed_actions A) → NoClash (hashed_actions B)
clear_less A B sub clear s t c d e = clear s t (hashed_less A B sub s c) (hashed_less A B sub t d) e

-- one id means one action
pub tell : (A : List Action) → NoClash (hashed_actions A) → (a b : Action) → Contains A a → Contains A b → IsSized a → IsSized b → action_id a ≡ action_id b → a ≡ b
tell A clear a b ca cb sa sb e =
    let two : List Action = a ∷ b ∷ [] in
    let both : (P : Action → Type 0) → P a → P b → (x : Action) → Contains two x → P x =
    λ P pa pb x c. elim (head_or_later a (b ∷ []) x c) [
      | inl same ↦ subst P same pa
      | inr l ↦ elim (head_or_later b [] x l) [ inl same ↦ subst P same pb | inr none ↦ absurd (none_in_empty x none) ]
    ] in
    one_action (hashed_actions two) two (clear_less A two (both (λ x. Contains A x) ca cb) clear) (λ s c. c) (both (λ x. IsSized x) sa sb) a b (at_head (b ∷ []) a a refl) (later a (b ∷ []) b (at_head [] b b refl)) e

-- ---- clear lists

pub clear_with : (E N C : List Action) → Includes C N → AllSized N → AreClear E C → AreClear (E ++ N) C
clear_with E N C sub sized clear = record {
  sized = λ a c. elim (Contains-append_cases E N a c) [ inl l ↦ clear.sized a l | inr r ↦ sized a r ];
  clear = clear_less (E ++ C) ((E ++ N) ++ C) (λ a c. elim (Contains-append_cases (E ++ N) C a c) [
    | inl l ↦ elim (Contains-append_cases E N a l) [ inl e ↦ Contains-append_left E C a e | inr n ↦ Contains-append_right E C a (sub a n) ]
    | inr r ↦ Contains-append_right E C a r
  ]) clear.clear;
}

pub clear_alone : (E C : List Action) → AreClear (E ++ []) C → AreClear E C
clear_alone E C clear = record {
  sized = λ a c. clear.sized a (Contains-append_left E [] a c);
  clear = clear_less ((E ++ []) ++ C) (E ++ C) (λ a c. elim (Contains-append_cases E C a c) [
    | inl l ↦ Contains-append_left (E ++ []) C a (Contains-append_left E [] a l)
    | inr r ↦ Contains-append_right (E ++ []) C a r
  ]) clear.clear;
}

-- ---- what caches stand for

held_same : (E F : List Action) → SameMembers E F → (id : List ℕ) (o : Option Action) → IsHeld E id o → IsHeld F id o
held_same E F same id None h = λ a c. h a ((same a).1 c)
held_same E F same id (Some x) h = record { among = (same x).0 h.among; known = h.known; least = λ b c. h.least b ((same b).1 c) }

pub stands_same : (m : Entries) (E F : List Action) → SameMembers E F → CacheStandsFor m E → CacheStandsFor m F
unfolding CacheStandsFor
stands_same m E F same h id = held_same E F same id (get m id) (h id)

pub least_of : (m : Entries) (E : List Action) → CacheStandsFor m E → (id : List ℕ) (b : Action) → get m id ≡ Some b → IsLeast E id b
least_of m E h id b e = subst (IsHeld E id) e (cache_stands m E h id)

-- what is put is found, if not by its own entry, by one of its id
pub some_of : (m : Entries) (E : List Action) → CacheStandsFor m E → (a : Action) → Contains E a → (b : Action) × (get m (action_id a) ≡ Some b)
some_of m E h a c = by_held (get m (action_id a)) refl (cache_stands m E h (action_id a))
  where
    by_held : (o : Option Action) → get m (action_id a) ≡ o → IsHeld E (action_id a) o → (b : Action) × (get m (action_id a) ≡ Some b)
    by_held None e h = absurd (h a c refl)
    by_held (Some b) e h = (b, e)

-- what is held stems from one of the caches
held_by : (m n : Entries) (E N : List Action) → CacheStandsFor m E → CacheStandsFor n N → (id : List ℕ) (b : Action) (o p : Option Action) → get m id ≡ o → get n id ≡ p → option_or o p ≡ Some b → (Contains E b ⊎ Contains N b) × (action_id b ≡ id)
held_by m n E N g h id b None p e f is = let l = least_of n N h id b (f ∙ is) in (inr l.among, l.known)
held_by m n E N g h id b (Some x) p e f is = let l = least_of m E g id b (e ∙ is) in (inl l.among, l.known)

pub held_from : (opening : Opening) (now : BoardState) (E N : List Action) → CacheStandsFor opening.cache E → CacheStandsFor now.added N → (id : List ℕ) (b : Action) → held opening now id ≡ Some b → (Contains E b ⊎ Contains N b) × (action_id b ≡ id)
held_from opening now E N g h id b is = held_by opening.cache now.added E N g h id b (get opening.cache id) (get now.added id) refl refl is

pub in_either : (E N : List Action) (b : Action) → Contains E b ⊎ Contains N b → Contains (E ++ N) b
in_either E N b (inl c) = Contains-append_left E N b c
in_either E N b (inr c) = Contains-append_right E N b c

-- what is held for the id of an action that comes is that action
pub tells_by : (opening : Opening) (now : BoardState) (E N C : List Action) → CacheStandsFor opening.cache E → CacheStandsFor now.added N → AreClear (E ++ N) C
    → (a entry : Action) → Contains C a → IsSized a → held opening now (action_id a) ≡ Some entry → entry ≡ a
tells_by opening now E N C stands added clear a entry c s is =
    let from = held_from opening now E N stands added (action_id a) entry is in
    let among : Contains (E ++ N) entry = in_either E N entry from.0 in
    tell ((E ++ N) ++ C) clear.clear entry a (Contains-append_left (E ++ N) C entry among) (Contains-append_right (E ++ N) C a c) (clear.sized entry among) s from.1
