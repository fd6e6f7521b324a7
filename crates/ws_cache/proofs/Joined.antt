-- Caches as maps that keep the least action for each id: what stands for a set of actions, one more action, and the union.
use Rattle.std.specs.Prelude.{◌≡◌, ℕ, List, [], ◌∷◌, ◌++◌, refl, Option, Some, None}
use Rattle.std.specs.List.{Contains}
use Rattle.std.specs.FinMap.{FinMap, get, empty, get-empty}
use Rattle.std.proofs.Common.{sym, ap, subst, ◌∙◌, inl, inr}
use Rattle.ws_map.specs.Kept.{StandsAt, StandsFor, SameMembers, joined, taken}
use Rattle.ws_map.proofs.Gathered.{stands_for_taken, stands_for_joined}
use Rattle.ws_map.proofs.Kept.{one_map}
use Rattle.ws_action.specs.Actions.{Action, action_id}
use Rattle.ws_action.proofs.Members.{head_or_later, later, at_head, none_in_empty}
use Rattle.ws_cache.specs.Held.{IsHeld, id_cmp, CacheStandsFor}
use Rattle.ws_cache.specs.Joined.{downwards, lesser}
use Rattle.ws_cache.specs.Laws.{id_cmp_total, id_cmp-IsAntisymmetric, downwards_total, downwards-IsAntisymmetric}

-- ---- sets of actions as sets of pairs

-- the actions with their ids
abbrev pub with_ids : List Action → List (List ℕ × Action)
with_ids [] = []
with_ids (a ∷ rest) = (action_id a, a) ∷ with_ids rest

with_ids-append : (E F : List Action) → with_ids (E ++ F) ≡ with_ids E ++ with_ids F
with_ids-append [] F = refl
with_ids-append (x ∷ rest) F = ap (λ r. (action_id x, x) ∷ r) (with_ids-append rest F)

with_ids_from : (E : List Action) (a : Action) → Contains E a → Contains {X = List ℕ × Action} (with_ids E) (action_id a, a)
with_ids_from [] a c = absurd (none_in_empty a c)
with_ids_from (x ∷ rest) a c = elim (head_or_later x rest a c) [
  | inl e ↦ at_head (with_ids rest) (action_id x, x) (action_id a, a) (ap (λ z. (action_id z, z)) e)
  | inr l ↦ later (action_id x, x) (with_ids rest) (action_id a, a) (with_ids_from rest a l)
]

with_id_from : (E : List Action) (id : List ℕ) (a : Action) → Contains E a → action_id a ≡ id → Contains {X = List ℕ × Action} (with_ids E) (id, a)
with_id_from E id a c e = subst (λ z. Contains {X = List ℕ × Action} (with_ids E) (z, a)) e (with_ids_from E a c)

with_ids_to : (E : List Action) (id : List ℕ) (a : Action) → Contains {X = List ℕ × Action} (with_ids E) (id, a) → Contains E a × (action_id a ≡ id)
with_ids_to [] id a c = absurd (none_in_empty {A = List ℕ × Action} (id, a) c)
with_ids_to (x ∷ rest) id a c = elim (head_or_later {A = List ℕ × Action} (action_id x, x) (with_ids rest) (id, a) c) [
  | inl e ↦
      let same : x ≡ a = ap (λ (p : List ℕ × Action). p.1) e in
      let ids : action_id x ≡ id = ap (λ (p : List ℕ × Action). p.0) e in
      (at_head rest x a same, ap action_id (sym same) ∙ ids)
  | inr l ↦ let w = with_ids_to rest id a l in (later x rest a w.0, w.1)
]

held_from : (E : List Action) (id : List ℕ) (held : Option Action) → IsHeld E id held → StandsAt downwards (with_ids E) id held
held_from E id None h = λ a c. let w = with_ids_to E id a c in h a w.0 w.1
held_from E id (Some a) h = record {
  among = with_id_from E id a h.among h.known;
  above = λ b c. let w = with_ids_to E id b c in h.least b w.0 w.1;
}

held_to : (E : List Action) (id : List ℕ) (held : Option Action) → StandsAt downwards (with_ids E) id held → IsHeld E id held
held_to E id None h = λ a c e. h a (with_id_from E id a c e)
held_to E id (Some a) h =
    let w = with_ids_to E id a h.among in
    record { among = w.0; known = w.1; least = λ b c e. h.above b (with_id_from E id b c e) }

stands_from : (m : FinMap id_cmp Action) (E : List Action) → CacheStandsFor m E → StandsFor downwards m (with_ids E)
unfolding CacheStandsFor StandsFor
stands_from m E h id = held_from E id (get m id) (h id)

stands_to : (m : FinMap id_cmp Action) (E : List Action) → StandsFor downwards m (with_ids E) → CacheStandsFor m E
unfolding CacheStandsFor StandsFor
stands_to m E h id = held_to E id (get m id) (h id)

-- ---- what caches stand for

pub cache_stands : (m : FinMap id_cmp Action) (E : List Action) → CacheStandsFor m E → (id : List ℕ) → IsHeld E id (get m id)
unfolding CacheStandsFor
cache_stands m E h = h

pub empty_stands : (m : FinMap id_cmp Action) → m ≡ empty → CacheStandsFor m []
unfolding CacheStandsFor
empty_stands m e id = subst (IsHeld [] id) (sym (ap (λ (n : FinMap id_cmp Action). get n id) e ∙ get-empty id_cmp id)) (λ a c. absurd (none_in_empty a c))

-- one more action
pub taken_stands : (m n : FinMap id_cmp Action) (E : List Action) (a : Action) → n ≡ taken lesser m (action_id a) a → CacheStandsFor m E → CacheStandsFor n (E ++ a ∷ [])
taken_stands m n E a e h =
    let more_pairs = stands_for_taken id_cmp_total id_cmp-IsAntisymmetric downwards_total m n (with_ids E) (action_id a) a e (stands_from m E h) in
    stands_to n (E ++ a ∷ []) (subst (λ W. StandsFor downwards n W) (sym (with_ids-append E (a ∷ []))) more_pairs)

-- the union
pub joined_stands : (m n l : FinMap id_cmp Action) (E F : List Action) → l ≡ joined lesser m n → CacheStandsFor m E → CacheStandsFor n F → CacheStandsFor l (E ++ F)
joined_stands m n l E F e g h =
    let both = stands_for_joined id_cmp_total id_cmp-IsAntisymmetric downwards_total m n l (with_ids E) (with_ids F) e (stands_from m E g) (stands_from n F h) in
    stands_to l (E ++ F) (subst (λ W. StandsFor downwards l W) (sym (with_ids-append E F)) both)

same_ids : (E F : List Action) → ((a : Action) → Contains E a → Contains F a) → (p : List ℕ × Action) → Contains (with_ids E) p → Contains (with_ids F) p
same_ids E F f p c = let w = with_ids_to E p.0 p.1 c in with_id_from F p.0 p.1 (f p.1 w.0) w.1

-- caches that stand for the same actions are one
pub one_cache : (m n : FinMap id_cmp Action) (E F : List Action) → SameMembers E F → CacheStandsFor m E → CacheStandsFor n F → m ≡ n
one_cache m n E F same g h =
    let pairs : SameMembers (with_ids E) (with_ids F) = λ p. (same_ids E F (λ a. (same a).0) p, same_ids F E (λ a. (same a).1) p) in
    one_map downwards_total id_cmp_total id_cmp-IsAntisymmetric downwards-IsAntisymmetric m n (with_ids E) (with_ids F) pairs (stands_from m E g) (stands_from n F h)
