-- What caches owe where hashed texts don't clash, and how counts by ids and by actions agree.
use Rattle.std.specs.Prelude.{◌≡◌, ℕ, suc, Bool, true, false, ◌||◌, if◌then◌else◌, List, [], ◌∷◌, ◌++◌, map, refl, Option, Some, None, is_some, ◌≢◌}
use Rattle.std.specs.List.{Contains, list_any}
use Rattle.std.specs.Str.{bytes_eq}
use Rattle.std.specs.Bool.{one_answer, Decides}
use Rattle.std.specs.declared.cmp.Ordering.{Ordering}
use Rattle.std.specs.declared.cmp.Ordering.TheVariants.{Less, Equal, Greater}
use Rattle.std.specs.Ordering.{is_eq}
use Rattle.std.specs.FinMap.{FinMap, get}
use Rattle.std.proofs.lemmas.Cmp.{tied_itself}
use Rattle.std.proofs.lemmas.Map.Text.{is_eq-slice_cmp}
use Rattle.std.proofs.lemmas.List.Elements.{Contains-append_left, Contains-append_right, Contains-push, Contains-push_cases}
use Rattle.std.proofs.Common.{sym, ap, subst, ◌∙◌, inl, inr}
use Rattle.ws_map.specs.Kept.{SameMembers, taken}
use Rattle.ws_action.specs.Actions.{Action, action_id, action_cmp}
use Rattle.ws_action.specs.Clash.{NoClash, Includes, hashed_actions, AllSized}
use Rattle.ws_action.proofs.OneAction.{one_action}
use Rattle.ws_action.proofs.Members.{head_or_later, later, at_head, none_in_empty}
use Rattle.ws_action.proofs.Order.{action_cmp_total, action_cmp-IsAntisymmetric}
use Rattle.ws_cache.specs.Count.{count_new, compiled_count, new_actions_count}
use Rattle.ws_cache.specs.Held.{IsHeld, id_cmp, CacheStandsFor}
use Rattle.ws_cache.specs.Joined.{lesser}
use Rattle.ws_cache.specs.Laws.{id_cmp_total, id_cmp-IsAntisymmetric}
use Rattle.ws_cache.proofs.Joined.{cache_stands, taken_stands, one_cache}

pub put_again : (m : FinMap id_cmp Action) (E : List Action) (a : Action) → CacheStandsFor m E → Contains E a → taken lesser m (action_id a) a ≡ m
put_again m E a h p =
    let same : SameMembers (E ++ a ∷ []) E = λ x. (λ c. elim (Contains-push_cases E a x c) [ inl n ↦ n | inr e ↦ subst (Contains E) e p ], λ c. Contains-append_left E (a ∷ []) x c) in
    one_cache (taken lesser m (action_id a) a) m (E ++ a ∷ []) E same (taken_stands m (taken lesser m (action_id a) a) E a refl h) h

itself : (T : List (List ℕ)) (E : List Action) → NoClash T → Includes T (hashed_actions E) → AllSized E → (a : Action) → Contains E a → (held : Option Action) → IsHeld E (action_id a) held → held ≡ Some a
itself T E clear among sized a p None h = absurd (h a p refl)
itself T E clear among sized a p (Some b) h = ap Some (one_action T E clear among sized b a h.among p h.known)

pub found_itself : (T : List (List ℕ)) (E : List Action) → NoClash T → Includes T (hashed_actions E) → AllSized E → (m : FinMap id_cmp Action) → CacheStandsFor m E → (a : Action) → Contains E a → get m (action_id a) ≡ Some a
found_itself T E clear among sized m h a p = itself T E clear among sized a p (get m (action_id a)) (cache_stands m E h (action_id a))

among_one_more : (E : List Action) (a b : Action) → Contains E b → Contains (E ++ a ∷ []) b
among_one_more E a b c = Contains-append_left E (a ∷ []) b c

held_is_it : (T : List (List ℕ)) (E : List Action) (a b : Action) → NoClash T → Includes T (hashed_actions (E ++ a ∷ [])) → AllSized (E ++ a ∷ []) → (held : Option Action) → IsHeld E (action_id a) held → held ≡ Some b → b ≡ a
held_is_it T E a b clear among sized None h e = cc
held_is_it T E a b clear among sized (Some x) h e =
    let same : x ≡ b = cc in
    sym same ∙ one_action T (E ++ a ∷ []) clear among sized x a (among_one_more E a x h.among) (Contains-push E a) h.known

-- what is found by an action's id is the action, also where it was not put
pub found_no_other : (T : List (List ℕ)) (E : List Action) (a b : Action) → NoClash T → Includes T (hashed_actions (E ++ a ∷ [])) → AllSized (E ++ a ∷ []) → (m : FinMap id_cmp Action) → CacheStandsFor m E → get m (action_id a) ≡ Some b → b ≡ a
found_no_other T E a b clear among sized m h e = held_is_it T E a b clear among sized (get m (action_id a)) (cache_stands m E h (action_id a)) e

-- ---- counts

equal_from : (r : Ordering) → is_eq r ≡ true → r ≡ Equal
equal_from Less e = cc
equal_from Equal e = refl
equal_from Greater e = cc

or_true : (b : Bool) → (b || true) ≡ true
or_true true = refl
or_true false = refl

false_from : (b : Bool) → ¬ (b ≡ true) → b ≡ false
false_from true h = absurd (h refl)
false_from false h = refl

-- the tests of ids and of actions
abbrev same_id : Action → Action → Bool
same_id a b = bytes_eq (action_id a) (action_id b)

abbrev pub same_action : Action → Action → Bool
same_action a b = is_eq (action_cmp a b)

pub same_action-Decides : (a b : Action) → Decides (same_action a b) (a ≡ b)
same_action-Decides a b = (
  λ e. action_cmp-IsAntisymmetric a b (equal_from (action_cmp a b) e),
  λ e. subst (λ z. same_action a z ≡ true) e (ap is_eq (tied_itself action_cmp_total a)),
)

ids_equal : (s t : List ℕ) → bytes_eq s t ≡ true → s ≡ t
ids_equal s t e = id_cmp-IsAntisymmetric s t (equal_from (id_cmp s t) (is_eq-slice_cmp s t ∙ e))

ids_tied : (s : List ℕ) → bytes_eq s s ≡ true
ids_tied s = sym (is_eq-slice_cmp s s) ∙ ap is_eq (tied_itself id_cmp_total s)

module _ (T : List (List ℕ)) (U : List Action) (clear : NoClash T) (among : Includes T (hashed_actions U)) (sized : AllSized U) where
  tests_agree : (a b : Action) → Contains U a → Contains U b → same_id a b ≡ same_action a b
  tests_agree a b p q = one_answer {P = a ≡ b} (same_id a b) (same_action a b) (
    λ e. one_action T U clear among sized a b p q (ids_equal (action_id a) (action_id b) e),
    λ e. subst (λ z. same_id a z ≡ true) e (ids_tied (action_id a)),
  ) (same_action-Decides a b)

  any_agree : (a : Action) → Contains U a → (seen : List Action) → Includes U seen → list_any (bytes_eq (action_id a)) (map action_id seen) ≡ list_any (same_action a) seen
  any_agree a p [] h = refl
  any_agree a p (b ∷ seen) h =
      ap (λ t. t || list_any (bytes_eq (action_id a)) (map action_id seen)) (tests_agree a b p (h b (at_head seen b b refl)))
      ∙ ap (λ t. same_action a b || t) (any_agree a p seen (λ x c. h x (later b seen x c)))

  one_more : (a : Action) (xs : List Action) → Contains U a → Includes U xs → Includes U (a ∷ xs)
  one_more a xs p h x c = elim (head_or_later a xs x c) [ inl e ↦ subst (Contains U) e p | inr l ↦ h x l ]

  counts_of : (seen xs : List Action) → Includes U seen → Includes U xs → count_new bytes_eq (map action_id seen) (map action_id xs) ≡ count_new same_action seen xs
  counts_of seen [] k h = refl
  counts_of seen (a ∷ rest) k h =
      let p : Contains U a = h a (at_head rest a a refl) in
      let rest_among : Includes U rest = λ x c. h x (later a rest x c) in
      ap (λ t. if t then count_new bytes_eq (map action_id seen) (map action_id rest) else suc (count_new bytes_eq (map action_id (a ∷ seen)) (map action_id rest))) (any_agree a p seen k)
      ∙ ap (λ n. if list_any (same_action a) seen then n else suc (count_new bytes_eq (map action_id (a ∷ seen)) (map action_id rest))) (counts_of seen rest k rest_among)
      ∙ ap (λ n. if list_any (same_action a) seen then count_new same_action seen rest else suc n) (counts_of (a ∷ seen) rest (one_more a seen p k) rest_among)

pub counts_agree : (T : List (List ℕ)) (E actions : List Action) → NoClash T → Includes T (hashed_actions (E ++ actions)) → AllSized (E ++ actions) → compiled_count E actions ≡ new_actions_count E actions
counts_agree T E actions clear among sized = counts_of T (E ++ actions) clear among sized E actions (λ x c. Contains-append_left E actions x c) (λ x c. Contains-append_right E actions x c)

-- ---- one action

any_known : (E : List Action) (id : List ℕ) (b : Action) → Contains E b → action_id b ≡ id → list_any (bytes_eq id) (map action_id E) ≡ true
any_known [] id b c e = absurd (none_in_empty b c)
any_known (x ∷ rest) id b c e = elim (head_or_later x rest b c) [
  | inl same ↦ ap (λ t. t || list_any (bytes_eq id) (map action_id rest)) (subst (λ z. bytes_eq id z ≡ true) (sym e ∙ ap action_id (sym same)) (ids_tied id))
  | inr l ↦ ap (λ t. bytes_eq id (action_id x) || t) (any_known rest id b l e) ∙ or_true (bytes_eq id (action_id x))
]

none_known : (E : List Action) (id : List ℕ) → ((a : Action) → Contains E a → action_id a ≢ id) → list_any (bytes_eq id) (map action_id E) ≡ false
none_known [] id h = refl
none_known (x ∷ rest) id h = ap (λ t. t || list_any (bytes_eq id) (map action_id rest)) (false_from (bytes_eq id (action_id x)) (λ e. h x (at_head rest x x refl) (sym (ids_equal id (action_id x) e)))) ∙ none_known rest id (λ a c. h a (later x rest a c))

count_of_held : (E : List Action) (a : Action) (held : Option Action) → IsHeld E (action_id a) held → compiled_count E (a ∷ []) ≡ (if is_some held then 0 else 1)
count_of_held E a None h = ap (λ t. if t then 0 else 1) (none_known E (action_id a) h)
count_of_held E a (Some b) h = ap (λ t. if t then 0 else 1) (any_known E (action_id a) b h.among h.known)

-- of one action none is to be compiled where its id is found, and else one
pub count_of_one : (m : FinMap id_cmp Action) (E : List Action) (a : Action) → CacheStandsFor m E → compiled_count E (a ∷ []) ≡ (if is_some (get m (action_id a)) then 0 else 1)
count_of_one m E a h = count_of_held E a (get m (action_id a)) (cache_stands m E h (action_id a))
