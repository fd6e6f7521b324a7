-- What is held, when an entry was added whose id nothing was held for.
use Rattle.std.proofs.Common.{◌≡◌, ℕ, true, false, cond, List, Option, Some, None, refl, ap, ◌∙◌, Bool}
use Rattle.std.specs.Option.{option_or}
use Rattle.std.specs.Ordering.{is_eq, eq_by_cmp}
use Rattle.std.specs.FinMap.{get, empty, get-empty, insert, get-insert}
use Rattle.std.proofs.lemmas.Cmp.{tied_itself}
use Rattle.ws_map.specs.Kept.{taken}
use Rattle.ws_map.specs.Greater.{joined_option}
use Rattle.ws_map.proofs.Kept.{get-joined}
use Rattle.ws_action.specs.Actions.{Action}
use Rattle.ws_cache.specs.Held.{id_cmp}
use Rattle.ws_cache.specs.Joined.{lesser}
use Rattle.ws_cache.specs.Laws.{id_cmp_total, id_cmp-IsAntisymmetric}
use Rattle.ws_board.specs.Work.{Entries, Opening, BoardState}
use Rattle.ws_board.specs.Machine.{Holdings, held}

both_none : (a b : Option Action) → option_or a b ≡ None → (a ≡ None) × (b ≡ None)
both_none None b h = (refl, h)
both_none (Some x) b h = absurd (cc)

get_taken : (m : Entries) (id : List ℕ) (a : Action) (q : List ℕ) → get (taken lesser m id a) q ≡ joined_option lesser (get m q) (cond (eq_by_cmp id_cmp q id) (Some a) None)
get_taken m id a q =
    get-joined id_cmp_total lesser m (insert empty id a) q
    ∙ ap (joined_option lesser (get m q)) (get-insert id_cmp_total empty id a q ∙ ap (λ o. cond (eq_by_cmp id_cmp q id) (Some a) o) (get-empty id_cmp q))

joined_none : (o : Option Action) → joined_option lesser o None ≡ o
joined_none None = refl
joined_none (Some x) = refl

ids_equal : (s t : List ℕ) (b : Bool) → eq_by_cmp id_cmp s t ≡ b → (s ≡ t → ⊥) → b ≡ false
ids_equal s t true e not = absurd (not (id_cmp-IsAntisymmetric s t (equal_from (id_cmp s t) e)))
  where
    equal_from : (r : Rattle.std.specs.declared.cmp.Ordering.Ordering) → is_eq r ≡ true → r ≡ Rattle.std.specs.declared.cmp.Ordering.TheVariants.Equal
    equal_from Rattle.std.specs.declared.cmp.Ordering.TheVariants.Less e = cc
    equal_from Rattle.std.specs.declared.cmp.Ordering.TheVariants.Equal e = refl
    equal_from Rattle.std.specs.declared.cmp.Ordering.TheVariants.Greater e = cc
ids_equal s t false e not = refl

pub taken_other : (m : Entries) (id : List ℕ) (a : Action) (q : List ℕ) → (q ≡ id → ⊥) → get (taken lesser m id a) q ≡ get m q
taken_other m id a q not = get_taken m id a q ∙ ap (λ b. joined_option lesser (get m q) (cond b (Some a) None)) (ids_equal q id (eq_by_cmp id_cmp q id) refl not) ∙ joined_none (get m q)

pub taken_here : (m : Entries) (id : List ℕ) (a : Action) → get m id ≡ None → get (taken lesser m id a) id ≡ Some a
taken_here m id a none =
    let tie : eq_by_cmp id_cmp id id ≡ true = ap is_eq (tied_itself id_cmp_total id) in
    get_taken m id a id ∙ ap (λ b. joined_option lesser (get m id) (cond b (Some a) None)) tie ∙ ap (λ o. joined_option lesser o (Some a)) none

-- a new entry at an id at which nothing was held
pub record Grows (old new : Holdings) (id : List ℕ) (entry : Action) : Type 0 where
  pub before : old id ≡ None
  pub here : new id ≡ Some entry
  pub others : (q : List ℕ) → (q ≡ id → ⊥) → new q ≡ old q

pub grows : (opening : Opening) (old new : BoardState) (id : List ℕ) (entry : Action) → new.added ≡ taken lesser old.added id entry → held opening old id ≡ None → Grows (held opening old) (held opening new) id entry
grows opening old new id entry joins none =
    let parts = both_none (get opening.cache id) (get old.added id) none in
    record {
      before = none;
      here = ap (λ o. option_or o (get new.added id)) parts.0 ∙ ap (λ (m : Entries). get m id) joins ∙ taken_here old.added id entry parts.1;
      others = λ q not. ap (λ o. option_or (get opening.cache q) o) (ap (λ (m : Entries). get m q) joins ∙ taken_other old.added id entry q not);
    }
