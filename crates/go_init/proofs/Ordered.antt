-- Variable order by numbers: the initializations' numbers in turn.
use Rattle.std.proofs.Common.{◌≡◌, ℕ, ◌<◌, List, [], ◌∷◌, length, Some, refl, sym, ap, ◌∙◌, subst, inl, inr, arith}
use Rattle.std.specs.List.{Contains, filter_map, range_with_len, slice_get}
use Rattle.std.proofs.lemmas.List.FromFn.{length-range_with_len}
use Rattle.ws_reach.proofs.Closure.{IsOneOf}
use Rattle.go_typed.specs.Trees.{Initialization, Package}
use Rattle.go_init.specs.Turns.{in_turn, turn_order}
use Rattle.go_init.specs.Variables.{depends, is_due, variable_order}
use Rattle.go_init.proofs.Ascends.{IsRest, rest_is}
use Rattle.go_init.proofs.First.{Ascending}
use Rattle.go_init.proofs.Members.{contained, one_of}
use Rattle.go_init.proofs.Orders.{in_range, range_has}
use Rattle.go_init.proofs.Related.{AreRelated, StandsAt, counted, numbered, turned}
use Rattle.go_init.proofs.Results.{is_due_at}
use Rattle.go_init.proofs.Steps.{range_ascends}
use Rattle.go_init.proofs.Turns.{turns_are}

none_there : {B : Type 0} (all : List B) (ks : List ℕ) (ys : List B) → AreRelated (StandsAt all) ks ys → ((k : ℕ) → IsOneOf k ks → ⊥) → ys ≡ []
none_there all [] [] r none = refl
none_there all [] (y ∷ ys) r none = absurd r
none_there all (k ∷ ks) ys r none = absurd (none k (inl refl))

-- the least of what is left stands first
least_there : {B : Type 0} (all : List B) (k : ℕ) (ks : List ℕ) (ys : List B) → AreRelated (StandsAt all) ks ys → Ascending ks → IsOneOf k ks → ((j : ℕ) → j < k → IsOneOf j ks → ⊥) → (y : B) × (rest : List B) × (ys ≡ y ∷ rest) × (slice_get all k ≡ Some y)
least_there all k [] ys r a h none = absurd h
least_there all k (l ∷ ls) [] r a h none = absurd r
least_there all k (l ∷ ls) (y ∷ ys) r a (inl same) none = (y, ys, refl, ap (slice_get all) same ∙ r.0)
least_there all k (l ∷ ls) (y ∷ ys) r a (inr h) none = absurd (none l (a.0 k h) (inl refl))

module _ (p : Package) where
  abbrev all : List Initialization
  all = p.initializations

  abbrev count : ℕ
  count = length p.initializations

  abbrev numbers : List ℕ
  numbers = range_with_len 0 (length p.initializations)

  both : AreRelated (StandsAt p.initializations) (turn_order (is_due p) count numbers).0 (variable_order p).0 × AreRelated (StandsAt p.initializations) (turn_order (is_due p) count numbers).1 (variable_order p).1
  both = turned (StandsAt p.initializations) (is_due p) (depends p) (λ x x1 y y1 r r1. is_due_at p x x1 y y1 r r1) count numbers p.initializations (counted p.initializations)

  order_is : (in_turn (is_due p) numbers).0 ≡ (turn_order (is_due p) count numbers).0
  order_is = ap (λ n. (turn_order (is_due p) n numbers).0) (length-range_with_len 0 count)

  pub ordered : (order : List ℕ) → order ≡ (in_turn (is_due p) (range_with_len 0 (length p.initializations))).0 → filter_map (slice_get p.initializations) order ≡ (variable_order p).0
  ordered order is = ap (filter_map (slice_get p.initializations)) (is ∙ order_is) ∙ numbered p.initializations (turn_order (is_due p) count numbers).0 (variable_order p).0 both.0

  rest : IsRest (is_due p) (turn_order (is_due p) count numbers).0 (turn_order (is_due p) count numbers).1
  rest = rest_is (is_due p) count numbers (range_ascends 0 count)

  listed : (order : List ℕ) → order ≡ (in_turn (is_due p) (range_with_len 0 (length p.initializations))).0 → (k : ℕ) → Contains order k → IsOneOf k (turn_order (is_due p) count numbers).0
  listed order is k h = subst (λ l. IsOneOf k l) (is ∙ order_is) (one_of order k h)

  pub nothing_left : (order : List ℕ) → order ≡ (in_turn (is_due p) (range_with_len 0 (length p.initializations))).0 → ((k : ℕ) → k < length p.initializations → Contains order k) → (variable_order p).1 ≡ []
  nothing_left order is has =
      none_there p.initializations (turn_order (is_due p) count numbers).1 (variable_order p).1 both.1
      (λ k h. (
      let r = in_range 0 count k ((turns_are (is_due p) count numbers).over k h) in
      let high = r.1 in
      rest.apart k (listed order is k (has k (omega (arith, high)))) h))

  pub first_left : (order : List ℕ) → order ≡ (in_turn (is_due p) (range_with_len 0 (length p.initializations))).0 → (k : ℕ) → k < length p.initializations → (Contains order k → ⊥) → ((j : ℕ) → j < k → Contains order j)
      → (i : Initialization) × (more : List Initialization) × ((variable_order p).1 ≡ i ∷ more) × (slice_get p.initializations k ≡ Some i)
  first_left order is k lt lacks has =
      let there : IsOneOf k (turn_order (is_due p) count numbers).1 = elim ((turns_are (is_due p) count numbers).parted k (range_has 0 count k (omega arith) (omega (arith, lt)))) [
        | inl h ↦ absurd (lacks (contained order k (subst (λ l. IsOneOf k l) (sym (is ∙ order_is)) h)))
        | inr h ↦ h
      ] in
      least_there p.initializations k (turn_order (is_due p) count numbers).1 (variable_order p).1 both.1 rest.ascend there (λ j less h. rest.apart j (listed order is j (has j less)) h)
