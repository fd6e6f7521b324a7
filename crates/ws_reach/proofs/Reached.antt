-- A walk finds what is reached, and nothing else.
use Rattle.std.proofs.Common.{◌≡◌, ℕ, ◌+◌, ◌<◌, ◌≤◌, List, [], ◌∷◌, ◌++◌, length, Some, refl, sym, ap, ◌∙◌, subst, inl, inr, ◌⊎◌, arith}
use Rattle.std.specs.List.{slice_get, Contains}
use Rattle.std.proofs.lemmas.Bool.{cases_eq}
use Rattle.std.proofs.lemmas.Option.{slice_get-get_or, get_or_from_slice_get, slice_get_within}
use Rattle.ws_reach.specs.Reach.{Walks, Reaches}
use Rattle.ws_reach.specs.Worklist.{Grows}
use Rattle.ws_reach.proofs.Marks.{grows_contains, grows_get, grows_length}

pub walks_more : {A : Type 0} (E : A → A → Type 0) (steps : List A) (p q r : A) → Walks E p steps q → E q r → Walks E p (steps ++ r ∷ []) r
walks_more E [] p q r w e = (subst (λ x. E x r) (sym w) e, refl)
walks_more E (s ∷ steps) p q r (first, rest) e = (first, walks_more E steps s q r rest e)

pub reaches_itself : {A : Type 0} (E : A → A → Type 0) (p : A) → Reaches E p p
reaches_itself E p = ([], refl)

-- one more edge at the end
pub reaches_more : {A : Type 0} (E : A → A → Type 0) (p q r : A) → Reaches E p q → E q r → Reaches E p r
reaches_more E p q r (steps, w) e = (steps ++ r ∷ [], walks_more E steps p q r w e)

-- one more edge at the start
pub reaches_from : {A : Type 0} (E : A → A → Type 0) (p q r : A) → E p q → Reaches E q r → Reaches E p r
reaches_from E p q r e (steps, w) = (q ∷ steps, (e, w))

walks_through : {A : Type 0} (E : A → A → Type 0) (steps : List A) (p q r : A) → Walks E p steps q → Reaches E q r → Reaches E p r
walks_through E [] p q r w h = subst (λ x. Reaches E x r) (sym w) h
walks_through E (s ∷ steps) p q r (first, rest) h = reaches_from E p s r first (walks_through E steps s q r rest h)

pub reaches_through : {A : Type 0} (E : A → A → Type 0) (p q r : A) → Reaches E p q → Reaches E q r → Reaches E p r
reaches_through E p q r (steps, w) h = walks_through E steps p q r w h

-- what is closed under edges is so under walks
walks_stay : {A : Type 0} (E : A → A → Type 0) (P : A → Type 0) → ((y x : A) → P y → E y x → P x) → (steps : List A) (p q : A) → Walks E p steps q → P p → P q
walks_stay E P closed [] p q w c = subst P w c
walks_stay E P closed (s ∷ steps) p q (first, rest) c = walks_stay E P closed steps s q rest (closed p s c first)

pub reaches_stay : {A : Type 0} (E : A → A → Type 0) (P : A → Type 0) → ((y x : A) → P y → E y x → P x) → (p q : A) → Reaches E p q → P p → P q
reaches_stay E P closed p q (steps, w) c = walks_stay E P closed steps p q w c

-- where edges lead down, walks do
pub reaches_down : {A : Type 0} (E : A → A → Type 0) (level : A → ℕ) → ((p q : A) → E p q → level q < level p) → (p q : A) → Reaches E p q → level q ≤ level p
reaches_down E level down p q ([], w) = let e : level p ≡ level q = ap level w in omega (arith, e)
reaches_down E level down p q (s ∷ steps, (first, rest)) = omega (arith, down p s first, reaches_down E level down s q (steps, rest))

pub no_cycle : {A : Type 0} (E : A → A → Type 0) (level : A → ℕ) → ((p q : A) → E p q → level q < level p) → (p q : A) → E p q → Reaches E q p → ⊥
no_cycle E level down p q e back = absurd (omega (arith, down p q e, reaches_down E level down q p back))

pub contains_get : {A : Type 0} (xs : List A) (x : A) → (c : Contains xs x) → slice_get xs c.0 ≡ Some x
contains_get xs x c = slice_get-get_or xs c.0 x c.1 ∙ ap Some c.2

pub get_contains : {A : Type 0} (xs : List A) (k : ℕ) (x : A) → slice_get xs k ≡ Some x → Contains xs x
get_contains xs k x e = (k, slice_get_within xs k x e, get_or_from_slice_get xs k x x e)

-- ---- a walk under way

-- A walk under way: all that was found is reached from the start; and that to which the first ones have edges was found.
pub record Walked (E : ℕ → ℕ → Type 0) (start next : ℕ) (found : List ℕ) : Type 0 where
  pub first : Contains found start
  pub within : (x : ℕ) → Contains found x → Reaches E start x
  pub closed : (i y x : ℕ) → i < next → slice_get found i ≡ Some y → E y x → Contains found x
  pub inside : next ≤ length found

pub walked_start : (E : ℕ → ℕ → Type 0) (start : ℕ) (found : List ℕ) → Contains found start → ((x : ℕ) → Contains found x → x ≡ start) → Walked E start 0 found
walked_start E start found first only = record {
  first = first;
  within = λ x c. ([], sym (only x c));
  closed = λ i y x lt. absurd (omega (arith, lt));
  inside = omega arith;
}

-- one more is looked at
pub walked_more : (E : ℕ → ℕ → Type 0) (start next here : ℕ) (found found' : List ℕ) → Walked E start next found → slice_get found next ≡ Some here
    → Grows found found' → ((x : ℕ) → Contains found' x → Contains found x ⊎ E here x) → ((x : ℕ) → E here x → Contains found' x)
    → Walked E start (next + 1) found'
walked_more E start next here found found' w at grows from taken = record {
  first = grows_contains found found' grows start w.first;
  within = λ x c. elim (from x c) [
    | inl old ↦ w.within x old
    | inr new ↦ reaches_more E start here x (w.within here (get_contains found next here at)) new
  ];
  closed = λ i y x lt is e. elim (cases_eq i next) [
    | inl same_place ↦ (
        let at' : slice_get found' next ≡ Some here = grows_get found found' grows next (slice_get_within found next here at) ∙ at in
        let same : Some y ≡ Some here = sym is ∙ ap (slice_get found') same_place ∙ at' in
        let y_is : y ≡ here = cc in
        taken x (subst (λ z. E z x) y_is e))
    | inr ne ↦ (
        let below : i < next = omega (arith, lt, ne) in
        let inside : i < length found = omega (arith, below, w.inside) in
        grows_contains found found' grows x (w.closed i y x below (sym (grows_get found found' grows i inside) ∙ is) e))
  ];
  inside = (let lt = slice_get_within found next here at in omega (arith, lt, grows_length found found' grows));
}

-- all were looked at
pub walked_end : (E : ℕ → ℕ → Type 0) (start next : ℕ) (found : List ℕ) → Walked E start next found → length found ≤ next → (q : ℕ) → (Contains found q → Reaches E start q) × (Reaches E start q → Contains found q)
walked_end E start next found w end q = (
  w.within q,
  λ r. reaches_stay E (Contains found) (λ y x c e. w.closed c.0 y x (let lt = c.1 in omega (arith, lt, end)) (contains_get found y c) e) start q r w.first,
)
