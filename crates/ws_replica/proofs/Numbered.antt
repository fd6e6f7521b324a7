-- Lists by the numbers of their elements.
use Rattle.std.proofs.Common.{◌≡◌, ℕ, zero, suc, ◌<◌, ◌≤◌, Bool, true, false, ◌&&◌, List, [], ◌∷◌, length, None, Some, refl, ap, subst, ◌∙◌, arith, inl, inr}
use Rattle.std.specs.List.{slice_get, list_all, Contains}
use Rattle.ws_action.proofs.Members.{at_head, later, none_in_empty, head_or_later}

pub some_same : {X : Type 0} (x y : X) → Some x ≡ Some y → x ≡ y
some_same x y e = cc

-- what stands at a number is a member
pub at_member : {X : Type 0} (xs : List X) (k : ℕ) (x : X) → slice_get xs k ≡ Some x → Contains xs x
at_member [] k x e = cc
at_member (y ∷ xs) zero x e = at_head xs y x (some_same y x e)
at_member (y ∷ xs) (suc k) x e = later y xs x (at_member xs k x e)

-- a member stands at some number
pub member_at : {X : Type 0} (xs : List X) (x : X) → Contains xs x → (k : ℕ) × (slice_get xs k ≡ Some x)
member_at [] x c = absurd (none_in_empty x c)
member_at (y ∷ xs) x c = elim (head_or_later y xs x c) [
  | inl e ↦ (zero, ap Some e)
  | inr l ↦ let at = member_at xs x l in (suc at.0, at.1)
]

-- nothing stands past the end
pub past_none : {X : Type 0} (xs : List X) (k : ℕ) → slice_get xs k ≡ None → length xs ≤ k
past_none [] k e = omega arith
past_none (x ∷ xs) zero e = absurd (cc)
past_none (x ∷ xs) (suc k) e = omega (arith, past_none xs k e)

-- lists with the same at each number are the same
pub same_lists : {X : Type 0} (xs ys : List X) → ((k : ℕ) → slice_get xs k ≡ slice_get ys k) → xs ≡ ys
same_lists [] [] h = refl
same_lists [] (y ∷ ys) h = let e : None ≡ Some y = h zero in cc
same_lists (x ∷ xs) [] h = let e : Some x ≡ None = h zero in cc
same_lists (x ∷ xs) (y ∷ ys) h =
    ap (λ z. z ∷ xs) (some_same x y (h zero)) ∙ ap (λ zs. y ∷ zs) (same_lists xs ys (λ k. h (suc k)))

-- tests that agree on the members agree on all
pub all_on : (f g : ℕ → Bool) (ks : List ℕ) → ((k : ℕ) → Contains ks k → f k ≡ g k) → list_all f ks ≡ list_all g ks
all_on f g [] h = refl
all_on f g (k ∷ ks) h =
    ap (λ b. b && list_all f ks) (h k (at_head ks k k refl)) ∙ ap (λ b. g k && b) (all_on f g ks (λ j c. h j (later k ks j c)))

pub and_true : (a b : Bool) → a ≡ true → b ≡ true → (a && b) ≡ true
and_true a b g h = ap (λ z. z && b) g ∙ h

pub and_left : (a b : Bool) → (a && b) ≡ true → a ≡ true
and_left true b e = refl
and_left false b e = cc

pub and_right : (a b : Bool) → (a && b) ≡ true → b ≡ true
and_right true b e = e
and_right false b e = cc

-- what all pass each member passes
pub all_each : {X : Type 0} (f : X → Bool) (xs : List X) → list_all f xs ≡ true → (x : X) → Contains xs x → f x ≡ true
all_each f [] h x c = absurd (none_in_empty x c)
all_each f (y ∷ ys) h x c = elim (head_or_later y ys x c) [
  | inl e ↦ subst (λ z. f z ≡ true) e (and_left (f y) (list_all f ys) h)
  | inr l ↦ all_each f ys (and_right (f y) (list_all f ys) h) x l
]

pub each_all : {X : Type 0} (f : X → Bool) (xs : List X) → ((x : X) → Contains xs x → f x ≡ true) → list_all f xs ≡ true
each_all f [] h = refl
each_all f (y ∷ ys) h = and_true (f y) (list_all f ys) (h y (at_head ys y y refl)) (each_all f ys (λ x c. h x (later y ys x c)))

by_rank : (rank : ℕ → ℕ) (P : ℕ → Type 0) → ((j : ℕ) → ((k : ℕ) → rank k < rank j → P k) → P j) → (n : ℕ) (j : ℕ) → rank j < n → P j
by_rank rank P step zero j lt = absurd (omega arith)
by_rank rank P step (suc n) j lt = step j (λ k below. by_rank rank P step n k (omega arith))

-- what holds where it holds of all that lies lower holds everywhere
pub ranked : (rank : ℕ → ℕ) (P : ℕ → Type 0) → ((j : ℕ) → ((k : ℕ) → rank k < rank j → P k) → P j) → (j : ℕ) → P j
ranked rank P step j = by_rank rank P step (suc (rank j)) j (omega arith)
