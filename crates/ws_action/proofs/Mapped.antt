-- Elements of mapped lists.
use Rattle.std.proofs.Common.{◌≡◌, List, [], ◌∷◌, ◌++◌, map, refl, ap, ◌∙◌, inl, inr}
use Rattle.std.specs.List.{All, Contains}
use Rattle.std.proofs.lemmas.List.{map-append}
use Rattle.std.proofs.lemmas.List.Elements.{All-nil, All-cons, All-head, All-tail}
use Rattle.ws_action.proofs.Members.{none_in_empty, head_or_later, later, at_head}

pub All-mapped : {A B : Type 0} (P : B → Type 0) (f : A → B) (xs : List A) → All (λ x. P (f x)) xs → All P (map f xs)
All-mapped P f [] h = All-nil P
All-mapped P f (x ∷ xs) h = All-cons P (f x) (map f xs) (All-head (λ y. P (f y)) x xs h) (All-mapped P f xs (All-tail (λ y. P (f y)) x xs h))

pub Contains-mapped : {A B : Type 0} (f : A → B) (xs : List A) (x : A) → Contains xs x → Contains (map f xs) (f x)
Contains-mapped f [] x c = absurd (none_in_empty x c)
Contains-mapped f (y ∷ ys) x c = elim (head_or_later y ys x c) [
  | inl e ↦ at_head (map f ys) (f y) (f x) (ap f e)
  | inr l ↦ later (f y) (map f ys) (f x) (Contains-mapped f ys x l)
]

-- an element of a mapped list is that of an element
pub mapped_from : {A B : Type 0} (f : A → B) (xs : List A) (b : B) → Contains (map f xs) b → (a : A) × Contains xs a × (f a ≡ b)
mapped_from f [] b c = absurd (none_in_empty b c)
mapped_from f (y ∷ ys) b c = elim (head_or_later (f y) (map f ys) b c) [
  | inl e ↦ (y, at_head ys y y refl, e)
  | inr l ↦ let found = mapped_from f ys b l in (found.0, later y ys found.0 found.1, found.2)
]

-- one more element
pub mapped_more : {A B : Type 0} (f : A → B) (xs ys : List A) (y : A) (b : B) → ys ≡ xs ++ y ∷ [] → f y ≡ b → map f ys ≡ map f xs ++ b ∷ []
mapped_more f xs ys y b e is = ap (map f) e ∙ map-append f xs (y ∷ []) ∙ ap (λ c. map f xs ++ c ∷ []) is
