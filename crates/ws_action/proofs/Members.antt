-- The members of a list: the first, and the later ones.
use Rattle.std.specs.Prelude.{◌≡◌, List, [], ◌∷◌, ◌⊎◌}
use Rattle.std.specs.List.{Contains}
use Rattle.std.proofs.Common.{subst, arith, inl, inr}
use Rattle.std.proofs.lemmas.List.Elements.{Contains-append_left, Contains-append_right, Contains-append_cases, Contains-push, Contains-push_cases}

pub none_in_empty : {A : Type 0} (a : A) → ¬ (Contains [] a)
none_in_empty a c = absurd (omega (arith, c.1))

-- a member is the first, or a later one
pub head_or_later : {A : Type 0} (x : A) (xs : List A) (a : A) → Contains (x ∷ xs) a → (x ≡ a) ⊎ Contains xs a
head_or_later x xs a c = elim (Contains-append_cases (x ∷ []) xs a c) [
  | inl l ↦ elim (Contains-push_cases [] x a l) [ inl n ↦ absurd (none_in_empty a n) | inr e ↦ inl e ]
  | inr r ↦ inr r
]

pub later : {A : Type 0} (x : A) (xs : List A) (a : A) → Contains xs a → Contains (x ∷ xs) a
later x xs a c = Contains-append_right (x ∷ []) xs a c

pub at_head : {A : Type 0} (xs : List A) (x a : A) → x ≡ a → Contains (x ∷ xs) a
at_head xs x a e = subst (λ z. Contains (x ∷ xs) z) e (Contains-append_left (x ∷ []) xs x (Contains-push [] x))
