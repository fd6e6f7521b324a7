-- The variables among numbers, number by number.
use Rattle.std.proofs.Common.{◌≡◌, ℕ, ◌+◌, ◌-◌, ◌≤◌, List, [], ◌∷◌, ◌++◌, length, drop, Some, sym, ap, ◌∙◌, inl, inr, arith, append_assoc}
use Rattle.std.proofs.lemmas.List.{append-nil, at_drop_all, drop_more}
use Rattle.std.proofs.lemmas.Option.{get_or_from_slice_get, slice_get_within}
use Rattle.std.specs.List.{slice_get}
use Rattle.go_init.specs.Condensation.{variables_among}
use Rattle.go_init.proofs.Behind.{NextBehind}
use Rattle.go_init.proofs.FunctionsFirst.{of_function, of_variable}

-- what was found, and what is left, make up the whole
abbrev pub AreFound : ℕ → List ℕ → List ℕ → ℕ → Type 0
AreFound functions xs found i = found ++ variables_among functions (drop i xs) ≡ variables_among functions xs

pub found_next : (functions : ℕ) (xs now next : List ℕ) (i x : ℕ) → slice_get xs i ≡ Some x → NextBehind now next functions x → AreFound functions xs now i → AreFound functions xs next (i + 1)
found_next functions xs now next i x at step h =
    let rest : List ℕ = drop (i + 1) xs in
    let left : drop i xs ≡ x ∷ rest = drop_more xs i x (slice_get_within xs i x at) ∙ ap (λ (z : ℕ). z ∷ rest) (get_or_from_slice_get xs i x x at) in
    elim step [
      | inl pushed ↦ ap (λ (l : List ℕ). l ++ variables_among functions rest) pushed.1 ∙ append_assoc now ((x - functions) ∷ []) (variables_among functions rest)
          ∙ ap (λ (l : List ℕ). now ++ l) (sym (of_variable functions x (x - functions) rest (let high = pushed.0 in omega (arith, high))) ∙ ap (variables_among functions) (sym left)) ∙ h
      | inr kept ↦ ap (λ (l : List ℕ). l ++ variables_among functions rest) kept.1
          ∙ ap (λ (l : List ℕ). now ++ l) (sym (of_function functions x rest kept.0) ∙ ap (variables_among functions) (sym left)) ∙ h
    ]

pub found_all : (functions : ℕ) (xs found : List ℕ) (i : ℕ) → length xs ≤ i → AreFound functions xs found i → found ≡ variables_among functions xs
found_all functions xs found i past h = sym (append-nil found) ∙ ap (λ (l : List ℕ). found ++ l) (sym (at_drop_all (variables_among functions) xs i past)) ∙ h
