-- Elements of literals as parts, on the way through a loop.
use Rattle.std.proofs.Common.{◌≡◌, ℕ, Bool, true, false, Option, Some, None, List, [], ◌∷◌, ◌++◌, map, is_some, refl, sym, subst, append-nil, inl, inr}
use Rattle.std.specs.Prelude.{position}
use Rattle.std.specs.List.{list_any}
use Rattle.std.specs.Str.{bytes_eq}
use Rattle.std.proofs.lemmas.Bool.{cases_Bool}
use Rattle.go_scope.proofs.Indexes.{Differing, differing_more, differing_not}
use Rattle.go_types.specs.Types.{Type'}
use Rattle.go_typed.specs.Trees.{Expr}
use Rattle.go_expr.specs.Known.{Verdict}
use Rattle.go_expr.specs.Rules.{ElementList, are_distinct, element_part, keys, numbered}

-- what elements are for, from a number on
abbrev pub parts_from : (ℕ → Option (List ℕ) → Option (ℕ × Type')) → ℕ → ElementList → List (Verdict (ℕ × Expr))
parts_from slot n es = map (λ k. element_part slot k.0 k.1) (numbered n es)

-- the keys of elements one after the other
pub keys_begin : (e : Option (List ℕ) × Expr) (es : ElementList) → keys (e ∷ es) ≡ keys (e ∷ []) ++ keys es
keys_begin (None, x) es = refl
keys_begin (Some k, x) es = refl

-- names, and behind them the key of an element
abbrev pub is_key_in : List (List ℕ) → Option (List ℕ) × Expr → Bool
is_key_in names e = list_any (λ x. is_some (position (bytes_eq x) names)) (keys (e ∷ []))

pub keys_more : (names left rest all : List (List ℕ)) (e : Option (List ℕ) × Expr) → Differing names left all → left ≡ keys (e ∷ []) ++ rest → is_key_in names e ≡ false → Differing (names ++ keys (e ∷ [])) rest all
keys_more names left rest all (None, v) before is new =
    subst (λ (ns : List (List ℕ)). Differing ns rest all) (sym (append-nil names)) (subst (λ (l : List (List ℕ)). Differing names l all) is before)
keys_more names left rest all (Some k, v) before is new = elim (cases_Bool (is_some (position (bytes_eq k) names))) [
  | inl t ↦ (let no : true ≡ false = rw t at new in cc (no))
  | inr f ↦ differing_more names left rest all k before is f
]

pub keys_not : (names left rest all : List (List ℕ)) (e : Option (List ℕ) × Expr) → Differing names left all → left ≡ keys (e ∷ []) ++ rest → is_key_in names e ≡ true → false ≡ are_distinct all
keys_not names left rest all (None, v) before is known = cc
keys_not names left rest all (Some k, v) before is known = elim (cases_Bool (is_some (position (bytes_eq k) names))) [
  | inl t ↦ differing_not names left rest all k before is t
  | inr f ↦ (let no : false ≡ true = rw f at known in cc (no))
]
