-- Which declarations depend on themselves, by marks.
use Rattle.std.proofs.Common.{◌≡◌, ℕ, ◌+◌, ◌<◌, ◌≤◌, ◌↔◌, IsTrue, Bool, true, false, List, [], ◌∷◌, ◌++◌, length, get_or, sym, ap, ◌∙◌, subst, inl, inr, arith}
use Rattle.std.proofs.lemmas.Bool.{cases_lt, cases_eq}
use Rattle.std.proofs.lemmas.List.{get_or_past, get_or_push}
use Rattle.std.proofs.Math.ListN.{get_or-append}
use Rattle.ws_reach.specs.Reach.{EdgesStayWithin}
use Rattle.ws_reach.specs.Worklist.{is_marked}
use Rattle.go_scope.specs.Order.{DependsOnItself}
use Rattle.go_package.specs.Faults.{AreRecursive}

not_marked : (marks : List Bool) (k : ℕ) → length marks ≤ k → IsTrue (is_marked marks k) → ⊥
not_marked marks k past h = (let no : true ≡ false = sym h ∙ get_or_past marks k false past in cc (no))

-- a mark more
pub one_more : (P : ℕ → Type 0) (old new : List Bool) (b : Bool) (n : ℕ) → new ≡ old ++ b ∷ [] → length old ≡ n → ((k : ℕ) → k < n → IsTrue (is_marked old k) ↔ P k) → (IsTrue b ↔ P n) →
    (k : ℕ) → k < n + 1 → IsTrue (is_marked new k) ↔ P k
one_more P old new b n grown size before here k lt = elim (cases_eq k n) [
  | inl same ↦ (
      let last : is_marked new k ≡ b = ap (λ (l : List Bool). get_or l k false) grown ∙ get_or_push old b false k (size ∙ sym same) in
      subst (λ (x : Bool). IsTrue x ↔ P k) (sym last) (subst (λ (m : ℕ). IsTrue b ↔ P m) (sym same) here))
  | inr other ↦ (
      let less : k < n = omega (arith, lt, other) in
      let inside : k < length old = omega (arith, less, size) in
      let kept : is_marked new k ≡ is_marked old k = ap (λ (l : List Bool). get_or l k false) grown ∙ get_or-append old (b ∷ []) false k inside in
      subst (λ (x : Bool). IsTrue x ↔ P k) (sym kept) (before k less))
]

-- the marks of all
pub all_marked : (rows : List (List ℕ)) (marks : List Bool) (n : ℕ) → EdgesStayWithin rows → length rows ≤ n → length marks ≡ n → ((k : ℕ) → k < n → IsTrue (is_marked marks k) ↔ DependsOnItself rows k) → AreRecursive rows marks
all_marked rows marks n within all size given k = elim (cases_lt k n) [
  | inl lt ↦ given k lt
  | inr past ↦ (
    λ h. absurd (not_marked marks k (omega (arith, past, size)) h),
    λ d. (let inside = within d.0 k d.2 in absurd (omega (arith, inside, all, past))),
  )
]
