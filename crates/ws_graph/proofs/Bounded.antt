-- How many directories there are at most.
use Rattle.std.proofs.Common.{◌≡◌, ◌⊎◌, ◌≤◌, ℕ, suc, List, [], ◌∷◌, length, refl, sym, ap, ◌∙◌, subst, inl, inr, arith}
use Rattle.std.specs.List.{Contains}
use Rattle.std.specs.List.Sorted.{IsStrictlySortedBy}
use Rattle.std.specs.declared.cmp.Ordering.TheVariants.{Less}
use Rattle.ws_version.specs.Writes.{path_cmp}
use Rattle.ws_version.proofs.Writes.{path_cmp_total}
use Rattle.ws_reach.specs.Reach.{Reaches}
use Rattle.ws_reach.proofs.Reached.{reaches_stay}
use Rattle.ws_reach.proofs.Closure.{IsOneOf}
use Rattle.go_text.specs.declared.edition.Edition.{Edition}
use Rattle.ws_graph.specs.BuildPlan.{Sources, HasNoFiles, Imports}
use Rattle.ws_graph.proofs.Filed.{built_directories, to_directory}
use Rattle.ws_graph.proofs.Sorted.{among_all, not_both, contained}

abbrev Path : Type 0
Path = List ℕ

-- none stands twice
abbrev AllDiffer : List Path → Type 0
AllDiffer [] = Unit {0}
AllDiffer (x ∷ xs) = (IsOneOf x xs → ⊥) × AllDiffer xs

differ : (xs : List Path) → IsStrictlySortedBy path_cmp xs → AllDiffer xs
unfolding IsStrictlySortedBy
differ [] s = tt
differ (x ∷ xs) s = (λ one. (let l = among_all (λ z. path_cmp x z ≡ Less) xs x s.0 one in not_both path_cmp path_cmp_total x x l l), differ xs s.1)

without : (x : Path) (ys : List Path) → IsOneOf x ys → (zs : List Path) × (length ys ≡ suc (length zs)) × ((z : Path) → IsOneOf z ys → (z ≡ x) ⊎ IsOneOf z zs)
without x [] one = absurd one
without x (y ∷ ys) (inl e) = (
  ys,
  refl,
  λ z o. elim o [
    | inl s ↦ inl (s ∙ sym e)
    | inr r ↦ inr r
  ],
)
without x (y ∷ ys) (inr one) = let w = without x ys one in (
  y ∷ w.0,
  ap suc w.1,
  λ z o. elim o [
    | inl s ↦ inr (inl s)
    | inr r ↦ elim (w.2 z r) [
      | inl s ↦ inl s
      | inr t ↦ inr (inr t)
    ]
  ],
)

fewer : (xs ys : List Path) → AllDiffer xs → ((z : Path) → IsOneOf z xs → IsOneOf z ys) → length xs ≤ length ys
fewer [] ys d h = omega arith
fewer (x ∷ xs) ys d h =
    let w = without x ys (h x (inl refl)) in
    let le = fewer xs w.0 d.1 (λ z one. elim (w.2 z (h z (inr one))) [
      | inl s ↦ absurd (d.0 (subst (λ v. IsOneOf v xs) s one))
      | inr t ↦ t
    ]) in
    let long = w.1 in omega (arith, le, long)

-- one more, that wasn't among them
pub one_more : (x : Path) (old new : List Path) → IsStrictlySortedBy path_cmp old → (Contains old x → ⊥) → ((z : Path) → (z ≡ x) ⊎ IsOneOf z old → IsOneOf z new) → suc (length old) ≤ length new
one_more x old new sorted fresh h = fewer (x ∷ old) new ((λ one. fresh (contained old x one)), differ old sorted) h

-- what one with files reaches has files
pub reached_files : (ed : Edition) (sources : Sources) (target path : Path) → (HasNoFiles sources target → ⊥) → Reaches (Imports ed sources) target path → HasNoFiles sources path → ⊥
reached_files ed sources target path files way = reaches_stay (Imports ed sources) (λ p. HasNoFiles sources p → ⊥) (λ y x some i. i.files) target path way files

pub few_directories : (sources : Sources) (paths : List Path) → IsStrictlySortedBy path_cmp paths → ((p : Path) → IsOneOf p paths → HasNoFiles sources p → ⊥) → length paths ≤ length (built_directories sources)
few_directories sources paths sorted files = fewer paths (built_directories sources) (differ paths sorted) (λ p one. to_directory p sources (files p one))
