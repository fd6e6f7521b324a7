-- Texts sorted, each once.
use Rattle.std.proofs.Common.{◌≡◌, ℕ, true, List, [], ◌∷◌, refl, sym, ap, ◌∙◌, subst, inl, inr}
use Rattle.std.specs.Prelude.{String, string_bytes, string_cmp, string_eq}
use Rattle.std.specs.Global.{Global}
use Rattle.std.specs.List.{AllByRecursion, Contains, dedup}
use Rattle.std.specs.List.Sorted.{IsStrictlySortedBy, IsPermutation}
use Rattle.std.specs.Ordering.{is_eq}
use Rattle.std.specs.Cmp.Lexicographic.{texts_ties, on_texts_equal}
use Rattle.std.specs.declared.cmp.Ordering.{Ordering}
use Rattle.std.specs.declared.cmp.Ordering.TheVariants.{Less, Equal, Greater}
use Rattle.std.proofs.lemmas.List.Kept.{Any-dedup, Contains-from_dedup}
use Rattle.std.proofs.lemmas.List.Sorted.{Contains-permutation, IsPermutation-sym}
use Rattle.ws_version.specs.Writes.{path_cmp}
use Rattle.ws_version.proofs.Writes.{path_cmp-IsAntisymmetric}
use Rattle.ws_reach.proofs.Closure.{IsOneOf}
use Rattle.ws_graph.specs.Discovery.{string_texts}
use Rattle.ws_graph.proofs.Sorted.{one_of, contained}

abbrev Text : Type 0
Text = String Global

all_texts : (x : Text) (ys : List Text) → AllByRecursion (λ y. string_cmp x y ≡ Less) ys → AllByRecursion (λ q. path_cmp (string_bytes x) q ≡ Less) (string_texts ys)
all_texts x [] h = tt
all_texts x (y ∷ ys) h = (h.0, all_texts x ys h.1)

pub texts_sorted : (xs : List Text) → IsStrictlySortedBy string_cmp xs → IsStrictlySortedBy path_cmp (string_texts xs)
unfolding IsStrictlySortedBy
texts_sorted [] h = tt
texts_sorted (x ∷ xs) h = (all_texts x xs h.0, texts_sorted xs h.1)

none_ascend : IsStrictlySortedBy path_cmp []
unfolding IsStrictlySortedBy
none_ascend = tt

-- no texts ascend
pub none_sorted : (xs : List Text) → xs ≡ [] → IsStrictlySortedBy path_cmp (string_texts xs)
none_sorted xs e = subst (λ l. IsStrictlySortedBy path_cmp (string_texts l)) (sym e) none_ascend

to_text : (xs : List Text) (p : List ℕ) → IsOneOf p (string_texts xs) → (s : Text) × IsOneOf s xs × (p ≡ string_bytes s)
to_text [] p h = absurd h
to_text (x ∷ xs) p (inl e) = (x, inl refl, e)
to_text (x ∷ xs) p (inr h) = let m = to_text xs p h in (m.0, inr m.1, m.2)

from_text : (xs : List Text) (s : Text) → IsOneOf s xs → IsOneOf (string_bytes s) (string_texts xs)
from_text [] s h = absurd h
from_text (x ∷ xs) s (inl e) = inl (ap string_bytes e)
from_text (x ∷ xs) s (inr h) = inr (from_text xs s h)

tells : (o : Ordering) → is_eq o ≡ true → o ≡ Equal
tells Less e = cc (e)
tells Equal e = refl
tells Greater e = cc (e)

same_text : (x y : Text) → string_eq x y ≡ true → string_bytes x ≡ string_bytes y
same_text x y e = path_cmp-IsAntisymmetric (string_bytes x) (string_bytes y) (tells (path_cmp (string_bytes x) (string_bytes y)) (sym (texts_ties (string_bytes x) (string_bytes y)) ∙ e))

-- sorted, and each once: the members stay
pub texts_kept : (all sorted new : List Text) (p : List ℕ) → IsPermutation all sorted → new ≡ dedup string_eq sorted → (Contains (string_texts new) p → Contains (string_texts all) p) × (Contains (string_texts all) p → Contains (string_texts new) p)
texts_kept all sorted new p moved kept = (
  λ c. (
      let s = to_text new p (one_of (string_texts new) p c) in
      let in_sorted = Contains-from_dedup string_eq sorted s.0 (subst (λ (l : List Text). Contains l s.0) kept (contained new s.0 s.1)) in
      let in_all = one_of all s.0 (Contains-permutation sorted all s.0 (IsPermutation-sym all sorted moved) in_sorted) in
      contained (string_texts all) p (subst (λ q. IsOneOf q (string_texts all)) (sym s.2) (from_text all s.0 in_all))),
  λ c. (
      let s = to_text all p (one_of (string_texts all) p c) in
      let in_sorted = Contains-permutation all sorted s.0 moved (contained all s.0 s.1) in
      let any = Any-dedup (on_texts_equal string_bytes) sorted s.0 in_sorted in
      let y = any.1 in
      let in_new : IsOneOf y new = subst (IsOneOf y) (sym kept) (one_of (dedup string_eq sorted) y (any.0, any.2, any.3)) in
      contained (string_texts new) p (subst (λ q. IsOneOf q (string_texts new)) (sym (s.2 ∙ same_text s.0 y any.4)) (from_text new y in_new))),
)
