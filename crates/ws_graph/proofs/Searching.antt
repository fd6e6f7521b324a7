-- What a binary search finds among paths that ascend.
use Rattle.std.proofs.Common.{◌≡◌, ◌<◌, ◌≤◌, ℕ, zero, suc, List, [], ◌∷◌, length, get_or, Some, Ok, Err, refl, sym, ap, ◌∙◌, subst, inl, inr, arith}
use Rattle.std.specs.Prelude.{String, string_bytes}
use Rattle.std.specs.Global.{Global}
use Rattle.std.specs.List.{AllByRecursion, Contains, slice_get}
use Rattle.std.specs.List.Sorted.{IsStrictlySortedBy, IsBinarySearchResult, IsSearchInRange}
use Rattle.std.specs.Ordering.{ordering_index, ordering_reverse}
use Rattle.std.specs.declared.cmp.Ordering.{Ordering}
use Rattle.std.specs.declared.cmp.Ordering.TheVariants.{Less, Equal, Greater}
use Rattle.std.proofs.lemmas.Bool.{cases_lt}
use Rattle.ws_version.specs.Writes.{path_cmp}
use Rattle.ws_version.proofs.Writes.{path_cmp_total, path_cmp-IsAntisymmetric}
use Rattle.ws_reach.proofs.Closure.{IsOneOf}
use Rattle.ws_graph.specs.Discovery.{string_texts}
use Rattle.ws_graph.proofs.Sorted.{one_of}

abbrev Strings : Type 0
Strings = List (String Global)

texts_get : (all : Strings) (k : ℕ) (s : String Global) → slice_get all k ≡ Some s → slice_get (string_texts all) k ≡ Some (string_bytes s)
texts_get [] k s at = cc (at)
texts_get (x ∷ xs) zero s at = (let e : Some x ≡ Some s = at in let same : x ≡ s = cc in ap (λ z. Some (string_bytes z)) same)
texts_get (x ∷ xs) (suc k) s at = texts_get xs k s at

item_at : (all : Strings) (k : ℕ) → k < length all → (s : String Global) × (slice_get all k ≡ Some s) × ((d : String Global) → get_or all k d ≡ s)
item_at [] k lt = absurd (omega (arith, lt))
item_at (x ∷ xs) zero lt = (x, refl, λ d. refl)
item_at (x ∷ xs) (suc k) lt = item_at xs k (omega (arith, lt))

pub found_there : (all : Strings) (path : List ℕ) (k : ℕ) → IsSearchInRange (Ok k) (length all) → IsBinarySearchResult (λ s. path_cmp (string_bytes s) path) all (Ok k) → slice_get (string_texts all) k ≡ Some path
found_there all path k inside is =
    let s = item_at all k inside in
    let equal : path_cmp (string_bytes s.0) path ≡ Equal = ap (λ z. path_cmp (string_bytes z) path) (sym (s.2 s.0)) ∙ is s.0 in
    texts_get all k s.0 s.1 ∙ ap Some (path_cmp-IsAntisymmetric (string_bytes s.0) path equal)

-- ---- the answers rise

index : List ℕ → List ℕ → ℕ
index path p = ordering_index (path_cmp p path)

by_orderings : (x y path : List ℕ) (a b : Ordering) → path_cmp x y ≡ Less → path_cmp x path ≡ a → path_cmp y path ≡ b → ordering_index a ≤ ordering_index b
by_orderings x y path Less b l e f = omega arith
by_orderings x y path Equal Less l e f =
    let same : x ≡ path = path_cmp-IsAntisymmetric x path e in
    let back : path_cmp y x ≡ Less = subst (λ z. path_cmp y z ≡ Less) (sym same) f in
    let wrong : Less ≡ Greater = sym l ∙ path_cmp_total.antisymm x y ∙ ap ordering_reverse back in cc (wrong)
by_orderings x y path Equal Equal l e f = omega arith
by_orderings x y path Equal Greater l e f = omega arith
by_orderings x y path Greater Less l e f =
    let less : path_cmp x path ≡ Less = path_cmp_total.trans x y path l f in
    let wrong : Less ≡ Greater = sym less ∙ e in cc (wrong)
by_orderings x y path Greater Equal l e f =
    let same : y ≡ path = path_cmp-IsAntisymmetric y path f in
    let less : path_cmp x path ≡ Less = subst (λ z. path_cmp x z ≡ Less) same l in
    let wrong : Less ≡ Greater = sym less ∙ e in cc (wrong)
by_orderings x y path Greater Greater l e f = omega arith

less_at : (P : List ℕ → Type 0) (all : Strings) → AllByRecursion P (string_texts all) → (j : ℕ) → j < length all → (d : String Global) → P (string_bytes (get_or all j d))
less_at P [] h j lt d = absurd (omega (arith, lt))
less_at P (x ∷ xs) h zero lt d = h.0
less_at P (x ∷ xs) h (suc j) lt d = less_at P xs h.1 j (omega (arith, lt)) d

rises : (all : Strings) (path : List ℕ) → IsStrictlySortedBy path_cmp (string_texts all) → (i j : ℕ) (d : String Global) → i ≤ j → j < length all → ordering_index (path_cmp (string_bytes (get_or all i d)) path) ≤ ordering_index (path_cmp (string_bytes (get_or all j d)) path)
unfolding IsStrictlySortedBy
rises [] path sorted i j d le lt = absurd (omega (arith, lt))
rises (x ∷ xs) path sorted zero zero d le lt = omega arith
rises (x ∷ xs) path sorted zero (suc j) d le lt =
    let inside : j < length xs = omega (arith, lt) in
    by_orderings (string_bytes x) (string_bytes (get_or xs j d)) path _ _ (less_at (λ z. path_cmp (string_bytes x) z ≡ Less) xs sorted.0 j inside d) refl refl
rises (x ∷ xs) path sorted (suc i) zero d le lt = absurd (omega (arith, le))
rises (x ∷ xs) path sorted (suc i) (suc j) d le lt = rises xs path sorted.1 i j d (omega (arith, le)) (omega (arith, lt))

-- the string of a text
of_text : (all : Strings) (path : List ℕ) → IsOneOf path (string_texts all) → (k : ℕ) × (k < length all) × ((d : String Global) → string_bytes (get_or all k d) ≡ path)
of_text [] path h = absurd h
of_text (x ∷ xs) path (inl e) = (0, omega arith, λ d. sym e)
of_text (x ∷ xs) path (inr h) = let m = of_text xs path h in (suc m.0, (let lt = m.1 in omega (arith, lt)), m.2)

itself : (p : List ℕ) → path_cmp p p ≡ Equal
itself p = go (path_cmp p p) refl
  where
    go : (o : Ordering) → path_cmp p p ≡ o → path_cmp p p ≡ Equal
    go Less e = (let wrong : Less ≡ Greater = sym e ∙ path_cmp_total.antisymm p p ∙ ap ordering_reverse e in cc (wrong))
    go Equal e = e
    go Greater e = (let wrong : Greater ≡ Less = sym e ∙ path_cmp_total.antisymm p p ∙ ap ordering_reverse e in cc (wrong))

pub not_there : (all : Strings) (path : List ℕ) (k : ℕ) → IsStrictlySortedBy path_cmp (string_texts all) → IsBinarySearchResult (λ s. path_cmp (string_bytes s) path) all (Err k) → Contains (string_texts all) path → ⊥
not_there all path k sorted is c =
    let m = of_text all path (one_of (string_texts all) path c) in
    let parted = is (rises all path sorted) in
    let s = item_at all m.0 m.1 in
    let equal : path_cmp (string_bytes (get_or all m.0 s.0)) path ≡ Equal = ap (λ z. path_cmp z path) (m.2 s.0) ∙ itself path in
    elim (cases_lt m.0 k) [
      | inl below ↦ (let less = parted.0 m.0 s.0 (omega arith) below in let wrong : Less ≡ Equal = sym less ∙ equal in cc (wrong))
      | inr above ↦ (let greater = parted.1 m.0 s.0 above m.1 in let wrong : Greater ≡ Equal = sym greater ∙ equal in cc (wrong))
    ]
