-- Where a path stands among parts of writes, which are pages, or nodes of pages.
use Rattle.std.specs.Prelude.{◌≡◌, ◌<◌, ◌-◌, ◌+◌, ℕ, zero, suc, List, [], ◌∷◌, ◌++◌, length, take, drop, refl, Some, Ok, Err, Result}
use Rattle.std.specs.Arc.{arc_value}
use Rattle.std.specs.declared.sync.Arc.{Arc}
use Rattle.std.specs.List.{AllByRecursion, slice_get}
use Rattle.std.specs.List.Sorted.{IsBinarySearchResult, IsSearchInRange}
use Rattle.std.specs.declared.cmp.Ordering.TheVariants.{Less, Greater}
use Rattle.std.proofs.lemmas.List.{take-append-drop, append_assoc, append-nil}
use Rattle.std.proofs.Common.{sym, ap, subst, ◌∙◌, arith}
use Rattle.ws_version.specs.Writes.{Write, path_cmp}
use Rattle.ws_version.proofs.Writes.{path_cmp_total, path_cmp-IsAntisymmetric}
use Rattle.ws_register.specs.declared.node.Node.{Node}
use Rattle.ws_register.specs.declared.page.Page.{Page}
use Rattle.ws_register.specs.Listed.{all_writes_of, writes_of, all_writes}
use Rattle.ws_register.specs.Nodes.{writes_below, all_nodes}
use Rattle.ws_register.specs.Pages.{Ascends, AllPathsBelow, AllAbove}
use Rattle.ws_register.specs.Search.{first_path}
use Rattle.ws_register.proofs.Order.{Above, Below, Precedes, all-append, all-first, all-second, all-weaker, sorted-first, sorted-second, sorted-front, sorted-precedes, precedes-first, above-lower}
use Rattle.ws_register.proofs.Searching.{Rises, searchable, drop-within, parted, there, turned_greater}

first-above : (W : List Write) (k : List ℕ) → 0 < length W → Above path_cmp W k → path_cmp k (first_path W) ≡ Less
first-above [] k some h = absurd (omega (arith, some))
first-above (w ∷ W) k some h = h.0

first-of : (F W B : List Write) → 0 < length W → Precedes path_cmp F (W ++ B) → Below path_cmp F (first_path W)
first-of F [] B some h = absurd (omega (arith, some))
first-of F (w ∷ W) B some h = precedes-first path_cmp F w (W ++ B) h

back-of : (W B : List Write) → 0 < length W → Precedes path_cmp W B → Above path_cmp B (first_path W)
back-of [] B some h = absurd (omega (arith, some))
back-of (w ∷ W) B some h = h.0

-- a list that starts above a path is above it
starts_above : (W : List Write) (path : List ℕ) → 0 < length W → Ascends W → path_cmp path (first_path W) ≡ Less → AllAbove W path
starts_above [] path some h lt = absurd (omega (arith, some))
starts_above (w ∷ W) path some h lt = (lt, above-lower path_cmp path_cmp_total path w.0 lt W (sorted-first path_cmp w W h))

lower_all : (W : List Write) (j k : List ℕ) → path_cmp j k ≡ Less → AllPathsBelow W j → AllPathsBelow W k
lower_all W j k lt h = all-weaker (λ (w : Write). path_cmp w.0 j ≡ Less) (λ (w : Write). path_cmp w.0 k ≡ Less) (λ w e. path_cmp_total.trans w.0 j k e lt) W h

module _ {X Z : Type 0} (held : X → List Write) where
  pub parts-append : (P Q : List (Arc X Z)) → all_writes_of held (P ++ Q) ≡ all_writes_of held P ++ all_writes_of held Q
  parts-append [] Q = refl
  parts-append (p ∷ P) Q = ap (λ l. held (arc_value p) ++ l) (parts-append P Q) ∙ sym (append_assoc (held (arc_value p)) (all_writes_of held P) (all_writes_of held Q))

  pub cut_at : (P : List (Arc X Z)) (i : ℕ) (p : Arc X Z) → slice_get P i ≡ Some p → all_writes_of held P ≡ all_writes_of held (take i P) ++ (held (arc_value p) ++ all_writes_of held (drop (suc i) P))
  cut_at P i p at = ap (all_writes_of held) (parted P i p at) ∙ parts-append (take i P) (p ∷ drop (suc i) P)

  -- of the parts from a place on, and from the next one on
  pub drop-ascends : (P : List (Arc X Z)) (i : ℕ) → Ascends (all_writes_of held P) → Ascends (all_writes_of held (drop i P))
  drop-ascends P i h =
      sorted-second path_cmp (all_writes_of held (take i P)) (all_writes_of held (drop i P))
      (subst Ascends (ap (all_writes_of held) (sym (take-append-drop i P)) ∙ parts-append (take i P) (drop i P)) h)

  after_first : (P : List (Arc X Z)) (path : List ℕ) → AllAbove (all_writes_of held P) path → AllAbove (all_writes_of held (drop 1 P)) path
  after_first [] path h = tt
  after_first (p ∷ P) path h = all-second (λ (w : Write). path_cmp path w.0 ≡ Less) (held (arc_value p)) (all_writes_of held P) h

  -- each part has a first path
  module _ (some : (x : X) → 0 < length (held x)) where
    abbrev begin : Arc X Z → List ℕ
    begin part = first_path (held (arc_value part))

    above-firsts : (P : List (Arc X Z)) (k : List ℕ) → Above path_cmp (all_writes_of held P) k → AllByRecursion (λ (q : Arc X Z). path_cmp k (first_path (held (arc_value q))) ≡ Less) P
    above-firsts [] k h = tt
    above-firsts (p ∷ P) k h = (
      first-above (held (arc_value p)) k (some (arc_value p)) (all-first (λ (w : Write). path_cmp k w.0 ≡ Less) (held (arc_value p)) (all_writes_of held P) h),
      above-firsts P k (all-second (λ (w : Write). path_cmp k w.0 ≡ Less) (held (arc_value p)) (all_writes_of held P) h),
    )

    rises-parts : (P : List (Arc X Z)) → Ascends (all_writes_of held P) → Rises path_cmp_total path_cmp-IsAntisymmetric (λ (q : Arc X Z). first_path (held (arc_value q))) P
    rises-parts [] h = tt
    rises-parts (p ∷ P) h = (
      above-firsts P (first_path (held (arc_value p))) (back-of (held (arc_value p)) (all_writes_of held P) (some (arc_value p)) (sorted-precedes path_cmp (held (arc_value p)) (all_writes_of held P) h)),
      rises-parts P (sorted-second path_cmp (held (arc_value p)) (all_writes_of held P) h),
    )

    below_part : (P : List (Arc X Z)) (i : ℕ) (p : Arc X Z) → Ascends (all_writes_of held P) → slice_get P i ≡ Some p → AllPathsBelow (all_writes_of held (take i P)) (first_path (held (arc_value p)))
    below_part P i p h at =
        first-of (all_writes_of held (take i P)) (held (arc_value p)) (all_writes_of held (drop (suc i) P)) (some (arc_value p))
        (sorted-precedes path_cmp (all_writes_of held (take i P)) (held (arc_value p) ++ all_writes_of held (drop (suc i) P)) (subst Ascends (cut_at P i p at) h))

    above_part : (P : List (Arc X Z)) (i : ℕ) (p : Arc X Z) → Ascends (all_writes_of held P) → slice_get P i ≡ Some p → AllAbove (all_writes_of held (drop (suc i) P)) (first_path (held (arc_value p)))
    above_part P i p h at =
        back-of (held (arc_value p)) (all_writes_of held (drop (suc i) P)) (some (arc_value p))
        (sorted-precedes path_cmp (held (arc_value p)) (all_writes_of held (drop (suc i) P)) (sorted-second path_cmp (all_writes_of held (take i P)) (held (arc_value p) ++ all_writes_of held (drop (suc i) P)) (subst Ascends (cut_at P i p at) h)))

    above_parts : (P : List (Arc X Z)) (path : List ℕ) → Ascends (all_writes_of held P) → AllByRecursion (λ (q : Arc X Z). path_cmp (first_path (held (arc_value q))) path ≡ Greater) P → AllAbove (all_writes_of held P) path
    above_parts [] path h g = tt
    above_parts (p ∷ P) path h g =
        all-append (λ (w : Write). path_cmp path w.0 ≡ Less) (held (arc_value p)) (all_writes_of held P)
        (starts_above (held (arc_value p)) path (some (arc_value p)) (sorted-front path_cmp (held (arc_value p)) (all_writes_of held P) h) (turned_greater path_cmp_total path_cmp-IsAntisymmetric (first_path (held (arc_value p))) path g.0))
        (above_parts P path (sorted-second path_cmp (held (arc_value p)) (all_writes_of held P) h) g.1)

    abbrev Searched : List (Arc X Z) → List ℕ → Result ℕ ℕ → Type 0
    Searched P path r = IsSearchInRange r (length P) × IsBinarySearchResult (λ (q : Arc X Z). path_cmp (first_path (held (arc_value q))) path) P r

    module _ (P : List (Arc X Z)) (path : List ℕ) (h : Ascends (all_writes_of held P)) where
      begins_there : (i : ℕ) → Searched P path (Ok i) → (q : Arc X Z) × (slice_get P i ≡ Some q) × (first_path (held (arc_value q)) ≡ path)
      begins_there i s =
          let q = there P i s.0 in
          (q.0, q.1, path_cmp-IsAntisymmetric (begin q.0) path (ap (λ (z : Arc X Z). path_cmp (first_path (held (arc_value z))) path) (sym (q.2 q.0)) ∙ s.1 q.0))

      pub found-below : (i : ℕ) → Searched P path (Ok i) → AllPathsBelow (all_writes_of held (take i P)) path
      found-below i s = let q = begins_there i s in subst (AllPathsBelow (all_writes_of held (take i P))) q.2 (below_part P i q.0 h q.1)

      pub found-above : (i : ℕ) → Searched P path (Ok i) → AllAbove (all_writes_of held (drop (i + 1) P)) path
      found-above i s =
          let q = begins_there i s in
          let next : suc i ≡ i + 1 = omega arith in
          subst (λ j. AllAbove (all_writes_of held (drop j P)) path) next (subst (AllAbove (all_writes_of held (drop (suc i) P))) q.2 (above_part P i q.0 h q.1))

      pub between-below : (i : ℕ) → Searched P path (Err i) → AllPathsBelow (all_writes_of held (take (i - 1) P)) path
      between-below zero s = tt
      between-below (suc i) s =
          let q = there P i (omega (arith, s.0)) in
          let parts = s.1 (searchable path_cmp_total path_cmp-IsAntisymmetric (λ (z : Arc X Z). first_path (held (arc_value z))) path P (rises-parts P h)) in
          let lt : path_cmp (begin q.0) path ≡ Less = ap (λ (z : Arc X Z). path_cmp (first_path (held (arc_value z))) path) (sym (q.2 q.0)) ∙ parts.0 i q.0 (omega arith) (omega arith) in
          let before : i ≡ suc i - 1 = omega arith in
          subst (λ j. AllPathsBelow (all_writes_of held (take j P)) path) before (lower_all (all_writes_of held (take i P)) (begin q.0) path lt (below_part P i q.0 h q.1))

      above_all : (i : ℕ) → Searched P path (Err i) → AllAbove (all_writes_of held (drop i P)) path
      above_all i s =
          let parts = s.1 (searchable path_cmp_total path_cmp-IsAntisymmetric (λ (z : Arc X Z). first_path (held (arc_value z))) path P (rises-parts P h)) in
          above_parts (drop i P) path (drop-ascends P i h) (drop-within (λ (q : Arc X Z). path_cmp (first_path (held (arc_value q))) path ≡ Greater) P i parts.1)

      pub between-above : (i : ℕ) → Searched P path (Err i) → AllAbove (all_writes_of held (drop ((i - 1) + 1) P)) path
      between-above zero s = after_first P path (above_all zero s)
      between-above (suc i) s =
          let next : suc i ≡ (suc i - 1) + 1 = omega arith in
          subst (λ j. AllAbove (all_writes_of held (drop j P)) path) next (above_all (suc i) s)

-- pages have writes, and so have nodes
pub page-some : (page : Page) → 0 < length (writes_of page)
page-some page = page.page.some

some-first : (V W : List Write) → 0 < length V → 0 < length (V ++ W)
some-first [] W some = absurd (omega (arith, some))
some-first (v ∷ V) W some = omega arith

module _ {Z : Type 0} where
  pages-some : (P : List (Arc Page Z)) → 0 < length P → 0 < length (all_writes P)
  pages-some [] some = absurd (omega (arith, some))
  pages-some (p ∷ P) some = some-first (writes_of (arc_value p)) (all_writes P) (page-some (arc_value p))

  -- where there is a write, there is a page
  pub some-pages : (P : List (Arc Page Z)) → 0 < length (all_writes P) → 0 < length P
  some-pages [] some = absurd (omega (arith, some))
  some-pages (p ∷ P) some = omega arith

pub node-some : (node : Node) → 0 < length (writes_below node)
node-some node = pages-some node.pages.items node.some

-- more nodes, of pages that are left
pub nodes-more : {Y Z : Type 0} (N M : List (Arc Node Z)) (node : Arc Node Z) (rest front back : List (Arc Page Y)) (all : List Write) → M ≡ N ++ node ∷ [] → writes_below (arc_value node) ≡ all_writes front → rest ≡ front ++ back → all_nodes N ++ all_writes rest ≡ all → all_nodes M ++ all_writes back ≡ all
nodes-more N M node rest front back all more is cut so =
    ap (λ l. all_nodes l ++ all_writes back) more
    ∙ ap (λ l. l ++ all_writes back) (parts-append writes_below N (node ∷ []) ∙ ap (λ l. all_nodes N ++ l) (append-nil (writes_below (arc_value node)) ∙ is))
    ∙ append_assoc (all_nodes N) (all_writes front) (all_writes back)
    ∙ ap (λ l. all_nodes N ++ l) (sym (ap all_writes cut ∙ parts-append writes_of front back))
    ∙ so
