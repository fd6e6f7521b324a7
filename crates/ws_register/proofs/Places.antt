-- Where a path stands among writes.
use Rattle.std.specs.Prelude.{◌≡◌, ℕ, zero, suc, List, [], ◌∷◌, ◌++◌, map, length, take, drop, refl, Some, None, Ok, Err, Result, IfOk, IfErr}
use Rattle.std.specs.Arc.{arc_value}
use Rattle.std.specs.declared.sync.Arc.{Arc}
use Rattle.std.specs.List.{AllByRecursion, slice_get}
use Rattle.std.specs.List.Sorted.{IsBinarySearchResult, IsSearchInRange}
use Rattle.std.specs.FinMap.{find, put}
use Rattle.std.specs.declared.cmp.Ordering.TheVariants.{Less, Greater}
use Rattle.std.proofs.lemmas.Cmp.{tied_itself}
use Rattle.std.proofs.lemmas.List.{take-map, take-append-drop}
use Rattle.std.proofs.Common.{sym, ap, subst, ◌∙◌, get_or}
use Rattle.ws_version.specs.Writes.{Held, Write, path_cmp}
use Rattle.ws_version.proofs.Writes.{path_cmp_total, path_cmp-IsAntisymmetric}
use Rattle.ws_register.specs.Pages.{values, Ascends, AllPathsBelow, AllAbove}
use Rattle.ws_register.proofs.Order.{all-weaker, sorted-first, sorted-rest, sorted-precedes, precedes-first, find-behind, find-none, put-behind, put-least}
use Rattle.ws_register.proofs.Searching.{Rises, searchable, take-within, drop-within, parted, there, turned_greater}

module _ {X Y : Type 0} (f : X → Y) where
  all-map : (P : Y → Type 0) (xs : List X) → AllByRecursion P (map f xs) → AllByRecursion (λ x. P (f x)) xs
  all-map P [] h = tt
  all-map P (x ∷ xs) h = (h.0, all-map P xs h.1)

  map-all : (P : Y → Type 0) (xs : List X) → AllByRecursion (λ x. P (f x)) xs → AllByRecursion P (map f xs)
  map-all P [] h = tt
  map-all P (x ∷ xs) h = (h.0, map-all P xs h.1)

  slice_get-map : (xs : List X) (i : ℕ) (x : X) → slice_get xs i ≡ Some x → slice_get (map f xs) i ≡ Some (f x)
  slice_get-map [] i x e = cc
  slice_get-map (y ∷ ys) zero x e = let g : Some y ≡ Some x = e in let same : y ≡ x = cc in ap (λ z. Some (f z)) same
  slice_get-map (y ∷ ys) (suc i) x e = slice_get-map ys i x e

  drop-map : (i : ℕ) (xs : List X) → drop i (map f xs) ≡ map f (drop i xs)
  drop-map zero xs = refl
  drop-map (suc i) [] = refl
  drop-map (suc i) (x ∷ xs) = drop-map i xs

module _ {Z : Type 0} where
  -- ---- among writes
  abbrev path_of : Arc Write Z → List ℕ
  path_of w = (arc_value w).0

  rises-writes : (ws : List (Arc Write Z)) → Ascends (values ws) → Rises path_cmp_total path_cmp-IsAntisymmetric (λ (w : Arc Write Z). (arc_value w).0) ws
  rises-writes [] h = tt
  rises-writes (w ∷ ws) h = (all-map arc_value (λ e. path_cmp (arc_value w).0 e.0 ≡ Less) ws (sorted-first path_cmp (arc_value w) (values ws) h), rises-writes ws (sorted-rest path_cmp (arc_value w) (values ws) h))

  pub place-found : (ws : List (Arc Write Z)) (path : List ℕ) (r : Result ℕ ℕ) → IsSearchInRange r (length ws) → IsBinarySearchResult (λ (w : Arc Write Z). path_cmp (arc_value w).0 path) ws r → IfOk r (λ at. (held : Held) × (slice_get (values ws) at ≡ Some (path, held)))
  place-found ws path (Ok i) lt is =
      let w = there ws i lt in
      let same : (arc_value w.0).0 ≡ path = path_cmp-IsAntisymmetric (arc_value w.0).0 path (ap (λ (z : Arc Write Z). path_cmp (arc_value z).0 path) (sym (w.2 w.0)) ∙ is w.0) in
      ((arc_value w.0).1, slice_get-map arc_value ws i w.0 w.1 ∙ ap (λ (p : List ℕ). Some (p, (arc_value w.0).1)) same)
  place-found ws path (Err i) lt is = tt

  pub place-below : (ws : List (Arc Write Z)) (path : List ℕ) (r : Result ℕ ℕ) → Ascends (values ws) → IsSearchInRange r (length ws) → IsBinarySearchResult (λ (w : Arc Write Z). path_cmp (arc_value w).0 path) ws r → IfErr r (λ at. AllPathsBelow (take at (values ws)) path)
  place-below ws path (Ok i) h lt is = tt
  place-below ws path (Err i) h le is =
      let parts = is (searchable path_cmp_total path_cmp-IsAntisymmetric (λ (w : Arc Write Z). (arc_value w).0) path ws (rises-writes ws h)) in
      subst (λ l. AllPathsBelow l path) (sym (take-map arc_value i ws)) (map-all arc_value (λ w. path_cmp w.0 path ≡ Less) (take i ws) (take-within (λ (w : Arc Write Z). path_cmp (arc_value w).0 path ≡ Less) ws i le parts.0))

  pub place-above : (ws : List (Arc Write Z)) (path : List ℕ) (r : Result ℕ ℕ) → Ascends (values ws) → IsSearchInRange r (length ws) → IsBinarySearchResult (λ (w : Arc Write Z). path_cmp (arc_value w).0 path) ws r → IfErr r (λ at. AllAbove (drop at (values ws)) path)
  place-above ws path (Ok i) h lt is = tt
  place-above ws path (Err i) h le is =
      let parts = is (searchable path_cmp_total path_cmp-IsAntisymmetric (λ (w : Arc Write Z). (arc_value w).0) path ws (rises-writes ws h)) in
      let above = all-weaker (λ (w : Arc Write Z). path_cmp (arc_value w).0 path ≡ Greater) (λ (w : Arc Write Z). path_cmp path (arc_value w).0 ≡ Less) (λ w e. turned_greater path_cmp_total path_cmp-IsAntisymmetric (path_of w) path e) (drop i ws) (drop-within (λ (w : Arc Write Z). path_cmp (arc_value w).0 path ≡ Greater) ws i parts.1) in
      subst (λ l. AllAbove l path) (sym (drop-map arc_value i ws)) (map-all arc_value (λ w. path_cmp path w.0 ≡ Less) (drop i ws) above)

-- what is found at a place where the path is
pub find-there : (W : List Write) (i : ℕ) (path : List ℕ) (held : Held) → Ascends W → slice_get W i ≡ Some (path, held) → find path_cmp path W ≡ Some held
find-there W i path held h at =
    let cut = parted W i (path, held) at in
    let below = precedes-first path_cmp (take i W) (path, held) (drop (suc i) W) (sorted-precedes path_cmp (take i W) ((path, held) ∷ drop (suc i) W) (subst Ascends cut h)) in
    ap (find path_cmp path) cut ∙ find-behind path_cmp path_cmp_total (take i W) path ((path, held) ∷ drop (suc i) W) below
    ∙ rw (tied_itself path_cmp_total path) refl

pub find-nowhere : (W : List Write) (i : ℕ) (path : List ℕ) → AllPathsBelow (take i W) path → AllAbove (drop i W) path → find path_cmp path W ≡ None
find-nowhere W i path below above =
    ap (find path_cmp path) (sym (take-append-drop i W)) ∙ find-behind path_cmp path_cmp_total (take i W) path (drop i W) below
    ∙ find-none path_cmp path_cmp_total path (drop i W) above

pub put-there : (W : List Write) (i : ℕ) (path : List ℕ) (held new : Held) → Ascends W → slice_get W i ≡ Some (path, held) → put path_cmp path new W ≡ take i W ++ (path, new) ∷ drop (suc i) W
put-there W i path held new h at =
    let cut = parted W i (path, held) at in
    let below = precedes-first path_cmp (take i W) (path, held) (drop (suc i) W) (sorted-precedes path_cmp (take i W) ((path, held) ∷ drop (suc i) W) (subst Ascends cut h)) in
    ap (put path_cmp path new) cut ∙ put-behind path_cmp path_cmp_total (take i W) path new ((path, held) ∷ drop (suc i) W) below
    ∙ ap (λ l. take i W ++ l) (rw (tied_itself path_cmp_total path) refl)

pub put-between : (W : List Write) (i : ℕ) (path : List ℕ) (new : Held) → AllPathsBelow (take i W) path → AllAbove (drop i W) path → put path_cmp path new W ≡ take i W ++ (path, new) ∷ drop i W
put-between W i path new below above =
    ap (put path_cmp path new) (sym (take-append-drop i W)) ∙ put-behind path_cmp path_cmp_total (take i W) path new (drop i W) below
    ∙ ap (λ l. take i W ++ l) (put-least path_cmp path_cmp_total path new (drop i W) above)

module _ {Z : Type 0} where
  -- what a write at a place holds, where the place is of that path
  pub held_there : (ws : List (Arc Write Z)) (i : ℕ) (w : Write) (arc : Arc Write Z) (path : List ℕ) (held : Held) → w ≡ arc_value arc → arc ≡ get_or ws i arc → slice_get (values ws) i ≡ Some (path, held) → w.1 ≡ held
  held_there [] i w arc path held is read at = cc
  held_there (v ∷ ws) zero w arc path held is read at =
      let here : Some (arc_value v) ≡ Some (path, held) = at in
      let same : ◌≡◌ {A = Write} (arc_value v) (path, held) = cc in
      ap (λ (z : Write). z.1) (is ∙ ap arc_value read ∙ same)
  held_there (v ∷ ws) (suc i) w arc path held is read at = held_there ws i w arc path held is read at

  pub put-there-slices : (ws front back : List (Arc Write Z)) (i : ℕ) (path : List ℕ) (held new : Held) → Ascends (values ws) → slice_get (values ws) i ≡ Some (path, held) → front ≡ take i ws → back ≡ drop (suc i) ws → put path_cmp path new (values ws) ≡ values front ++ (path, new) ∷ values back
  put-there-slices ws front back i path held new h at f b =
      put-there (values ws) i path held new h at
      ∙ ap (λ l. l ++ (path, new) ∷ drop (suc i) (values ws)) (take-map arc_value i ws ∙ ap values (sym f))
      ∙ ap (λ (l : List Write). values front ++ (path, new) ∷ l) (drop-map arc_value (suc i) ws ∙ ap values (sym b))

  pub put-between-slices : (ws front back : List (Arc Write Z)) (i : ℕ) (path : List ℕ) (new : Held) → AllPathsBelow (take i (values ws)) path → AllAbove (drop i (values ws)) path → front ≡ take i ws → back ≡ drop i ws → put path_cmp path new (values ws) ≡ values front ++ (path, new) ∷ values back
  put-between-slices ws front back i path new below above f b =
      put-between (values ws) i path new below above
      ∙ ap (λ l. l ++ (path, new) ∷ drop i (values ws)) (take-map arc_value i ws ∙ ap values (sym f))
      ∙ ap (λ (l : List Write). values front ++ (path, new) ∷ l) (drop-map arc_value i ws ∙ ap values (sym b))
