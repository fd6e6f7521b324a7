-- What stands under a name in order, and that the names ascend.
use Rattle.std.proofs.Common.{◌≡◌, ℕ, Bool, true, false, cond, List, [], ◌∷◌, Option, Some, None, refl, ap, sym, ◌∙◌, subst}
use Rattle.std.specs.Prelude.{bytes_eq}
use Rattle.std.specs.BTreeMap.{insert_entry}
use Rattle.std.specs.Cmp.Lexicographic.{slice_cmp}
use Rattle.std.specs.List.{All, AllByRecursion}
use Rattle.std.specs.List.Sorted.{IsStrictlySortedBy}
use Rattle.std.specs.Map.{keys_of, values_of, lookup}
use Rattle.std.specs.Ordering.{nat_cmp, match_ordering, ordering_reverse}
use Rattle.std.specs.declared.cmp.Ordering.{Ordering}
use Rattle.std.specs.declared.cmp.Ordering.TheVariants.{Less, Equal, Greater}
use Rattle.std.proofs.lemmas.Cmp.{nat_list_cmp_total, tied_itself}
use Rattle.std.proofs.lemmas.Map.Entries.{lookup-filter-keys}
use Rattle.std.proofs.lemmas.Map.Lookups.{exact_bytes}
use Rattle.std.proofs.lemmas.Slice.Eq.{bytes_eq-Decides}
use Rattle.std.proofs.lemmas.List.Elements.{All-cons, All-head, All-tail}
use Rattle.std.proofs.lemmas.Map.Views.{All-values-insert_entry}
use Rattle.go_typed.specs.Trees.{Package}
use Rattle.go_types.specs.Names.{is_exported}
use Rattle.go_export.specs.Writable.{IsShown}
use Rattle.go_export.specs.Exports.{Export, Exports, declared_by, only_exported, sorted_by_name, exports_of}

abbrev name_cmp : List ℕ → List ℕ → Ordering
name_cmp = slice_cmp nat_cmp

-- ---- look-ups

asked_twice : {X : Type 0} (a : Bool) (v w : Option X) (l : Option X) → cond a v l ≡ cond a v (cond a w l)
asked_twice true v w l = refl
asked_twice false v w l = refl

swapped : {X : Type 0} (a b : Bool) (v w l : Option X) → (a ≡ true → b ≡ true → ⊥) → cond a w (cond b v l) ≡ cond b v (cond a w l)
swapped true true v w l apart = absurd (apart refl refl)
swapped true false v w l apart = refl
swapped false true v w l apart = refl
swapped false false v w l apart = refl

same_text : (x y : List ℕ) → bytes_eq x y ≡ true → x ≡ y
same_text x y e = (bytes_eq-Decides x y).0 e

not_above : (x k l : List ℕ) → name_cmp k l ≡ Greater → bytes_eq x l ≡ true → bytes_eq x k ≡ true → ⊥
not_above x k l above at_l at_k =
    let names : k ≡ l = sym (same_text x k at_k) ∙ same_text x l at_l in
    let tie : name_cmp k l ≡ Equal = ap (name_cmp k) (sym names) ∙ tied_itself nat_list_cmp_total k in
    cc

-- under a name that comes to others stands what it brings
pub found_put : (x k : List ℕ) (v : Export) (es : Exports) → lookup (bytes_eq x) (insert_entry name_cmp es k v) ≡ cond (bytes_eq x k) (Some v) (lookup (bytes_eq x) es)
found_put x k v [] = refl
found_put x k v (e ∷ es) = by_order (found_put x k v es) (name_cmp k e.0) refl
  where
    by_order : lookup (bytes_eq x) (insert_entry name_cmp es k v) ≡ cond (bytes_eq x k) (Some v) (lookup (bytes_eq x) es) → (o : Ordering) → name_cmp k e.0 ≡ o →
        lookup (bytes_eq x) (match_ordering o ((k, v) ∷ e ∷ es) ((e.0, v) ∷ es) (e ∷ insert_entry name_cmp es k v))
        ≡ cond (bytes_eq x k) (Some v) (cond (bytes_eq x e.0) (Some e.1) (lookup (bytes_eq x) es))
    by_order rest Less is = refl
    by_order rest Equal is =
        subst (λ (n : List ℕ). cond (bytes_eq x e.0) (Some v) (lookup (bytes_eq x) es) ≡ cond (bytes_eq x n) (Some v) (cond (bytes_eq x e.0) (Some e.1) (lookup (bytes_eq x) es)))
        (sym (exact_bytes k e.0 is)) (asked_twice (bytes_eq x e.0) (Some v) (Some e.1) (lookup (bytes_eq x) es))
    by_order rest Greater is =
        ap (cond (bytes_eq x e.0) (Some e.1)) rest
        ∙ swapped (bytes_eq x e.0) (bytes_eq x k) (Some v) (Some e.1) (lookup (bytes_eq x) es) (not_above x k e.0 is)

found_in_order : (x : List ℕ) (es : Exports) → lookup (bytes_eq x) (sorted_by_name es) ≡ lookup (bytes_eq x) es
found_in_order x [] = refl
found_in_order x (e ∷ es) = found_put x e.0 e.1 (sorted_by_name es) ∙ ap (cond (bytes_eq x e.0) (Some e.1)) (found_in_order x es)

pub found : (p : Package) (x : List ℕ) → lookup (bytes_eq x) (exports_of p) ≡ cond (is_exported x) (lookup (bytes_eq x) (declared_by p)) None
unfolding exports_of
found p x =
    found_in_order x (only_exported (declared_by p))
    ∙ lookup-filter-keys (bytes_eq x) is_exported (is_exported x) (λ k same. ap is_exported (sym (same_text x k same))) (declared_by p)

-- ---- order

Below : List ℕ → List (List ℕ) → Type 0
Below k = AllByRecursion (λ l. name_cmp k l ≡ Less)

all_below : (a k : List ℕ) (v : Export) (es : Exports) → Below a (keys_of es) → name_cmp a k ≡ Less → Below a (keys_of (insert_entry name_cmp es k v))
unfolding Below
all_below a k v [] below less = (less, tt)
all_below a k v (e ∷ es) below less = by_order (all_below a k v es below.1 less) (name_cmp k e.0)
  where
    by_order : Below a (keys_of (insert_entry name_cmp es k v)) → (o : Ordering) → Below a (keys_of (match_ordering o ((k, v) ∷ e ∷ es) ((e.0, v) ∷ es) (e ∷ insert_entry name_cmp es k v)))
    by_order rest Less = (less, below)
    by_order rest Equal = below
    by_order rest Greater = (below.0, rest)

below_later : (k l : List ℕ) (ls : List (List ℕ)) → name_cmp k l ≡ Less → Below l ls → Below k ls
unfolding Below
below_later k l [] less below = tt
below_later k l (m ∷ ls) less below = (nat_list_cmp_total.trans k l m less below.0, below_later k l ls less below.1)

turned : (k l : List ℕ) → name_cmp k l ≡ Greater → name_cmp l k ≡ Less
turned k l is = nat_list_cmp_total.antisymm l k ∙ ap ordering_reverse is

put_ordered : (k : List ℕ) (v : Export) (es : Exports) → IsStrictlySortedBy name_cmp (keys_of es) → IsStrictlySortedBy name_cmp (keys_of (insert_entry name_cmp es k v))
unfolding IsStrictlySortedBy Below
put_ordered k v [] sorted = (tt, tt)
put_ordered k v (e ∷ es) sorted = by_order (put_ordered k v es sorted.1) (name_cmp k e.0) refl
  where
    by_order : IsStrictlySortedBy name_cmp (keys_of (insert_entry name_cmp es k v)) → (o : Ordering) → name_cmp k e.0 ≡ o → IsStrictlySortedBy name_cmp (keys_of (match_ordering o ((k, v) ∷ e ∷ es) ((e.0, v) ∷ es) (e ∷ insert_entry name_cmp es k v)))
    by_order rest Less is = ((is, below_later k e.0 (keys_of es) is sorted.0), sorted)
    by_order rest Equal is = sorted
    by_order rest Greater is = (all_below e.0 k v es sorted.0 (turned k e.0 is), rest)

in_order_ascends : (es : Exports) → IsStrictlySortedBy name_cmp (keys_of (sorted_by_name es))
unfolding IsStrictlySortedBy
in_order_ascends [] = tt
in_order_ascends (e ∷ es) = put_ordered e.0 e.1 (sorted_by_name es) (in_order_ascends es)

pub ascends : (p : Package) → IsStrictlySortedBy name_cmp (keys_of (exports_of p))
unfolding exports_of
ascends p = in_order_ascends (only_exported (declared_by p))

-- ---- what is shown

shown_among : (es : Exports) → All IsShown (values_of es) → All IsShown (values_of (only_exported es))
shown_among [] h = h
shown_among (e ∷ es) h = by_name (shown_among es (All-tail IsShown e.1 (values_of es) h)) (is_exported e.0)
  where
    by_name : All IsShown (values_of (only_exported es)) → (b : Bool) → All IsShown (values_of (cond b (e ∷ only_exported es) (only_exported es)))
    by_name rest true = All-cons IsShown e.1 (values_of (only_exported es)) (All-head IsShown e.1 (values_of es) h) rest
    by_name rest false = rest

shown_in_order : (es : Exports) → All IsShown (values_of es) → All IsShown (values_of (sorted_by_name es))
shown_in_order [] h = h
shown_in_order (e ∷ es) h =
    All-values-insert_entry name_cmp e.0 e.1 IsShown (sorted_by_name es) (shown_in_order es (All-tail IsShown e.1 (values_of es) h)) (All-head IsShown e.1 (values_of es) h)

pub shown : (p : Package) → All IsShown (values_of (declared_by p)) → All IsShown (values_of (exports_of p))
unfolding exports_of
shown p h = shown_in_order (only_exported (declared_by p)) (shown_among (declared_by p) h)
