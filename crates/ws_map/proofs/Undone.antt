-- To put back what was held at a key takes back that a value was put there.
use Rattle.std.specs.Prelude.{◌≡◌, ℕ, map, cond, List, [], ◌∷◌, ◌++◌, refl, Option, None, Some}
use Rattle.std.specs.declared.cmp.Ordering.{Ordering}
use Rattle.std.specs.declared.cmp.Ordering.TheVariants.{Less, Equal, Greater}
use Rattle.std.specs.List.{AllByRecursion}
use Rattle.std.specs.List.Sorted.{IsStrictlySortedBy}
use Rattle.std.specs.Map.{lookup, keys_of, remove_entry, set_value}
use Rattle.std.specs.BTreeMap.{is_at, insert_entry}
use Rattle.std.specs.Ordering.{is_eq, match_ordering}
use Rattle.std.proofs.lemmas.Cmp.{tied_itself}
use Rattle.std.proofs.lemmas.Map.Keys.{sorted_head, sorted_tail}
use Rattle.std.proofs.Common.{sym, ap, ◌∙◌}
use Rattle.ws_map.specs.Keyed.{bytes_cmp}
use Rattle.ws_map.specs.Undone.{put_back, undone}
use Rattle.ws_map.proofs.Keyed.{bytes_cmp_total}

none_is_some : {A : Type 0} (x : A) → None ≡ Some x → ⊥
none_is_some x e = cc

one_of_some : {A : Type 0} (x y : A) → Some x ≡ Some y → y ≡ x
one_of_some x y e = cc

module _ {K X : Type 0} (cmp : K → K → Ordering) where
  -- to undo one more is to undo it first
  pub undone-push : {P : Type 0} (told : P → K × Option X) (ps : List P) (p : P) (es : List (K × X)) → undone cmp (map told (ps ++ p ∷ [])) es ≡ undone cmp (map told ps) (put_back cmp (told p).0 (told p).1 es)
  undone-push told [] p es = refl
  undone-push told (q ∷ ps) p es = ap (put_back cmp (told q).0 (told q).1) (undone-push told ps p es)

  -- what is set at a key that isn't there changes nothing
  pub set_absent : (es : List (K × X)) (k : K) (x : X) → lookup (is_at (cmp k)) es ≡ None → set_value (is_at (cmp k)) es x ≡ es
  set_absent [] k x none = refl
  set_absent (e ∷ es) k x none =
      elim (cmp k e.0) as (λ r. cond (is_eq r) (Some e.1) (lookup (is_at (cmp k)) es) ≡ None → cond (is_eq r) ((e.0, x) ∷ es) (e ∷ set_value (is_at (cmp k)) es x) ≡ e ∷ es) [
        | Less ↦ λ n. ap (λ (l : List (K × X)). e ∷ l) (set_absent es k x n)
        | Equal ↦ λ n. absurd (none_is_some e.1 (sym n))
        | Greater ↦ λ n. ap (λ (l : List (K × X)). e ∷ l) (set_absent es k x n)
      ] none

module _ {K : Type 0} (cmp : K → K → Ordering) (bytes : K → List ℕ) (by_bytes : (a b : K) → cmp a b ≡ bytes_cmp (bytes a) (bytes b)) where
  tied : (k : K) → cmp k k ≡ Equal
  tied k = by_bytes k k ∙ tied_itself bytes_cmp_total (bytes k)

  less_than_later : (a b c : K) → cmp a b ≡ Less → cmp b c ≡ Less → cmp a c ≡ Less
  less_than_later a b c p q = by_bytes a c ∙ bytes_cmp_total.trans (bytes a) (bytes b) (bytes c) (sym (by_bytes a b) ∙ p) (sym (by_bytes b c) ∙ q)

  same_order : (j k : K) → bytes j ≡ bytes k → cmp j ≡ cmp k
  same_order j k same = λ i y. (by_bytes j y ∙ ap (λ b. bytes_cmp b (bytes y)) same ∙ sym (by_bytes k y)) i

  module _ {X : Type 0} where
    -- a key below the first of some keys in order is none of them
    below : (k first : K) (es : List (K × X)) → cmp k first ≡ Less → AllByRecursion (λ y. cmp first y ≡ Less) (keys_of es) → lookup (is_at (cmp k)) es ≡ None
    below k first [] less all = refl
    below k first (e ∷ es) less all = ap (λ r. cond (is_eq r) (Some e.1) (lookup (is_at (cmp k)) es)) (less_than_later k first e.0 less all.0) ∙ below k first es less all.1

    removed_again : (es : List (K × X)) (k : K) (x : X) → lookup (is_at (cmp k)) es ≡ None → remove_entry (is_at (cmp k)) (insert_entry cmp es k x) ≡ es
    removed_again [] k x none = ap (λ r. cond (is_eq r) [] ((k, x) ∷ [])) (tied k)
    removed_again (e ∷ es) k x none =
        let removed = remove_entry (is_at (cmp k)) in
        let inserted = insert_entry cmp es k x in
        elim (cmp k e.0) as (λ r. cmp k e.0 ≡ r → cond (is_eq r) (Some e.1) (lookup (is_at (cmp k)) es) ≡ None → removed (match_ordering r ((k, x) ∷ e ∷ es) ((e.0, x) ∷ es) (e ∷ inserted)) ≡ e ∷ es) [
          | Less ↦ λ t n. ap (λ r. cond (is_eq r) (e ∷ es) ((k, x) ∷ removed (e ∷ es))) (tied k)
          | Equal ↦ λ t n. absurd (none_is_some e.1 (sym n))
          | Greater ↦ λ t n. ap (λ r. cond (is_eq r) inserted (e ∷ removed inserted)) t ∙ ap (λ (l : List (K × X)). e ∷ l) (removed_again es k x n)
        ] refl none

    set_again : (es : List (K × X)) (k : K) (x before : X) → IsStrictlySortedBy cmp (keys_of es) → lookup (is_at (cmp k)) es ≡ Some before → set_value (is_at (cmp k)) (insert_entry cmp es k x) before ≡ es
    set_again [] k x before sorted some = absurd (none_is_some before some)
    set_again (e ∷ es) k x before sorted some =
        let set = λ (l : List (K × X)). set_value (is_at (cmp k)) l before in
        let inserted = insert_entry cmp es k x in
        let later = sorted_tail cmp e.0 (keys_of es) sorted in
        elim (cmp k e.0) as (λ r. cmp k e.0 ≡ r → cond (is_eq r) (Some e.1) (lookup (is_at (cmp k)) es) ≡ Some before → set (match_ordering r ((k, x) ∷ e ∷ es) ((e.0, x) ∷ es) (e ∷ inserted)) ≡ e ∷ es) [
          | Less ↦ λ t s. absurd (none_is_some before (sym (below k e.0 es t (sorted_head cmp e.0 (keys_of es) sorted)) ∙ s))
          | Equal ↦ λ t s. ap (λ r. cond (is_eq r) ((e.0, before) ∷ es) ((e.0, x) ∷ set es)) t ∙ ap (λ (v : X). (e.0, v) ∷ es) (one_of_some e.1 before s)
          | Greater ↦ λ t s. ap (λ r. cond (is_eq r) ((e.0, before) ∷ inserted) (e ∷ set inserted)) t ∙ ap (λ (l : List (K × X)). e ∷ l) (set_again es k x before later s)
        ] refl some

    back : (es : List (K × X)) (k : K) (x : X) (before : Option X) → IsStrictlySortedBy cmp (keys_of es) → lookup (is_at (cmp k)) es ≡ before → put_back cmp k before (insert_entry cmp es k x) ≡ es
    back es k x None sorted is = removed_again es k x is
    back es k x (Some before) sorted is = set_again es k x before sorted is

    by_clone : (es : List (K × X)) (clone k : K) (before : Option X) → bytes clone ≡ bytes k → put_back cmp k before es ≡ put_back cmp clone before es
    by_clone es clone k None same = ap (λ (order : K → Ordering). remove_entry (is_at order) es) (sym (same_order clone k same))
    by_clone es clone k (Some before) same = ap (λ (order : K → Ordering). set_value (is_at order) es before) (sym (same_order clone k same))

    -- a value is put at a key, by a clone of the key, and taken back
    pub taken_back : (es fs : List (K × X)) (clone k : K) (x : X) (before : Option X) → bytes clone ≡ bytes k → IsStrictlySortedBy cmp (keys_of es) → before ≡ lookup (is_at (cmp clone)) es → fs ≡ insert_entry cmp es clone x → put_back cmp k before fs ≡ es
    taken_back es fs clone k x before same sorted is inserted =
        ap (put_back cmp k before) inserted
        ∙ by_clone (insert_entry cmp es clone x) clone k before same
        ∙ back es clone x before sorted (sym is)
