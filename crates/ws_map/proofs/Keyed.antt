-- The entries of a `BTreeMap`, whose keys are ordered by their bytes, as a finite map from bytes.
use Rattle.std.specs.Prelude.{◌≡◌, ℕ, Bool, true, false, cond, T, ◌&&◌, List, [], ◌∷◌, ◌⊎◌, refl, Option, Some}
use Rattle.std.specs.declared.cmp.Ordering.{Ordering}
use Rattle.std.specs.declared.cmp.Ordering.TheVariants.{Less, Equal, Greater}
use Rattle.std.specs.List.{AllByRecursion, AllZip, Contains}
use Rattle.std.specs.List.Sorted.{IsStrictlySortedBy}
use Rattle.std.specs.Map.{lookup, keys_of}
use Rattle.std.specs.BTreeMap.{BTreeMap, is_at, insert_entry}
use Rattle.std.specs.Ordering.{is_lt, is_eq, match_ordering}
use Rattle.std.specs.Cmp.{IsTotalOrder}
use Rattle.std.specs.FinMap.{FinMap, empty, get, find, insert, from_entries, entries, is_sorted, IsAntisymmetric, nat_cmp-IsAntisymmetric, slice_cmp-IsAntisymmetric, get-from_entries, get-insert, same_map}
use Rattle.std.proofs.lemmas.Cmp.{tied_itself, nat_list_cmp_total}
use Rattle.std.proofs.lemmas.Map.Keys.{sorted_head, sorted_tail}
use Rattle.std.proofs.Common.{sym, ap, subst, ◌∙◌, inl, inr, arith}
use Rattle.ws_map.specs.Keyed.{bytes_cmp, keyed, by_key, StandsAtBytes}
use Rattle.ws_map.specs.Kept.{joined, gathered}
use Rattle.ws_map.proofs.Gathered.{entries-from_entries, gathered_entries}
use Rattle.ws_map.proofs.Itself.{Contains-cons_cases, Contains-first, Contains-later, get-contained}

pub bytes_cmp_total : IsTotalOrder bytes_cmp
bytes_cmp_total = nat_list_cmp_total

pub bytes_cmp-IsAntisymmetric : IsAntisymmetric bytes_cmp
bytes_cmp-IsAntisymmetric = slice_cmp-IsAntisymmetric nat_cmp-IsAntisymmetric

both_hold : (a b : Bool) → T a → T b → T (a && b)
both_hold true b h k = k
both_hold false b h k = absurd h

both_parts : (a b : Bool) → T (a && b) → T a × T b
both_parts true b h = (tt, h)
both_parts false b h = absurd h

is_less : (r : Ordering) → r ≡ Less → T (is_lt r)
is_less r e = subst (λ z. T (is_lt z)) (sym e) tt

equal_test : (r : Ordering) → is_eq r ≡ true → r ≡ Equal
equal_test Less e = cc
equal_test Equal e = refl
equal_test Greater e = cc

-- an empty map has no entries
pub entries-empty : {X : Type 0} → entries (empty {X = X} {R = bytes_cmp}) ≡ []
entries-empty {X} = entries-from_entries bytes_cmp_total bytes_cmp-IsAntisymmetric [] tt

same_twice : {X : Type 0} (a b : Bool) (x y : X) (o : Option X) → a ≡ b → cond a (Some x) o ≡ cond b (Some x) (cond a (Some y) o)
same_twice true true x y o e = refl
same_twice true false x y o e = cc
same_twice false true x y o e = cc
same_twice false false x y o e = refl

turned : {X : Type 0} (a b : Bool) (x y : X) (o : Option X) → (a ≡ true → b ≡ true → ⊥) → cond a (Some y) (cond b (Some x) o) ≡ cond b (Some x) (cond a (Some y) o)
turned true true x y o h = absurd (h refl refl)
turned true false x y o h = refl
turned false true x y o h = refl
turned false false x y o h = refl

not_greater : (r : Ordering) → r ≡ Greater → r ≡ Equal → ⊥
not_greater r e f = let both : Greater ≡ Equal = sym e ∙ f in cc

none_in_empty : {A : Type 0} (a : A) → ¬ (Contains [] a)
none_in_empty a c = absurd (omega (arith, c.1))

module _ {K X : Type 0} (bytes : K → List ℕ) where
  pub get-by_key : (es : List (K × X)) (q : List ℕ) → get (by_key bytes es) q ≡ find bytes_cmp q (keyed bytes es)
  get-by_key es q = get-from_entries bytes_cmp_total (keyed bytes es) q

  find-bytes : (es : List (K × X)) (q : List ℕ) → find bytes_cmp q (keyed bytes es) ≡ lookup (λ k. is_eq (bytes_cmp q (bytes k))) es
  find-bytes [] q = refl
  find-bytes (e ∷ es) q = ap (cond (is_eq (bytes_cmp q (bytes e.0))) (Some e.1)) (find-bytes es q)

  -- what a look-up by bytes finds
  pub get-at_bytes : (es : List (K × X)) (q : List ℕ) → get (by_key bytes es) q ≡ lookup (λ k. is_eq (bytes_cmp q (bytes k))) es
  get-at_bytes es q = get-by_key es q ∙ find-bytes es q

  keyed-contained : (es : List (K × X)) (key : K) (x : X) → Contains es (key, x) → Contains (keyed bytes es) (bytes key, x)
  keyed-contained [] key x c = absurd (none_in_empty {A = K × X} (key, x) c)
  keyed-contained (e ∷ es) key x c = elim (Contains-cons_cases e es (key, x) c) [
    | inl here ↦ subst (λ (p : K × X). Contains (keyed bytes (e ∷ es)) (bytes p.0, p.1)) here (Contains-first (bytes e.0, e.1) (keyed bytes es))
    | inr later ↦ Contains-later (bytes e.0, e.1) (keyed bytes es) (bytes key, x) (keyed-contained es key x later)
  ]

  module _ (C : K → K → Type 0) (D : X → X → Type 0) (same_key : (a b : K) → C a b → bytes b ≡ bytes a) (same_value : (a b : X) → D a b → b ≡ a) where
    same_first : (e f : K × X) (es fs : List (List ℕ × X)) → bytes f.0 ≡ bytes e.0 → f.1 ≡ e.1 → fs ≡ es → (bytes f.0, f.1) ∷ fs ≡ (bytes e.0, e.1) ∷ es
    same_first e f es fs a b c = ap (λ (l : List ℕ). (l, f.1) ∷ fs) a ∙ ap (λ (z : X). (bytes e.0, z) ∷ fs) b ∙ ap (λ (l : List (List ℕ × X)). (bytes e.0, e.1) ∷ l) c

    keyed-cloned : (es fs : List (K × X)) → AllZip (λ p q. C p.0 q.0 × D p.1 q.1) es fs → keyed bytes fs ≡ keyed bytes es
    keyed-cloned [] [] h = refl
    keyed-cloned [] (f ∷ fs) h = absurd h
    keyed-cloned (e ∷ es) [] h = absurd h
    keyed-cloned (e ∷ es) (f ∷ fs) h = same_first e f (keyed bytes es) (keyed bytes fs) (same_key e.0 f.0 h.0.0) (same_value e.1 f.1 h.0.1) (keyed-cloned es fs h.1)

    -- a map and its clone hold the same
    pub same_contents : (m n : BTreeMap K X) → (n ≡ m) ⊎ AllZip (λ p q. C p.0 q.0 × D p.1 q.1) m.entries n.entries → by_key bytes n.entries ≡ by_key bytes m.entries
    same_contents m n (inl same) = ap (λ (k : BTreeMap K X). by_key bytes k.entries) same
    same_contents m n (inr clone) = ap (from_entries {R = bytes_cmp}) (keyed-cloned m.entries n.entries clone)

module _ {K : Type 0} (cmp : K → K → Ordering) (bytes : K → List ℕ) (by_bytes : (a b : K) → cmp a b ≡ bytes_cmp (bytes a) (bytes b)) where
  -- keys that tie have the same bytes
  pub same_bytes : (a b : K) → cmp a b ≡ Equal → bytes a ≡ bytes b
  same_bytes a b e = bytes_cmp-IsAntisymmetric (bytes a) (bytes b) (sym (by_bytes a b) ∙ e)

  not_both : (k l : K) (q : List ℕ) → cmp k l ≡ Greater → is_eq (bytes_cmp q (bytes l)) ≡ true → is_eq (bytes_cmp q (bytes k)) ≡ true → ⊥
  not_both k l q above here there =
      let at_l : q ≡ bytes l = bytes_cmp-IsAntisymmetric q (bytes l) (equal_test _ here) in
      let at_k : q ≡ bytes k = bytes_cmp-IsAntisymmetric q (bytes k) (equal_test _ there) in
      not_greater (cmp k l) above (by_bytes k l ∙ ap (bytes_cmp (bytes k)) (sym at_l ∙ at_k) ∙ tied_itself bytes_cmp_total (bytes k))

  module _ {X : Type 0} where
    find_lookup : (es : List (K × X)) (k : K) → find bytes_cmp (bytes k) (keyed bytes es) ≡ lookup (is_at (cmp k)) es
    find_lookup [] k = refl
    find_lookup (e ∷ es) k =
        ap (λ r. cond (is_eq r) (Some e.1) (find bytes_cmp (bytes k) (keyed bytes es))) (sym (by_bytes k e.0))
        ∙ ap (cond (is_eq (cmp k e.0)) (Some e.1)) (find_lookup es k)

    -- what a look-up finds
    pub get-at_key : (es : List (K × X)) (k : K) → get (by_key bytes es) (bytes k) ≡ lookup (is_at (cmp k)) es
    get-at_key es k = get-by_key bytes es (bytes k) ∙ find_lookup es k

    -- the first key is below each of the others, where they are in order
    below_keyed : (k : K) (x : X) (es : List (K × X)) → AllByRecursion (λ y. cmp k y ≡ Less) (keys_of es) → T (is_sorted bytes_cmp (keyed bytes es)) → T (is_sorted bytes_cmp ((bytes k, x) ∷ keyed bytes es))
    below_keyed k x [] h s = tt
    below_keyed k x (e ∷ es) h s =
        let tail = below_keyed k x es h.1 (both_parts _ _ s).1 in
        both_hold _ _ (both_hold _ _ (is_less (bytes_cmp (bytes k) (bytes e.0)) (sym (by_bytes k e.0) ∙ h.0)) (both_parts _ _ tail).0) s

    sorted-keyed : (es : List (K × X)) → IsStrictlySortedBy cmp (keys_of es) → T (is_sorted bytes_cmp (keyed bytes es))
    sorted-keyed [] h = tt
    sorted-keyed (e ∷ es) h = below_keyed e.0 e.1 es (sorted_head cmp e.0 (keys_of es) h) (sorted-keyed es (sorted_tail cmp e.0 (keys_of es) h))

    pub entries-by_key : (es : List (K × X)) → IsStrictlySortedBy cmp (keys_of es) → entries (by_key bytes es) ≡ keyed bytes es
    entries-by_key es h = entries-from_entries bytes_cmp_total bytes_cmp-IsAntisymmetric (keyed bytes es) (sorted-keyed es h)

    -- to take each of the entries in turn is to join their map
    pub gathered-keyed : (f : X → X → X) (m : FinMap bytes_cmp X) (es : List (K × X)) → IsStrictlySortedBy cmp (keys_of es) → gathered f m (keyed bytes es) ≡ joined f m (by_key bytes es)
    gathered-keyed f m es h = ap (gathered f m) (sym (entries-by_key es h)) ∙ gathered_entries bytes_cmp_total bytes_cmp-IsAntisymmetric f m (by_key bytes es)

    -- what stands among the entries is found there
    pub found : (es : List (K × X)) (at : List ℕ) (x : X) → IsStrictlySortedBy cmp (keys_of es) → StandsAtBytes bytes es at x → get (by_key bytes es) at ≡ Some x
    found es at x sorted (key, same, in_es) =
        ap (get (by_key bytes es)) (sym same)
        ∙ get-contained bytes_cmp_total bytes_cmp-IsAntisymmetric (by_key bytes es) (bytes key) x
        (subst (λ l. Contains l (bytes key, x)) (sym (entries-by_key es sorted)) (keyed-contained bytes es key x in_es))

    find-inserted : (es : List (K × X)) (k : K) (x : X) (q : List ℕ) → find bytes_cmp q (keyed bytes (insert_entry cmp es k x)) ≡ cond (is_eq (bytes_cmp q (bytes k))) (Some x) (find bytes_cmp q (keyed bytes es))
    find-inserted [] k x q = refl
    find-inserted (e ∷ es) k x q =
        let inserted = insert_entry cmp es k x in
        let others = find bytes_cmp q (keyed bytes es) in
        let is_e = is_eq (bytes_cmp q (bytes e.0)) in
        let is_k = is_eq (bytes_cmp q (bytes k)) in
        elim (cmp k e.0) as (λ r. cmp k e.0 ≡ r → find bytes_cmp q (keyed bytes (match_ordering r ((k, x) ∷ e ∷ es) ((e.0, x) ∷ es) (e ∷ inserted))) ≡ cond is_k (Some x) (cond is_e (Some e.1) others)) [
          | Less ↦ λ t. refl
          | Equal ↦ λ t. same_twice is_e is_k x e.1 others (ap (λ b. is_eq (bytes_cmp q b)) (sym (same_bytes k e.0 t)))
          | Greater ↦ λ t. ap (cond is_e (Some e.1)) (find-inserted es k x q) ∙ turned is_e is_k x e.1 others (not_both k e.0 q t)
        ] refl

    -- a value put at a key
    pub insert-by_key : (es fs : List (K × X)) (k : K) (x : X) → fs ≡ insert_entry cmp es k x → by_key bytes fs ≡ insert (by_key bytes es) (bytes k) x
    insert-by_key es fs k x e = same_map bytes_cmp_total bytes_cmp-IsAntisymmetric _ _ (λ q.
        get-by_key bytes fs q ∙ ap (λ l. find bytes_cmp q (keyed bytes l)) e ∙ find-inserted es k x q
        ∙ ap (cond (is_eq (bytes_cmp q (bytes k))) (Some x)) (sym (get-by_key bytes es q)) ∙ sym (get-insert bytes_cmp_total (by_key bytes es) (bytes k) x q))

module _ {A : Type 0} where
  pub at_first : (all rest : List A) (e : A) → all ≡ e ∷ rest → Contains all e
  at_first all rest e steps = subst (λ l. Contains l e) (sym steps) (Contains-first e rest)

  pub later : (all rest : List A) (e a : A) → all ≡ e ∷ rest → Contains rest a → Contains all a
  later all rest e a steps in_rest = subst (λ l. Contains l a) (sym steps) (Contains-later e rest a in_rest)
