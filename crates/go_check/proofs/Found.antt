-- Names in order, as they come behind one another.
use Rattle.std.proofs.Common.{◌≡◌, ℕ, false, List, [], ◌∷◌, ◌++◌, Option, Some, None, map, append_assoc, string_bytes, String, refl, sym, ap, ◌∙◌, subst, inl, inr}
use Rattle.std.specs.Prelude.{bytes_eq, string_cmp, string_eq}
use Rattle.std.specs.Cmp.Lexicographic.{slice_cmp}
use Rattle.std.specs.Global.{Global}
use Rattle.std.specs.List.{AllByRecursion}
use Rattle.std.specs.List.Sorted.{IsStrictlySortedBy}
use Rattle.std.specs.Map.{keys_of, lookup}
use Rattle.std.specs.Option.{option_map}
use Rattle.std.specs.Ordering.{nat_cmp}
use Rattle.std.specs.declared.cmp.Ordering.{Ordering}
use Rattle.std.specs.declared.cmp.Ordering.TheVariants.{Less, Equal}
use Rattle.std.proofs.lemmas.Bool.{cases_Bool}
use Rattle.std.proofs.lemmas.Cmp.{nat_list_cmp_total, tied_itself}
use Rattle.std.proofs.lemmas.List.{map-append}
use Rattle.std.proofs.lemmas.Slice.Eq.{bytes_eq-Decides}
use Rattle.indexmap.specs.IndexMap.{IndexMap, get, insert_entry}
use Rattle.indexmap.proofs.CallerLemmas.{insert_entry-new}
use Rattle.go_expr.specs.declared.known.Declared as declared
use Rattle.go_expr.specs.Known as known
use Rattle.go_expr.specs.Known.{Names}
use Rattle.go_expr.specs.Views.{declared_of, names_of}
use Rattle.go_export.specs.Exports.{Export, Exports}
use Rattle.go_export.specs.Views.{all_exports}
use Rattle.go_export.specs.declared.export.Export as rust
use Rattle.go_check.specs.Names.{export_declares, names_by}

abbrev pub name_cmp : List ℕ → List ℕ → Ordering
name_cmp = slice_cmp nat_cmp

-- a name of the code with what it declares
abbrev pub entry_of : String Global × Option declared.Declared → List ℕ × Option known.Declared
entry_of e = (string_bytes e.0, option_map declared_of e.1)

abbrev Below : List ℕ → List (List ℕ) → Type 0
Below x names = AllByRecursion (λ y. name_cmp x y ≡ Less) names

-- ---- order

below_names : (x : String Global) (es : List (String Global × rust.Export)) → AllByRecursion (λ y. string_cmp x y ≡ Less) (keys_of es) → Below (string_bytes x) (keys_of (all_exports es))
below_names x [] h = h
below_names x (e ∷ es) h = (h.0, below_names x es h.1)

-- names of the code in order are in order
pub ordered : (es : List (String Global × rust.Export)) → IsStrictlySortedBy string_cmp (keys_of es) → IsStrictlySortedBy name_cmp (keys_of (all_exports es))
unfolding IsStrictlySortedBy
ordered [] h = h
ordered (e ∷ es) h = (below_names e.0 es h.0, ordered es h.1)

pub keys_named : (path : List ℕ) (es : Exports) → keys_of (names_by path es) ≡ keys_of es
keys_named path [] = refl
keys_named path (e ∷ es) = ap (λ ks. e.0 ∷ ks) (keys_named path es)

unlike : (x k : List ℕ) → name_cmp x k ≡ Less → bytes_eq k x ≡ false
unlike x k less = elim (cases_Bool (bytes_eq k x)) [
  | inl t ↦ (
      let same : k ≡ x = (bytes_eq-Decides k x).0 t in
      let tie : name_cmp x k ≡ Equal = ap (name_cmp x) same ∙ tied_itself nat_list_cmp_total x in
      cc)
  | inr f ↦ f
]

below_next : (x k : List ℕ) (v : Option known.Declared) (before after : Names) → Below x (keys_of (before ++ (k, v) ∷ after)) → name_cmp x k ≡ Less
below_next x k v [] after h = h.0
below_next x k v (e ∷ before) after h = below_next x k v before after h.1

-- a name isn't among those before it
absent : (k : List ℕ) (v : Option known.Declared) (es : List (String Global × Option declared.Declared)) (after : Names) →
    IsStrictlySortedBy name_cmp (keys_of (map entry_of es ++ (k, v) ∷ after)) → lookup (λ s. bytes_eq k (string_bytes s)) es ≡ None
unfolding IsStrictlySortedBy
absent k v [] after h = refl
absent k v (e ∷ es) after h = rw (unlike (string_bytes e.0) k (below_next (string_bytes e.0) k v (map entry_of es) after h.0)) (absent k v es after h.1)

-- ---- one name after another

-- the names so far and those that are left make up all
pub one_more : {S : Type 0} (m : IndexMap (String Global) (Option declared.Declared) S) (new : List (String Global × Option declared.Declared)) (key : String Global) (d : declared.Declared)
    (path name : List ℕ) (export : Export) (left rest : Exports) (all : Names) →
    IsStrictlySortedBy name_cmp (keys_of all) → names_of m ++ names_by path left ≡ all → left ≡ (name, export) ∷ rest → string_bytes key ≡ name →
    declared_of d ≡ export_declares path name export → new ≡ insert_entry string_eq m.entries key (Some d) → map entry_of new ++ names_by path rest ≡ all
one_more m new key d path name export left rest all sorted before next text declares inserted =
    let mine : List ℕ × Option known.Declared = (name, Some (export_declares path name export)) in
    let whole : names_of m ++ mine ∷ names_by path rest ≡ all = ap (λ l. names_of m ++ names_by path l) (sym next) ∙ before in
    let none : lookup (λ s. bytes_eq name (string_bytes s)) m.entries ≡ None =
    absent name (Some (export_declares path name export)) m.entries (names_by path rest) (subst (λ (l : Names). IsStrictlySortedBy name_cmp (keys_of l)) (sym whole) sorted) in
    let free : get string_eq m key ≡ None = ap (λ n. lookup (λ s. bytes_eq n (string_bytes s)) m.entries) text ∙ none in
    let entry : entry_of (key, Some d) ≡ mine = ap (λ n. (n, Some (declared_of d))) text ∙ ap (λ v. (name, Some v)) declares in
    ap (λ l. map entry_of l ++ names_by path rest) (inserted ∙ insert_entry-new string_eq m key (Some d) free)
    ∙ ap (λ l. l ++ names_by path rest) (map-append entry_of m.entries ((key, Some d) ∷ []))
    ∙ ap (λ e. (names_of m ++ e ∷ []) ++ names_by path rest) entry
    ∙ append_assoc (names_of m) (mine ∷ []) (names_by path rest)
    ∙ whole
