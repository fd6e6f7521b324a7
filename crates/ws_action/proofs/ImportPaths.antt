-- The paths that files import, sorted and each once; and whether they are those of summaries.
use Rattle.std.proofs.Common.{◌≡◌, ◌≢◌, ℕ, true, List, [], ◌∷◌, map, refl, sym, ap, subst, ◌∙◌}
use Rattle.std.specs.Prelude.{Bool, false}
use Rattle.std.specs.Bool.{OnTrue, OnFalse}
use Rattle.std.specs.declared.sync.Arc.{Arc}
use Rattle.std.specs.Arc.{arc_value}
use Rattle.std.specs.Ordering.{nat_cmp}
use Rattle.std.specs.Cmp.Lexicographic.{slice_cmp, on_texts, on_texts_equal, texts_ties}
use Rattle.std.specs.List.{AllByRecursion, Contains, dedup}
use Rattle.std.specs.List.Sorted.{IsSorted, IsPermutation, IsStrictlySortedBy}
use Rattle.std.specs.Str.{bytes_eq}
use Rattle.std.specs.declared.cmp.Ordering.TheVariants.{Less}
use Rattle.std.proofs.lemmas.Slice.Eq.{bytes_eq-Decides}
use Rattle.std.proofs.lemmas.List.Kept.{Any-dedup, Contains-from_dedup, IsStrictlySortedBy-dedup}
use Rattle.std.proofs.lemmas.List.Sorted.{Contains-permutation, IsPermutation-sym}
use Rattle.go_ast.specs.Parse.{Parsed}
use Rattle.go_export.specs.Summaries.{Summary}
use Rattle.ws_action.specs.Actions.{named_summary, text_cmp, ascends, HasSummary, AreSummariesOfImports}
use Rattle.ws_action.specs.Imported.{AreImported, AreImportPaths}
use Rattle.ws_action.proofs.Ascending.{rises, one_ascending}
use Rattle.ws_action.proofs.Mapped.{Contains-mapped, mapped_from}

module _ {X : Type 0} (f : X → List ℕ) where
  all_mapped : (x : X) (ys : List X) → AllByRecursion (λ y. text_cmp (f x) (f y) ≡ Less) ys → AllByRecursion (λ q. text_cmp (f x) q ≡ Less) (map f ys)
  all_mapped x [] h = tt
  all_mapped x (y ∷ ys) h = (h.0, all_mapped x ys h.1)

  sorted_mapped : (xs : List X) → IsStrictlySortedBy (λ x y. text_cmp (f x) (f y)) xs → IsStrictlySortedBy text_cmp (map f xs)
  unfolding IsStrictlySortedBy
  sorted_mapped [] h = tt
  sorted_mapped (x ∷ xs) h = (all_mapped x xs h.0, sorted_mapped xs h.1)

  -- sorted, and each once: they ascend, and the members stay
  pub paths_sorted : (files : List Parsed) (all sorted new : List X) (paths : List (List ℕ)) → AreImported files (map f all) → IsPermutation all sorted → IsSorted (λ x y. slice_cmp nat_cmp (f x) (f y)) sorted → new ≡ dedup (λ x y. bytes_eq (f x) (f y)) sorted → paths ≡ map f new → AreImportPaths files paths
  paths_sorted files all sorted new paths are moved ordered kept shown =
      let rising : IsStrictlySortedBy (λ x y. text_cmp (f x) (f y)) new = subst (IsStrictlySortedBy (λ x y. text_cmp (f x) (f y))) (sym kept) (IsStrictlySortedBy-dedup (on_texts f) (λ x y. texts_ties (f x) (f y)) sorted ordered) in
      record {
        ascend = subst (IsStrictlySortedBy text_cmp) (sym shown) (sorted_mapped new rising);
        imported = record {
          all = λ path imported. (
              let x = mapped_from f all path (are.all path imported) in
              let any = Any-dedup (on_texts_equal f) sorted x.0 (Contains-permutation all sorted x.0 moved x.1) in
              let y = any.1 in
              let among : Contains new y = subst (λ (l : List X). Contains l y) (sym kept) (any.0, any.2, any.3) in
              let same : f x.0 ≡ f y = (bytes_eq-Decides (f x.0) (f y)).0 any.4 in
              let found : Contains paths (f y) = subst (λ (l : List (List ℕ)). Contains l (f y)) (sym shown) (Contains-mapped f new y among) in
              subst (Contains paths) (sym same ∙ x.2) found);
          only = λ path c. (
              let x = mapped_from f new path (subst (λ (l : List (List ℕ)). Contains l path) shown c) in
              let among = Contains-permutation sorted all x.0 (IsPermutation-sym all sorted moved) (Contains-from_dedup (λ a b. bytes_eq (f a) (f b)) sorted x.0 (subst (λ (l : List X). Contains l x.0) kept x.1)) in
              are.only path (subst (Contains (map f all)) x.2 (Contains-mapped f all x.0 among)));
        };
      }

-- ---- beside summaries

abbrev pub paths_of : List Summary → List (List ℕ)
paths_of = map (λ (s : Summary). s.path)

summary_at : (summaries : List Summary) (path : List ℕ) → Contains (paths_of summaries) path → HasSummary summaries path
summary_at summaries path c = mapped_from (λ (s : Summary). s.path) summaries path c

path_at : (summaries : List Summary) (path : List ℕ) → HasSummary summaries path → Contains (paths_of summaries) path
path_at summaries path h = subst (Contains (paths_of summaries)) h.2 (Contains-mapped (λ (s : Summary). s.path) summaries h.0 h.1)

same_paths : (files : List Parsed) (summaries : List Summary) (paths : List (List ℕ)) → AreImportPaths files paths → paths_of summaries ≡ paths → AreSummariesOfImports files summaries
same_paths files summaries paths are same = record {
  all = λ path imported. summary_at summaries path (subst (λ (l : List (List ℕ)). Contains l path) (sym same) (are.imported.all path imported));
  only = λ path h. are.imported.only path (subst (λ (l : List (List ℕ)). Contains l path) same (path_at summaries path h));
}

names_are : (summaries : List Summary) → map (λ n. n.0) (map named_summary summaries) ≡ paths_of summaries
names_are [] = refl
names_are (s ∷ ss) = ap (λ (l : List (List ℕ)). s.path ∷ l) (names_are ss)

other_paths : (files : List Parsed) (summaries : List Summary) (paths : List (List ℕ)) → AreImportPaths files paths → paths_of summaries ≢ paths → ascends (map named_summary summaries) ≡ true → AreSummariesOfImports files summaries → ⊥
other_paths files summaries paths are other rise imports =
    let ascend : IsStrictlySortedBy text_cmp (paths_of summaries) = subst (IsStrictlySortedBy text_cmp) (names_are summaries) (rises (map named_summary summaries) rise) in
    other (one_ascending (paths_of summaries) paths ascend are.ascend
    (λ path c. are.imported.all path (imports.only path (summary_at summaries path c)))
    (λ path c. path_at summaries path (imports.all path (are.imported.only path c))))

-- of shared summaries
pub shared_paths : {Z : Type 0} (xs : List (Arc Summary Z)) → map (λ (s : Summary). s.path) (map arc_value xs) ≡ map (λ s. (arc_value {X = Summary} s).path) xs
shared_paths [] = refl
shared_paths (x ∷ xs) = ap (λ (l : List (List ℕ)). (arc_value x).path ∷ l) (shared_paths xs)

-- ---- as a test says

pub imports_are : (is : Bool) (files : List Parsed) (summaries : List Summary) (paths : List (List ℕ)) → AreImportPaths files paths → OnTrue is (paths_of summaries ≡ paths) → OnTrue is (AreSummariesOfImports files summaries)
imports_are true files summaries paths are same = same_paths files summaries paths are same
imports_are false files summaries paths are same = tt

pub imports_differ : (is : Bool) (files : List Parsed) (summaries : List Summary) (paths : List (List ℕ)) → AreImportPaths files paths → OnFalse is (paths_of summaries ≢ paths) → OnFalse is (ascends (map named_summary summaries) ≡ true → AreSummariesOfImports files summaries → ⊥)
imports_differ true files summaries paths are other = tt
imports_differ false files summaries paths are other = other_paths files summaries paths are other
