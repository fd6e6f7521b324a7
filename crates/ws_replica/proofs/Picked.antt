-- Paths by their numbers, and what imports of one directory lead to in two lists.
use Rattle.std.proofs.Common.{◌≡◌, ◌<◌, ℕ, zero, suc, List, [], ◌∷◌, length, map, Some, refl, sym, ap, subst, ◌∙◌, inl, inr, arith}
use Rattle.std.specs.Prelude.{slice_index_or}
use Rattle.std.specs.List.{AllByRecursion, Contains, slice_get}
use Rattle.std.specs.List.Sorted.{IsStrictlySortedBy, IsStrictlyIncreasing}
use Rattle.std.specs.declared.cmp.Ordering.TheVariants.{Less}
use Rattle.std.proofs.lemmas.Option.{slice_get_within}
use Rattle.go_text.specs.declared.edition.Edition.{Edition}
use Rattle.ws_version.specs.Writes.{path_cmp}
use Rattle.ws_version.proofs.Writes.{path_cmp_total}
use Rattle.ws_action.proofs.Members.{none_in_empty, head_or_later, at_head, later}
use Rattle.ws_graph.specs.BuildPlan.{Sources, ReachesByImports, Imports, Directory, paths_of, IsBuildPlan, IsJointPlan}
use Rattle.ws_graph.proofs.Sorted.{one_sorted}
use Rattle.ws_graph.proofs.Wholes.{IsWhole}
use Rattle.ws_replica.proofs.Numbered.{some_same, member_at}
use Rattle.ws_replica.proofs.PlanMakes.{sorted_at, below_later, tail_increasing}

abbrev Path : Type 0
Path = List ℕ

-- ---- lists

pub into_map : {A B : Type 0} (f : A → B) (xs : List A) (x : A) → Contains xs x → Contains (map f xs) (f x)
into_map f [] x c = absurd (none_in_empty x c)
into_map f (y ∷ xs) x c = elim (head_or_later y xs x c) [
  | inl same ↦ at_head (map f xs) (f y) (f x) (ap f same)
  | inr l ↦ later (f y) (map f xs) (f x) (into_map f xs x l)
]

pub from_map : {A B : Type 0} (f : A → B) (xs : List A) (y : B) → Contains (map f xs) y → (x : A) × Contains xs x × (f x ≡ y)
from_map f [] y c = absurd (none_in_empty y c)
from_map f (x ∷ xs) y c = elim (head_or_later (f x) (map f xs) y c) [
  | inl e ↦ (x, at_head xs x x refl, e)
  | inr l ↦ let rest = from_map f xs y l in (rest.0, later x xs rest.0 rest.1, rest.2)
]

-- one function is another after a third, on the members
pub map_through : {A B C : Type 0} (f : A → C) (g : A → B) (h : B → C) (xs : List A) → ((x : A) → Contains xs x → f x ≡ h (g x)) → map f xs ≡ map h (map g xs)
map_through f g h [] e = refl
map_through f g h (x ∷ xs) e =
    ap (λ z. z ∷ map f xs) (e x (at_head xs x x refl)) ∙ ap (λ zs. h (g x) ∷ zs) (map_through f g h xs (λ y c. e y (later x xs y c)))

-- ---- paths

-- the path of that number
abbrev pub at_path : List Path → ℕ → Path
at_path ps k = slice_index_or ps k []

pub at_within : (ps : List Path) (k : ℕ) → k < length ps → slice_get ps k ≡ Some (at_path ps k)
at_within [] k lt = absurd (omega (arith, lt))
at_within (p ∷ ps) zero lt = refl
at_within (p ∷ ps) (suc k) lt = at_within ps k (omega (arith, lt))

pub at_some : (ps : List Path) (k : ℕ) (p : Path) → slice_get ps k ≡ Some p → at_path ps k ≡ p
at_some [] k p e = cc
at_some (x ∷ ps) zero p e = some_same x p e
at_some (x ∷ ps) (suc k) p e = at_some ps k p e

above : (ps : List Path) → IsStrictlySortedBy path_cmp ps → (i : ℕ) (ks : List ℕ) → ((k : ℕ) → Contains ks k → (i < k) × (k < length ps)) → i < length ps → AllByRecursion (λ z. path_cmp (at_path ps i) z ≡ Less) (map (at_path ps) ks)
above ps s i [] h lt = tt
above ps s i (k ∷ ks) h lt =
    let b = h k (at_head ks k k refl) in
    (sorted_at ps s i k (at_path ps i) (at_path ps k) b.0 (at_within ps i lt) (at_within ps k b.1), above ps s i ks (λ j c. h j (later k ks j c)) lt)

-- numbers that ascend pick paths that do
pub picked_sorted : (ps : List Path) → IsStrictlySortedBy path_cmp ps → (ks : List ℕ) → IsStrictlyIncreasing ks → ((k : ℕ) → Contains ks k → k < length ps) → IsStrictlySortedBy path_cmp (map (at_path ps) ks)
unfolding IsStrictlySortedBy
picked_sorted ps s [] inc within = tt
picked_sorted ps s (k ∷ ks) inc within = (
  above ps s k ks (λ j c. (below_later k ks inc j c, within j (later k ks j c))) (within k (at_head ks k k refl)),
  picked_sorted ps s ks (tail_increasing k ks inc) (λ j c. within j (later k ks j c)),
)

-- ---- imports

module _ (edition : Edition) (sources : Sources) where
  pub inside : (ds : List Directory) → IsWhole edition sources ds → (d : Directory) → Contains ds d → (k : ℕ) → Contains d.imports k → k < length (paths_of ds)
  inside ds whole d c k among = let there = ((whole.imports d c).are k).0 among in slice_get_within (paths_of ds) k there.0 there.1

  one_side : (ds es : List Directory) → IsWhole edition sources ds → IsWhole edition sources es → (d e : Directory) → Contains ds d → Contains es e → d.path ≡ e.path → (q : Path) → Contains (map (at_path (paths_of ds)) d.imports) q → Contains (map (at_path (paths_of es)) e.imports) q
  one_side ds es g h d e in_ds in_es same q c =
      let m = from_map (at_path (paths_of ds)) d.imports q c in
      let there = ((g.imports d in_ds).are m.0).0 m.1 in
      let is : there.0 ≡ q = sym (at_some (paths_of ds) m.0 there.0 there.1) ∙ m.2 in
      let leads : Imports edition sources e.path q = subst (Imports edition sources e.path) is (subst (λ p. Imports edition sources p there.0) same there.2) in
      let here : Contains (paths_of es) q = h.closed e.path q (into_map (λ (x : Directory). x.path) es e in_es) leads in
      let n = member_at (paths_of es) q here in
      subst (Contains (map (at_path (paths_of es)) e.imports)) (at_some (paths_of es) n.0 q n.1) (into_map (at_path (paths_of es)) e.imports n.0 (((h.imports e in_es).are n.0).1 (q, n.1, leads)))

  -- of one directory in two lists the imports have the same paths
  pub same_paths : (ds es : List Directory) → IsWhole edition sources ds → IsWhole edition sources es → (d e : Directory) → Contains ds d → Contains es e → d.path ≡ e.path → map (at_path (paths_of ds)) d.imports ≡ map (at_path (paths_of es)) e.imports
  same_paths ds es g h d e in_ds in_es same =
      one_sorted path_cmp path_cmp_total (map (at_path (paths_of ds)) d.imports) (map (at_path (paths_of es)) e.imports)
      (picked_sorted (paths_of ds) g.ascending d.imports (g.imports d in_ds).ascending (inside ds g d in_ds))
      (picked_sorted (paths_of es) h.ascending e.imports (h.imports e in_es).ascending (inside es h e in_es))
      (one_side ds es g h d e in_ds in_es same) (one_side es ds h g e d in_es in_ds (sym same))

-- ---- a part

-- these are the numbers of what the target reaches
pub record IsPart (edition : Edition) (sources : Sources) (paths : List Path) (target : Path) (numbers : List ℕ) : Type 0 where
  pub ascending : IsStrictlyIncreasing numbers
  pub are : (k : ℕ) → (Contains numbers k → (q : Path) × (slice_get paths k ≡ Some q) × ReachesByImports edition sources target q) × ((q : Path) × (slice_get paths k ≡ Some q) × ReachesByImports edition sources target q → Contains numbers k)

-- a part's paths are those of the target's own plan
pub own_paths : (edition : Edition) (sources : Sources) (targets : List Path) (us ds : List Directory) (target : Path) → IsJointPlan edition sources targets us → Contains targets target → IsBuildPlan edition sources target ds → (ns : List ℕ) → IsPart edition sources (paths_of us) target ns → map (at_path (paths_of us)) ns ≡ paths_of ds
own_paths edition sources targets us ds target joint among plan ns part =
    one_sorted path_cmp path_cmp_total (map (at_path (paths_of us)) ns) (paths_of ds)
    (picked_sorted (paths_of us) joint.ascending ns part.ascending (λ k c. let there = (part.are k).0 c in slice_get_within (paths_of us) k there.0 there.1)) plan.ascending
    (λ q c. (
    let m = from_map (at_path (paths_of us)) ns q c in
    let there = (part.are m.0).0 m.1 in
    let is : there.0 ≡ q = sym (at_some (paths_of us) m.0 there.0 there.1) ∙ m.2 in
    (plan.reached q).1 (subst (ReachesByImports edition sources target) is there.2)))
    (λ q c. (
    let way = (plan.reached q).0 c in
    let n = member_at (paths_of us) q ((joint.reached q).1 (target, among, way)) in
    subst (Contains (map (at_path (paths_of us)) ns)) (at_some (paths_of us) n.0 q n.1) (into_map (at_path (paths_of us)) ns n.0 ((part.are n.0).1 (q, n.1, way)))))
