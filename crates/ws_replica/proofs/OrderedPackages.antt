-- The places of packages in their order, and the numbers of their directories.
use Rattle.std.proofs.Common.{◌≡◌, ℕ, zero, suc, ◌<◌, List, [], ◌∷◌, ◌++◌, Some, refl, sym, ap, subst, ◌∙◌, inl, inr, arith}
use Rattle.std.specs.List.{Contains, slice_get}
use Rattle.std.specs.List.Sorted.{IsStrictlySortedBy}
use Rattle.std.specs.declared.cmp.Ordering.TheVariants.{Less, Equal}
use Rattle.std.proofs.lemmas.Cmp.{tied_itself, nat_list_cmp_total}
use Rattle.std.proofs.lemmas.Bool.{cases_lt}
use Rattle.go_typed.specs.Trees.{Package}
use Rattle.ws_version.specs.Writes.{path_cmp}
use Rattle.ws_action.proofs.Members.{none_in_empty, head_or_later, at_head, later}
use Rattle.ws_replica.specs.Reports.{DirectoryOutcome, Good, outcome_at, ArePackages}
use Rattle.ws_replica.proofs.Numbered.{some_same}
use Rattle.ws_replica.proofs.PlanMakes.{sorted_at}

-- ---- one path has one number

module _ (paths : List (List ℕ)) (ascending : IsStrictlySortedBy path_cmp paths) (p : List ℕ) where
  not_below : (i j : ℕ) → slice_get paths i ≡ Some p → slice_get paths j ≡ Some p → i < j → ⊥
  not_below i j a b lt =
      let no : Equal ≡ Less = sym (tied_itself nat_list_cmp_total p) ∙ sorted_at paths ascending i j p p lt a b in
      cc (no)

  pub one_number : (i j : ℕ) → slice_get paths i ≡ Some p → slice_get paths j ≡ Some p → i ≡ j
  one_number i j a b = elim (cases_lt i j) [
    | inl lt ↦ absurd (not_below i j a b lt)
    | inr ge ↦ elim (cases_lt j i) [
      | inl lt ↦ absurd (not_below j i b a lt)
      | inr le ↦ omega (arith, ge, le)
    ]
  ]

-- ---- what stands before a place of a list

-- the list cut at that place, where this number stands: before it is what stands at lesser places
pub record Cut (ks : List ℕ) (place k : ℕ) : Type 0 where
  pub before : List ℕ
  pub after : List ℕ
  pub whole : ks ≡ before ++ k ∷ after
  pub into : (i j : ℕ) → i < place → slice_get ks i ≡ Some j → Contains before j
  pub from : (j : ℕ) → Contains before j → (i : ℕ) × (i < place) × (slice_get ks i ≡ Some j)

cut_first : (k : ℕ) (ks : List ℕ) (n : ℕ) → k ≡ n → Cut (k ∷ ks) 0 n
cut_first k ks n same = record {
  before = [];
  after = ks;
  whole = ap (λ j. j ∷ ks) same;
  into = λ i j lt at. absurd (omega (arith, lt));
  from = λ j c. absurd (none_in_empty j c);
}

cut_later : (k : ℕ) (ks : List ℕ) (place n : ℕ) → Cut ks place n → Cut (k ∷ ks) (suc place) n
cut_later k ks place n rest = record { before = k ∷ rest.before; after = rest.after; whole = ap (λ js. k ∷ js) rest.whole; into = into; from = from }
  where
    into : (i j : ℕ) → i < suc place → slice_get (k ∷ ks) i ≡ Some j → Contains (k ∷ rest.before) j
    into zero j lt at = at_head rest.before k j (some_same k j at)
    into (suc i) j lt at = later k rest.before j (rest.into i j (omega (arith, lt)) at)

    from : (j : ℕ) → Contains (k ∷ rest.before) j → (i : ℕ) × (i < suc place) × (slice_get (k ∷ ks) i ≡ Some j)
    from j c = elim (head_or_later k rest.before j c) [
      | inl same ↦ (0, omega arith, ap Some same)
      | inr l ↦ (let r = rest.from j l in (suc r.0, (let lt = r.1 in omega (arith, lt)), r.2))
    ]

pub cut_at : (ks : List ℕ) (place k : ℕ) → slice_get ks place ≡ Some k → Cut ks place k
cut_at [] place k at = cc (at)
cut_at (j ∷ ks) zero k at = cut_first j ks k (some_same j k at)
cut_at (j ∷ ks) (suc place) k at = cut_later j ks place k (cut_at ks place k at)

-- ---- the packages of numbers

-- the number whose package stands at a place
pub number_of : (fates : List DirectoryOutcome) (ks : List ℕ) (ps : List Package) → ArePackages fates ks ps → (place : ℕ) (p : Package) → slice_get ps place ≡ Some p → (k : ℕ) × (slice_get ks place ≡ Some k) × (outcome_at fates k ≡ Good p)
number_of fates [] [] h place p at = cc (at)
number_of fates [] (q ∷ ps) h place p at = absurd h
number_of fates (k ∷ ks) [] h place p at = absurd h
number_of fates (k ∷ ks) (q ∷ ps) h zero p at = (k, refl, subst (λ (x : Package). outcome_at fates k ≡ Good x) (some_same q p at) h.0)
number_of fates (k ∷ ks) (q ∷ ps) h (suc place) p at = number_of fates ks ps h.1 place p at

-- the package of the number at a place
pub package_of : (fates : List DirectoryOutcome) (ks : List ℕ) (ps : List Package) → ArePackages fates ks ps → (place k : ℕ) → slice_get ks place ≡ Some k → (p : Package) × (slice_get ps place ≡ Some p) × (outcome_at fates k ≡ Good p)
package_of fates [] ps h place k at = cc (at)
package_of fates (j ∷ ks) [] h place k at = absurd h
package_of fates (j ∷ ks) (p ∷ ps) h zero k at = (p, refl, subst (λ n. outcome_at fates n ≡ Good p) (some_same j k at) h.0)
package_of fates (j ∷ ks) (p ∷ ps) h (suc place) k at = package_of fates ks ps h.1 place k at

-- one fate has one package
pub one_good : (fates : List DirectoryOutcome) (k : ℕ) (p q : Package) → outcome_at fates k ≡ Good p → outcome_at fates k ≡ Good q → p ≡ q
one_good fates k p q h i =
    let same : Good p ≡ Good q = sym h ∙ i in
    cc (same)
