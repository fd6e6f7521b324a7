-- How much of what was first taken at each replica another took.
use Rattle.std.specs.Prelude.{◌≡◌, ◌≢◌, ◌<◌, ◌≤◌, ◌+◌, ◌==◌, ◌||◌, ℕ, Bool, true, false, max, List, [], ◌∷◌, slice_index_or}
use Rattle.std.specs.List.{Contains}
use Rattle.ws_version_vector.specs.declared.vector.News.{News}
use Rattle.ws_version_vector.specs.declared.vector.News.TheVariants.{Nothing, Everything, Something}

-- how much of what was first taken at a replica; a count that is missing is 0
abbrev pub count_at : ℕ → List ℕ → ℕ
count_at j counts = slice_index_or counts j 0

-- the counts of a replica; one without counts took nothing
abbrev pub counts_at : ℕ → List (List ℕ) → List ℕ
counts_at k all = slice_index_or all k []

-- no count is above the other's
abbrev pub IsBelow : List ℕ → List ℕ → Type 0
IsBelow mine theirs = (j : ℕ) → count_at j mine ≤ count_at j theirs

-- each count is the greater of the two
abbrev pub IsMost : List ℕ → List ℕ → List ℕ → Type 0
IsMost mine theirs both = (j : ℕ) → count_at j both ≡ max (count_at j mine) (count_at j theirs)

-- the counts of one replica alone changed
pub record ChangedAt (k : ℕ) (old new : List (List ℕ)) (counts : List ℕ) : Type 0 where
  pub changed : counts_at k new ≡ counts
  pub others : (j : ℕ) → j ≢ k → counts_at j new ≡ counts_at j old

-- a replica took one more of its own
pub record IsRaised (k : ℕ) (old new : List ℕ) : Type 0 where
  pub raised : count_at k new ≡ count_at k old + 1
  pub others : (j : ℕ) → j ≢ k → count_at j new ≡ count_at j old

-- the number is among the others
abbrev pub is_among : ℕ → List ℕ → Bool
is_among k [] = false
is_among k (x ∷ xs) = (x == k) || is_among k xs

-- the greatest count that any of some replicas has
abbrev pub greatest_count : List (List ℕ) → List ℕ → ℕ → ℕ
greatest_count all [] j = 0
greatest_count all (k ∷ ks) j = max (count_at j (counts_at k all)) (greatest_count all ks j)

-- some replicas have the greatest counts of them all, and no other changed
pub record AreShared (ks : List ℕ) (old new : List (List ℕ)) : Type 0 where
  pub counts : List ℕ
  pub greatest : (j : ℕ) → count_at j counts ≡ greatest_count old ks j
  pub shared : (k : ℕ) → is_among k ks ≡ true → counts_at k new ≡ counts
  pub others : (k : ℕ) → is_among k ks ≡ false → counts_at k new ≡ counts_at k old

-- the first of some took one more, and then all have the greatest counts of them
abbrev pub AreRaisedAndShared : List ℕ → List (List ℕ) → List (List ℕ) → Type 0
AreRaisedAndShared [] old new = AreShared [] old new
AreRaisedAndShared (k ∷ ks) old new =
    (middle : List (List ℕ)) × (counts : List ℕ) × IsRaised k (counts_at k old) counts × ChangedAt k old middle counts × AreShared (k ∷ ks) middle new

-- the numbers below one
abbrev pub AreFirstNumbers : ℕ → List ℕ → Type 0
AreFirstNumbers n ks = (k : ℕ) → (k < n → is_among k ks ≡ true) × (is_among k ks ≡ true → k < n)

-- what one replica has that another lacks
abbrev pub IsNews : List ℕ → List ℕ → News → Type 0
IsNews mine theirs Nothing = IsBelow theirs mine
IsNews mine theirs Everything = IsBelow mine theirs
IsNews mine theirs Something = Unit {0}

-- what each of some replicas has one of the others has
abbrev pub AreBelow : List (List ℕ) → List ℕ → List ℕ → Type 0
AreBelow all ks tops = (k : ℕ) → Contains ks k → (t : ℕ) × Contains tops t × IsBelow (counts_at k all) (counts_at t all)

-- some of the first replicas have all that any of the first has
abbrev pub AreMaximal : List (List ℕ) → ℕ → List ℕ → Type 0
AreMaximal all n tops = (k : ℕ) → k < n → (t : ℕ) × Contains tops t × IsBelow (counts_at k all) (counts_at t all)
