-- What was first taken at each replica, batch by batch, and which of it another took by its counts.
use Rattle.std.specs.Prelude.{◌≡◌, ◌≤◌, ℕ, List, [], take, length, slice_index_or}
use Rattle.std.specs.List.{Contains}
use Rattle.ws_version_vector.specs.Counts.{count_at, counts_at}
use Rattle.ws_version_vector.specs.declared.vector.News.{News}
use Rattle.ws_version_vector.specs.declared.vector.News.TheVariants.{Nothing, Everything, Something}

-- it is in one of the first batches of some replica, of as many as the counts say
abbrev pub IsCounted : {A : Type 0} → (ℕ → List (List A)) → List ℕ → A → Type 0
IsCounted {A} lists counts a = (j : ℕ) × (batch : List A) × Contains (take (count_at j counts) (lists j)) batch × Contains batch a

-- A replica took just what its counts tell, none of them is beyond its list, and it took all of its own.
pub record VectorInvariant {A : Type 0} (lists : ℕ → List (List A)) (k : ℕ) (counts : List ℕ) (took : List A) : Type 0 where
  pub told : (a : A) → Contains took a → IsCounted lists counts a
  pub taken : (a : A) → IsCounted lists counts a → Contains took a
  pub within : (j : ℕ) → count_at j counts ≤ length (lists j)
  pub own : count_at k counts ≡ length (lists k)

-- what a replica took; one that isn't there took nothing
abbrev pub replica_took : {A : Type 0} → ℕ → List (List A) → List A
replica_took k sets = slice_index_or sets k []

-- each of some replicas took what its counts tell
abbrev pub VectorsInvariant : {A : Type 0} → (ℕ → List (List A)) → List (List ℕ) → List (List A) → Type 0
VectorsInvariant lists all sets = (k : ℕ) → VectorInvariant lists k (counts_at k all) (replica_took k sets)

-- all of the first is in the second
abbrev pub IsSubset : {A : Type 0} → List A → List A → Type 0
IsSubset {A} V W = (a : A) → Contains V a → Contains W a

-- what one who took the second brings to one who took the first
abbrev pub Brings : {A : Type 0} → News → List A → List A → Type 0
Brings Nothing V W = IsSubset W V
Brings Everything V W = IsSubset V W
Brings Something V W = Unit {0}
