-- The keys of what was last taken at each replica, and what they tell of its batches.
use Rattle.std.specs.Prelude.{◌≡◌, ◌≢◌, ◌<◌, ◌≤◌, ◌+◌, ◌-◌, ◌⊎◌, ℕ, List, [], ◌∷◌, ◌++◌, length, slice_index_or}
use Rattle.std.specs.List.{Contains}
use Rattle.ws_version_vector.specs.Counts.{count_at}

-- how many batches came before, and the keys of those behind them
abbrev pub Log : Type 0
Log = ℕ × List (List ℕ)

-- the log of a replica; one without a log took nothing
abbrev pub log_at : ℕ → List Log → Log
log_at j logs = slice_index_or logs j (0, [])

-- the key of the batch of that number
abbrev pub IsKeyOf : Log → ℕ → List ℕ → Type 0
IsKeyOf log number key = (log.0 ≤ number) × (number - log.0 < length log.1) × (slice_index_or log.1 (number - log.0) [] ≡ key)

-- the keys of the batches from one number up to another are among these
abbrev pub HasKeys : Log → ℕ → ℕ → List (List ℕ) → Type 0
HasKeys log from to keys = (number : ℕ) → from ≤ number → number < to → (key : List ℕ) × IsKeyOf log number key × Contains keys key

-- so are the keys of all that those with the second counts have and those with the first lack
abbrev pub AreKeysBetween : List Log → List ℕ → List ℕ → List (List ℕ) → Type 0
AreKeysBetween logs mine theirs keys = (j : ℕ) → HasKeys (log_at j logs) (count_at j mine) (count_at j theirs) keys

-- one more key, behind the others or, behind so many batches, alone
abbrev pub IsLonger : ℕ → List ℕ → Log → Log → Type 0
IsLonger count key old new = (new ≡ (old.0, old.1 ++ key ∷ [])) ⊎ (new ≡ (count, key ∷ []))

-- the log of one replica alone got a key
pub record IsPushed (k count : ℕ) (key : List ℕ) (old new : List Log) : Type 0 where
  pub pushed : IsLonger count key (log_at k old) (log_at k new)
  pub others : (j : ℕ) → j ≢ k → log_at j new ≡ log_at j old

-- a log has the key of each of the last batches, of as many as it has keys
pub record IsLogged {A : Type 0} (key_of : A → List ℕ) (batches : List (List A)) (log : Log) : Type 0 where
  pub long : log.0 + length log.1 ≡ length batches
  pub keyed : (i : ℕ) (a : A) → i < length log.1 → Contains (slice_index_or batches (log.0 + i) []) a → slice_index_or log.1 i [] ≡ key_of a

-- of all replicas
abbrev pub AreLogged : {A : Type 0} → (A → List ℕ) → (ℕ → List (List A)) → List Log → Type 0
AreLogged {A} key_of lists logs = (j : ℕ) → IsLogged key_of (lists j) (log_at j logs)

-- what the second set has and the first lacks has one of these keys
abbrev pub HasNewsAtKeys : {A : Type 0} → (A → List ℕ) → List (List ℕ) → List A → List A → Type 0
HasNewsAtKeys {A} key_of keys V W = (a : A) → Contains W a → Contains V a ⊎ Contains keys (key_of a)
