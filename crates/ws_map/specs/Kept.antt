-- Maps that keep the greatest value for each key: what they stand for, the union of two, and values taken one at a time.
use Rattle.std.specs.Prelude.{◌≡◌, Bool, true, false, List, [], ◌∷◌, ◌++◌, MatchOption, Option, Some, None}
use Rattle.std.specs.List.{Contains}
use Rattle.std.specs.declared.cmp.Ordering.{Ordering}
use Rattle.std.specs.Ordering.{is_lt, is_gt}
use Rattle.std.specs.FinMap.{FinMap, get, keys, insert, empty, from_entries}
use Rattle.ws_map.specs.Greater.{joined_option}

-- x is the greatest, in the order R, of what the set W has at the key q. W is read by membership alone
pub record IsGreatest {K X : Type 0} (R : X → X → Ordering) (W : List (K × X)) (q : K) (x : X) : Type 0 where
  pub among : Contains W (q, x)
  pub above : (y : X) → Contains W (q, y) → is_gt (R y x) ≡ false

-- what is kept at q is the greatest of what W has there, and nothing if W has nothing there
abbrev pub StandsAt : {K X : Type 0} → (X → X → Ordering) → List (K × X) → K → Option X → Type 0
StandsAt {K} {X} R W q kept = MatchOption kept ((y : X) → ¬ (Contains W (q, y))) (IsGreatest R W q)

-- of all the keys
unfoldable pub StandsFor : {K X : Type 0} {C : K → K → Ordering} → (X → X → Ordering) → FinMap C X → List (K × X) → Type 0
StandsFor {K} R m W = (q : K) → StandsAt R W q (get m q)

-- two sets with the same members
abbrev pub SameMembers : {A : Type 0} → List A → List A → Type 0
SameMembers {A} V W = (a : A) → (Contains V a → Contains W a) × (Contains W a → Contains V a)

abbrev pub entry_of : {K X : Type 0} → K → Option X → List (K × X)
entry_of k None = []
entry_of k (Some x) = (k, x) ∷ []

-- the entries that a function from keys gives at a list of keys
abbrev pub entries_at : {K X : Type 0} → (K → Option X) → List K → List (K × X)
entries_at at [] = []
entries_at at (k ∷ ks) = entry_of k (at k) ++ entries_at at ks

module _ {K X : Type 0} {C : K → K → Ordering} where
  -- what the two have at each key, joined by f
  unfoldable pub joined : (X → X → X) → FinMap C X → FinMap C X → FinMap C X
  joined f m n = from_entries (entries_at (λ q. joined_option f (get m q) (get n q)) (keys m ++ keys n))

  -- one more value x at the key k: what it alone would be is joined
  abbrev pub taken : (X → X → X) → FinMap C X → K → X → FinMap C X
  taken f m k x = joined f m (insert empty k x)

-- is x above what there was
abbrev pub is_news : {X : Type 0} → (X → X → Ordering) → Option X → X → Bool
is_news R None x = true
is_news R (Some old) x = is_lt (R old x)

-- the entries of a list, taken in turn
abbrev pub gathered : {K X : Type 0} {C : K → K → Ordering} → (X → X → X) → FinMap C X → List (K × X) → FinMap C X
gathered f m [] = m
gathered f m (e ∷ es) = gathered f (taken f m e.0 e.1) es
