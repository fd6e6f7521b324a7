-- What a replica holds, and for which writes and actions it stands.
use Rattle.std.specs.Prelude.{◌≡◌, List, [], ◌∷◌, ◌++◌, refl}
use Rattle.std.specs.List.{flat_map}
use Rattle.std.specs.Coded.{Coded, code_by, coded×, coded_ℕ, coded_list}
use Rattle.std.specs.FinMap.{FinMap, code}
use Rattle.ws_version.specs.Writes.{Write, held_code, held_cmp, greater_held}
use Rattle.ws_version.proofs.Writes.{path_cmp_total, path_cmp-IsAntisymmetric, held-semilattice}
use Rattle.ws_map.specs.Kept.{StandsFor, joined}
use Rattle.ws_map.proofs.Kept.{joined-commutative, joined-associative, joined-idempotent}
use Rattle.ws_register.specs.Edits.{Contents}
use Rattle.ws_action.specs.Actions.{Action, action_code}
use Rattle.ws_cache.specs.Held.{id_cmp, CacheStandsFor}
use Rattle.ws_cache.specs.Joined.{lesser}
use Rattle.ws_cache.specs.Laws.{id_cmp_total, id_cmp-IsAntisymmetric, lesser-semilattice}
use Rattle.ws_version_vector.specs.Taken.{Brings}
use Rattle.ws_version_vector.specs.declared.vector.News.{News}

-- what is held at each path, and what is compiled
pub record Replica : Type 0 where
  pub registers : Contents
  pub cache : FinMap id_cmp Action

abbrev pub replica_code : Coded Replica
replica_code = code_by (Contents × FinMap id_cmp Action) (coded× (code (coded_list coded_ℕ) held_code) (code (coded_list coded_ℕ) action_code)) (λ r. (r.registers, r.cache)) (λ p. record { registers = p.0; cache = p.1 }) (λ _. refl)

-- the replica took these writes, and the entries of these actions
pub record ReplicaStandsFor (replica : Replica) (writes : List Write) (actions : List Action) : Type 0 where
  pub registers : StandsFor held_cmp replica.registers writes
  pub cache : CacheStandsFor replica.cache actions

-- what a replica took
pub record Took : Type 0 where
  pub writes : List Write
  pub actions : List Action

-- each replica took its own
abbrev pub AllStandFor : List Replica → List Took → Type 0
AllStandFor [] [] = Unit {0}
AllStandFor [] (took ∷ others) = ⊥
AllStandFor (replica ∷ rest) [] = ⊥
AllStandFor (replica ∷ rest) (took ∷ others) = ReplicaStandsFor replica took.writes took.actions × AllStandFor rest others

-- registers that hold what two do, where this is news of the second's
abbrev pub HoldBoth : News → Contents → Contents → Contents → Type 0
HoldBoth news mine theirs both =
    (V W : List Write) → Brings news V W → StandsFor held_cmp mine V → StandsFor held_cmp theirs W → StandsFor held_cmp both (V ++ W)

-- a cache that holds what two do
abbrev pub CacheHoldsBoth : News → FinMap id_cmp Action → FinMap id_cmp Action → FinMap id_cmp Action → Type 0
CacheHoldsBoth news mine theirs both =
    (E F : List Action) → Brings news E F → CacheStandsFor mine E → CacheStandsFor theirs F → CacheStandsFor both (E ++ F)

-- all that any of them took
abbrev pub all_taken : List Took → Took
all_taken took = record { writes = flat_map (λ t. t.writes) took; actions = flat_map (λ t. t.actions) took }

-- what two hold together: part by part
abbrev pub replica_join : Replica → Replica → Replica
replica_join a b = record { registers = joined greater_held a.registers b.registers; cache = joined lesser a.cache b.cache }

pub both-commutative : (a b : Replica) → replica_join a b ≡ replica_join b a
both-commutative a b =
    let registers = joined-commutative path_cmp_total path_cmp-IsAntisymmetric held-semilattice a.registers b.registers in
    let caches = joined-commutative id_cmp_total id_cmp-IsAntisymmetric lesser-semilattice a.cache b.cache in
    λ i. record { registers = registers i; cache = caches i }

pub both-associative : (a b c : Replica) → replica_join (replica_join a b) c ≡ replica_join a (replica_join b c)
both-associative a b c =
    let registers = joined-associative path_cmp_total path_cmp-IsAntisymmetric held-semilattice a.registers b.registers c.registers in
    let caches = joined-associative id_cmp_total id_cmp-IsAntisymmetric lesser-semilattice a.cache b.cache c.cache in
    λ i. record { registers = registers i; cache = caches i }

pub both-idempotent : (a : Replica) → replica_join a a ≡ a
both-idempotent a =
    let registers = joined-idempotent path_cmp_total path_cmp-IsAntisymmetric held-semilattice a.registers in
    let caches = joined-idempotent id_cmp_total id_cmp-IsAntisymmetric lesser-semilattice a.cache in
    λ i. record { registers = registers i; cache = caches i }
