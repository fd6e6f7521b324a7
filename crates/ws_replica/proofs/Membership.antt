-- What a replica stands for is read by membership alone.
use Rattle.std.specs.Prelude.{List, ◌++◌, ℕ, Option, None, Some}
use Rattle.std.specs.FinMap.{FinMap, get}
use Rattle.std.proofs.Common.{inl, inr}
use Rattle.std.proofs.lemmas.List.Elements.{Contains-append_left, Contains-append_right, Contains-append_cases}
use Rattle.ws_map.specs.Kept.{StandsFor, StandsAt, SameMembers}
use Rattle.ws_version.specs.Writes.{Held, Write, path_cmp, held_cmp}
use Rattle.ws_action.specs.Actions.{Action}
use Rattle.ws_cache.specs.Held.{id_cmp, IsHeld, CacheStandsFor}
use Rattle.ws_replica.specs.Holdings.{Replica, ReplicaStandsFor}
use Rattle.ws_version_vector.specs.Taken.{IsSubset}

pub more_known : {A : Type 0} (V W : List A) → IsSubset W V → SameMembers V (V ++ W)
more_known V W within a = (λ c. Contains-append_left V W a c, λ c. elim (Contains-append_cases V W a c) [ inl l ↦ l | inr r ↦ within a r ])

pub all_known : {A : Type 0} (V W : List A) → IsSubset V W → SameMembers W (V ++ W)
all_known V W within a = (λ c. Contains-append_right V W a c, λ c. elim (Contains-append_cases V W a c) [ inl l ↦ within a l | inr r ↦ r ])

same_at : (V W : List Write) (path : List ℕ) (kept : Option Held) → SameMembers V W → StandsAt held_cmp V path kept → StandsAt held_cmp W path kept
same_at V W path None same h = λ y c. h y ((same (path, y)).1 c)
same_at V W path (Some x) same h = record {
  among = (same (path, x)).0 h.among;
  above = λ y c. h.above y ((same (path, y)).1 c);
}

pub same_writes : (m : FinMap path_cmp Held) (V W : List Write) → SameMembers V W → StandsFor held_cmp m V → StandsFor held_cmp m W
unfolding StandsFor
same_writes m V W same h path = same_at V W path (get m path) same (h path)

same_held : (E F : List Action) (id : List ℕ) (held : Option Action) → SameMembers E F → IsHeld E id held → IsHeld F id held
same_held E F id None same h = λ a c. h a ((same a).1 c)
same_held E F id (Some x) same h = record {
  among = (same x).0 h.among;
  known = h.known;
  least = λ b c. h.least b ((same b).1 c);
}

pub same_actions : (m : FinMap id_cmp Action) (E F : List Action) → SameMembers E F → CacheStandsFor m E → CacheStandsFor m F
unfolding CacheStandsFor
same_actions m E F same h id = same_held E F id (get m id) same (h id)

pub same_members : (a : Replica) (V W : List Write) (E F : List Action) → SameMembers V W → SameMembers E F → ReplicaStandsFor a V E → ReplicaStandsFor a W F
same_members a V W E F v e h = record {
  registers = same_writes a.registers V W v h.registers;
  cache = same_actions a.cache E F e h.cache;
}
