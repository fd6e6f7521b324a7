-- What replicas that settle stand for.
use Rattle.std.specs.Prelude.{◌≡◌, List, [], ◌∷◌, ◌++◌, map, Result, Ok, Err, OnOk}
use Rattle.std.proofs.Common.{refl, sym, subst, append-nil, append_assoc}
use Rattle.ws_version.specs.Writes.{Write}
use Rattle.ws_version.specs.Laws.{held_cmp_total}
use Rattle.ws_version.proofs.Writes.{path_cmp_total}
use Rattle.ws_map.proofs.Kept.{stands_for-joined}
use Rattle.ws_action.specs.Actions.{Action}
use Rattle.ws_cache.specs.Joined.{lesser}
use Rattle.ws_cache.proofs.Joined.{joined_stands}
use Rattle.ws_map.specs.Kept.{joined}
use Rattle.ws_replica.specs.Holdings.{Replica, ReplicaStandsFor, Took, AllStandFor, all_taken, replica_join}
use Rattle.ws_replica.specs.Joins.{joined_from, all_joined}

-- two together stand for what either took
pub both-stands : (a b : Replica) (V W : List Write) (E F : List Action) → ReplicaStandsFor a V E → ReplicaStandsFor b W F → ReplicaStandsFor (replica_join a b) (V ++ W) (E ++ F)
both-stands a b V W E F g h = record {
  registers = stands_for-joined held_cmp_total path_cmp_total a.registers b.registers V W g.registers h.registers;
  cache = joined_stands a.cache b.cache (joined lesser a.cache b.cache) E F refl g.cache h.cache;
}

same_taken : (a : Replica) (V W : List Write) (E F : List Action) → V ≡ W → E ≡ F → ReplicaStandsFor a V E → ReplicaStandsFor a W F
same_taken a V W E F writes actions stands = subst (ReplicaStandsFor a W) actions (subst (λ (U : List Write). ReplicaStandsFor a U E) writes stands)

-- a replica, and others that it is joined with
joined_from-stands : (first : Replica) (V : List Write) (E : List Action) (rest : List Replica) (took : List Took) → ReplicaStandsFor first V E → AllStandFor rest took → ReplicaStandsFor (joined_from replica_join first rest) (V ++ (all_taken took).writes) (E ++ (all_taken took).actions)
joined_from-stands first V E [] [] stands all = same_taken first V (V ++ []) E (E ++ []) (sym (append-nil V)) (sym (append-nil E)) stands
joined_from-stands first V E [] (t ∷ took) stands all = absurd all
joined_from-stands first V E (next ∷ rest) [] stands all = absurd all
joined_from-stands first V E (next ∷ rest) (t ∷ took) stands all =
    let more = joined_from-stands (replica_join first next) (V ++ t.writes) (E ++ t.actions) rest took (both-stands first next V t.writes E t.actions stands all.0) all.1 in
    let others = all_taken took in
    same_taken (joined_from replica_join (replica_join first next) rest) ((V ++ t.writes) ++ others.writes) (V ++ (t.writes ++ others.writes)) ((E ++ t.actions) ++ others.actions) (E ++ (t.actions ++ others.actions)) (append_assoc V t.writes others.writes) (append_assoc E t.actions others.actions) more

-- one that stands for all, in each one's stead
each_stands : (all : Replica) (whole : Took) → ReplicaStandsFor all whole.writes whole.actions → (replicas : List Replica) (took : List Took) → AllStandFor replicas took → AllStandFor (map (λ _. all) replicas) (map (λ _. whole) took)
each_stands all whole stands [] [] each = tt
each_stands all whole stands [] (t ∷ took) each = absurd each
each_stands all whole stands (replica ∷ rest) [] each = absurd each
each_stands all whole stands (replica ∷ rest) (t ∷ took) each = (stands, each_stands all whole stands rest took each.1)

settled_stand : (replicas : List Replica) (took : List Took) → AllStandFor replicas took → AllStandFor (all_joined replica_join replicas) (map (λ _. all_taken took) took)
settled_stand [] [] each = tt
settled_stand [] (t ∷ took) each = absurd each
settled_stand (first ∷ rest) [] each = absurd each
settled_stand (first ∷ rest) (t ∷ took) each =
    each_stands (joined_from replica_join first rest) (all_taken (t ∷ took)) (joined_from-stands first t.writes t.actions rest took each.0 each.1) (first ∷ rest) (t ∷ took) each

-- replicas that settle stand for what any of them took
pub settled_ok : {E : Type 0} (result : Result (Unit {0}) E) (old new : List Replica) → OnOk result (new ≡ all_joined replica_join old) → OnOk result ((took : List Took) → AllStandFor old took → AllStandFor new (map (λ _. all_taken took) took))
settled_ok (Ok done) old new e = λ took each. subst (λ (replicas : List Replica). AllStandFor replicas (map (λ _. all_taken took) took)) (sym e) (settled_stand old took each)
settled_ok (Err error) old new e = tt
