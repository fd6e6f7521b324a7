-- What a merge makes of the replicas of a session, and what of those of the world.
use Rattle.std.proofs.Common.{◌≡◌, ℕ, List, ◌++◌, Option, None, Some, true, refl, sym, ap, ◌∙◌, subst, inl, inr}
use Rattle.std.specs.Prelude.{◌&&◌, Vec}
use Rattle.std.specs.Global.{Global}
use Rattle.std.proofs.Math.ListN.{set}
use Rattle.std.proofs.lemmas.List.Elements.{Contains-append_left, Contains-append_cases}
use Rattle.ws_map.specs.Kept.{SameMembers}
use Rattle.ws_action.specs.Clash.{AllSized}
use Rattle.ws_version_vector.specs.declared.vector.News.{News}
use Rattle.ws_version_vector.specs.Taken.{replica_took, Brings}
use Rattle.ws_replica.specs.Holdings.{ReplicaStandsFor}
use Rattle.ws_replica.proofs.Membership.{same_members}
use Rattle.ws_command.specs.Commands.{Merge}
use Rattle.ws_session.specs.declared.replicas.SessionReplica.{SessionReplica}
use Rattle.ws_session.specs.World.{World, or_new, knows, writes_of, actions_held, taking, grown_by, with_replicas}
use Rattle.ws_session.specs.Representation.{replica_index, RepresentsReplica, AllRepresent, Settles, ChangedAt, IsBrought, MergedFrom, writes_in, replica_actions}
use Rattle.ws_session.proofs.Standings.{found, set_same}
use Rattle.ws_session.proofs.Settling.{knows_some, sized_both, merge_row}
use Rattle.ws_session.proofs.Building.{same_read}
use Rattle.ws_session.proofs.Taken.{took_writes, took_actions}

twice : {A : Type 0} (V : List A) → SameMembers V (V ++ V)
twice V a = (λ c. Contains-append_left V V a c, λ c. elim (Contains-append_cases V V a c) [ inl l ↦ l | inr r ↦ r ])

module _ (name : List ℕ) (world : World) (ns : List SessionReplica) (h : AllRepresent ns world.replicas) (k : ℕ) (e : replica_index name ns ≡ Some k) where
  pub found_writes : replica_took k (writes_in world.replicas) ≡ (found name k ns world.replicas h e).replica.writes
  found_writes = took_writes world.replicas k ∙ ap (λ o. (or_new o).writes) (same_read name k ns world.replicas h e ∙ (found name k ns world.replicas h e).at)

  pub found_actions : replica_took k (replica_actions world.replicas) ≡ (found name k ns world.replicas h e).replica.actions
  found_actions = took_actions world.replicas k ∙ ap (λ o. (or_new o).actions) (same_read name k ns world.replicas h e ∙ (found name k ns world.replicas h e).at)

module _ (name other : List ℕ) (text : Option (List ℕ)) (world : World) (ns : List SessionReplica) (h : AllRepresent ns world.replicas) (k j : ℕ) (e : replica_index name ns ≡ Some k) (d : replica_index other ns ≡ Some j) where
  -- the replica of the name took what is of the other's
  took_other : (n : SessionReplica) (ms : List SessionReplica) → ms ≡ set ns k n → n.name.items ≡ (found name k ns world.replicas h e).replica.name → n.number ≡ (found name k ns world.replicas h e).replica.number
      → ReplicaStandsFor n.replica ((found name k ns world.replicas h e).replica.writes ++ (found other j ns world.replicas h d).replica.writes) ((found name k ns world.replicas h e).replica.actions ++ (found other j ns world.replicas h d).replica.actions)
      → Settles (Merge name other) text world None ms
  took_other n ms is same_name same_number holds =
      let f = found name k ns world.replicas h e in
      let g = found other j ns world.replicas h d in
      let r = f.replica in
      let s = f.stands f.one f.is in
      let t = g.stands g.one g.is in
      let writes : g.replica.writes ≡ writes_of other world = sym (ap (λ o. (or_new o).writes) g.at) in
      let actions : g.replica.actions ≡ actions_held other world = sym (ap (λ o. (or_new o).actions) g.at) in
      let stand : RepresentsReplica n (grown_by r (writes_of other world) (actions_held other world)) = record {
        name = same_name;
        number = same_number;
        holds = subst (λ E. ReplicaStandsFor n.replica (r.writes ++ writes_of other world) (r.actions ++ E)) actions
            (subst (λ W. ReplicaStandsFor n.replica (r.writes ++ W) (r.actions ++ g.replica.actions)) writes holds);
        sized = subst (λ E. AllSized (r.actions ++ E)) actions (sized_both r.actions g.replica.actions s.sized t.sized);
      } in
      record {
        refuses = merge_row _ true (ap (λ z. z && knows other world) (knows_some name k world ns h e) ∙ knows_some other j world ns h d);
        next = with_replicas world (taking name (writes_of other world) (actions_held other world) world.replicas);
        after = refl;
        edition = refl;
        stand = subst (λ z. AllRepresent z (taking name (writes_of other world) (actions_held other world) world.replicas)) (sym is) (f.grows n (writes_of other world) (actions_held other world) stand);
      }

  pub merged : (writes : News) (paths : Option (Vec (List ℕ) Global)) (results : News) (ms : List SessionReplica) → IsBrought writes paths (replica_took k (writes_in world.replicas)) (replica_took j (writes_in world.replicas)) → Brings results (replica_took k (replica_actions world.replicas)) (replica_took j (replica_actions world.replicas))
      → ChangedAt (MergedFrom writes paths results ns j) ns k ms → Settles (Merge name other) text world None ms
  merged writes paths results ms written compiled change =
      let f = found name k ns world.replicas h e in
      let g = found other j ns world.replicas h d in
      let took = change.so f.one f.is in
      let s = f.stands f.one f.is in
      let t = g.stands g.one g.is in
      let brings_writes = subst (λ W. IsBrought writes paths f.replica.writes W) (found_writes other world ns h j d) (subst (λ V. IsBrought writes paths V (replica_took j (writes_in world.replicas))) (found_writes name world ns h k e) written) in
      let brings_results = subst (λ F. Brings results f.replica.actions F) (found_actions other world ns h j d) (subst (λ E. Brings results E (replica_took j (replica_actions world.replicas))) (found_actions name world ns h k e) compiled) in
      took_other change.changed ms change.is (took.name ∙ s.name) (took.number ∙ s.number)
      (took.holds g.one g.is f.replica.writes g.replica.writes f.replica.actions g.replica.actions brings_writes brings_results s.holds t.holds)

  -- one that takes what it holds itself stays
  pub merged_itself : k ≡ j → Settles (Merge name other) text world None ns
  merged_itself same =
      let f = found name k ns world.replicas h e in
      let g = found other j ns world.replicas h d in
      let r = f.replica in
      let s = f.stands f.one f.is in
      let writes : r.writes ≡ g.replica.writes = sym (found_writes name world ns h k e) ∙ ap (λ i. replica_took i (writes_in world.replicas)) same ∙ found_writes other world ns h j d in
      let actions : r.actions ≡ g.replica.actions = sym (found_actions name world ns h k e) ∙ ap (λ i. replica_took i (replica_actions world.replicas)) same ∙ found_actions other world ns h j d in
      let holds : ReplicaStandsFor f.one.replica (r.writes ++ r.writes) (r.actions ++ r.actions) =
      same_members f.one.replica r.writes (r.writes ++ r.writes) r.actions (r.actions ++ r.actions) (twice r.writes) (twice r.actions) s.holds in
      took_other f.one ns (sym (set_same ns k f.one f.is)) s.name s.number
      (subst (λ E. ReplicaStandsFor f.one.replica (r.writes ++ g.replica.writes) (r.actions ++ E)) actions (subst (λ W. ReplicaStandsFor f.one.replica (r.writes ++ W) (r.actions ++ r.actions)) writes holds))
