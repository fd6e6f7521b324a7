-- A replica that takes what some others wrote, by the paths that are logged.
use Rattle.std.proofs.Common.{◌≡◌, ◌<◌, ◌≤◌, ◌+◌, ℕ, List, [], ◌∷◌, ◌++◌, take, length, get_or, Some, sym, ap, ◌∙◌, subst, inl, inr, arith, append-nil, append_assoc, Vec, Global}
use Rattle.std.specs.List.{Contains, flat_map, slice_get}
use Rattle.std.proofs.lemmas.Grind.{flat_map-append}
use Rattle.std.proofs.lemmas.List.{take_all, take_more}
use Rattle.std.proofs.lemmas.List.Elements.{Contains-get_or, Contains-append_left, Contains-append_right, Contains-append_cases}
use Rattle.ws_action.proofs.Members.{at_head}
use Rattle.ws_map.specs.Kept.{SameMembers}
use Rattle.ws_version.specs.Writes.{Write as AWrite}
use Rattle.ws_register.specs.News.{HasNewsAt}
use Rattle.ws_action.specs.Actions.{Action}
use Rattle.ws_version_vector.specs.Counts.{count_at, counts_at, IsMost, AreMaximal}
use Rattle.ws_version_vector.specs.Keyed.{AreKeysBetween}
use Rattle.ws_version_vector.specs.Taken.{VectorInvariant, replica_took, IsSubset}
use Rattle.ws_version_vector.proofs.Told.{told_below}
use Rattle.ws_version_vector.proofs.Kept.{kept_merged}
use Rattle.ws_version_vector.proofs.Logged.{news_between}
use Rattle.ws_replica.specs.Builds as numbered
use Rattle.ws_replica.specs.Holdings as holdings
use Rattle.ws_replica.specs.Holdings.{ReplicaStandsFor, Took, all_taken}
use Rattle.ws_replica.proofs.Membership.{same_members}
use Rattle.ws_replica.proofs.Numbered.{some_same}
use Rattle.ws_session.specs.declared.replicas.SessionReplica.{SessionReplica}
use Rattle.ws_session.specs.declared.clock.WriteClock.{WriteClock}
use Rattle.ws_session.specs.World.{World, ReplicaModel}
use Rattle.ws_session.specs.Representation.{AllRepresent, AreWritten, AreCounted, HoldsAllOf, HoldsWritesOf, writes_in, replica_actions}
use Rattle.ws_session.proofs.Building.{took_read}
use Rattle.ws_session.proofs.Joining.{written_by, compiled_by, into_flat, written_are, compiled_are, written_all, compiled_all, all_written, all_compiled, all_both, stands_at}
use Rattle.ws_session.proofs.Settled.{took_of, all_stand_for, all_writes, all_actions}
use Rattle.ws_session.proofs.Standings.{same_length}
use Rattle.ws_session.proofs.Taken.{took_writes, took_actions}

-- what some replicas wrote
abbrev pub writes_by : List ReplicaModel → List ℕ → List AWrite
writes_by rs ks = flat_map (λ k. replica_took k (writes_in rs)) ks

abbrev pub actions_by : List ReplicaModel → List ℕ → List Action
actions_by rs ks = flat_map (λ k. replica_took k (replica_actions rs)) ks

-- The same of the first writers, and these counts tell a part of what is held.
pub record HoldFirst (rs : List ReplicaModel) (lists : ℕ → List (List AWrite)) (first : ℕ) (done : List ℕ) (V : List AWrite) (E : List Action) (joined : holdings.Replica) (counts : List ℕ) : Type 0 where
  pub stands : ReplicaStandsFor joined (V ++ writes_by rs done) E
  pub some : List AWrite
  pub kept : VectorInvariant lists first counts some
  pub within : IsSubset some (V ++ writes_by rs done)

abbrev pub HoldsFirst : Vec SessionReplica Global → WriteClock → holdings.Replica → ℕ → List ℕ → ℕ → holdings.Replica → List ℕ → Type 0
HoldsFirst named wrote results first writers i joined counts =
    (world : World) (V : List AWrite) (E : List Action) → AllRepresent named.items world.replicas → (written : AreWritten wrote world.replicas)
    → IsSubset (replica_took first (writes_in world.replicas)) V → IsSubset (actions_by world.replicas writers) E
    → ReplicaStandsFor results V E → HoldFirst world.replicas written.0 first (take i writers) V E joined counts

-- counts that are the same tell the same
kept_alike : {A : Type 0} (lists : ℕ → List (List A)) (k : ℕ) (c d : List ℕ) (V : List A) → ((j : ℕ) → count_at j d ≡ count_at j c) → VectorInvariant lists k c V → VectorInvariant lists k d V
kept_alike lists k c d V same h = record {
  told = λ a v. told_below lists c d a (λ j. let e = same j in omega (arith, e)) (h.told a v);
  taken = λ a t. h.taken a (told_below lists d c a (λ j. let e = same j in omega (arith, e)) t);
  within = λ j. let e = same j in let w = h.within j in omega (arith, e, w);
  own = same k ∙ h.own;
}

pub begun : (named : Vec SessionReplica Global) (wrote : WriteClock) (results : holdings.Replica) (first : ℕ) (writers : List ℕ) (joined : holdings.Replica) (counts : List ℕ) → joined ≡ results → IsMost [] (counts_at first wrote.counts) counts
    → HoldsFirst named wrote results first writers 0 joined counts
begun named wrote results first writers joined counts same most world V E h written some others holds =
    let own : List AWrite = replica_took first (writes_in world.replicas) in
    record {
      stands = subst (λ W. ReplicaStandsFor joined W E) (sym (append-nil V)) (subst (λ (r : holdings.Replica). ReplicaStandsFor r V E) (sym same) holds);
      some = own;
      kept = kept_alike written.0 first (counts_at first wrote.counts) counts own (λ j. let m = most j in omega (arith, m)) (written.1 first);
      within = λ a c. Contains-append_left V [] a (some a c);
    }

-- what one more writer holds
module _ (world : World) (named : Vec SessionReplica Global) (h : AllRepresent named.items world.replicas) (t : ℕ) (other : SessionReplica) (lt : t < length named.items) (is : other ≡ get_or named.items t other) where
  pub other_stands : ReplicaStandsFor other.replica (replica_took t (writes_in world.replicas)) (replica_took t (replica_actions world.replicas))
  other_stands =
      let rs = world.replicas in
      let its = stands_at named.items (took_of rs) t other (all_stand_for named.items rs h) lt is in
      subst (λ W. ReplicaStandsFor other.replica W (replica_took t (replica_actions rs))) (ap (λ (k : Took). k.writes) (took_read rs t) ∙ sym (took_writes rs t))
      (subst (λ F. ReplicaStandsFor other.replica (numbered.took_at (took_of rs) t).writes F) (ap (λ (k : Took). k.actions) (took_read rs t) ∙ sym (took_actions rs t)) its)

-- the writes of one more writer
writes_more : (rs : List ReplicaModel) (writers : List ℕ) (i : ℕ) (V : List AWrite) → i < length writers → V ++ writes_by rs (take (i + 1) writers) ≡ (V ++ writes_by rs (take i writers)) ++ replica_took (get_or writers i 0) (writes_in rs)
writes_more rs writers i V lt =
    let one : List AWrite = replica_took (get_or writers i 0) (writes_in rs) in
    ap (λ ks. V ++ writes_by rs ks) (take_more writers i 0 lt)
    ∙ ap (λ W. V ++ W) (flat_map-append (λ k. replica_took k (writes_in rs)) (take i writers) (get_or writers i 0 ∷ []) ∙ ap (λ W. writes_by rs (take i writers) ++ W) (append-nil one))
    ∙ sym (append_assoc V (writes_by rs (take i writers)) one)

pub more : (named : Vec SessionReplica Global) (wrote : WriteClock) (results : holdings.Replica) (first : ℕ) (writers : List ℕ) (i : ℕ) (joined next : holdings.Replica) (counts both theirs : List ℕ) (paths : List (List ℕ)) (other : SessionReplica)
    → HoldsFirst named wrote results first writers i joined counts → i < length writers → get_or writers i 0 < length named.items → other ≡ get_or named.items (get_or writers i 0) other → theirs ≡ counts_at (get_or writers i 0) wrote.counts
    → AreKeysBetween wrote.logs counts theirs paths → IsMost counts theirs both
    → ((V W : List AWrite) (E F : List Action) → HasNewsAt paths V W → IsSubset F E → ReplicaStandsFor joined V E → ReplicaStandsFor other.replica W F → ReplicaStandsFor next (V ++ W) (E ++ F))
    → HoldsFirst named wrote results first writers (i + 1) next both
more named wrote results first writers i joined next counts both theirs paths other before lt inside is same keys most merged world V E h written some others holds =
    let rs = world.replicas in
    let t : ℕ = get_or writers i 0 in
    let W : List AWrite = replica_took t (writes_in rs) in
    let F : List Action = replica_took t (replica_actions rs) in
    let done : List AWrite = V ++ writes_by rs (take i writers) in
    let old = before world V E h written some others holds in
    let theirs_kept : VectorInvariant written.0 t theirs W = subst (λ (c : List ℕ). VectorInvariant written.0 t c W) (sym same) (written.1 t) in
    let news : HasNewsAt paths done W = λ w c. elim (news_between (λ (w : AWrite). w.0) written.0 wrote.logs first t counts theirs old.some W paths written.2 old.kept theirs_kept keys w c) [
      | inl mine ↦ inl (old.within w mine)
      | inr at ↦ inr at
    ] in
    let part : IsSubset F E = λ a c. others a (into_flat (λ k. replica_took k (replica_actions rs)) writers t a (Contains-get_or writers i 0 lt) c) in
    let took : ReplicaStandsFor next (done ++ W) (E ++ F) = merged done W E F news part old.stands (other_stands world named h t other inside is) in
    let same_actions : SameMembers (E ++ F) E = λ a. (λ c. elim (Contains-append_cases E F a c) [ inl l ↦ l | inr r ↦ part a r ], λ c. Contains-append_left E F a c) in
    let whole = sym (writes_more rs writers i V lt) in
    record {
      stands = subst (λ (Z : List AWrite). ReplicaStandsFor next Z E) whole (same_members next (done ++ W) (done ++ W) (E ++ F) E (λ w. (λ c. c, λ c. c)) same_actions took);
      some = old.some ++ W;
      kept = kept_merged written.0 first t counts theirs both old.some W old.kept theirs_kept most;
      within = subst (λ (Z : List AWrite). IsSubset (old.some ++ W) Z) whole (λ w c. elim (Contains-append_cases old.some W w c) [
        | inl mine ↦ Contains-append_left done W w (old.within w mine)
        | inr new ↦ Contains-append_right done W w new
      ]);
    }

pub whole : (named : Vec SessionReplica Global) (wrote : WriteClock) (results : holdings.Replica) (first : ℕ) (writers : List ℕ) (i : ℕ) (joined : holdings.Replica) (counts : List ℕ) → HoldsFirst named wrote results first writers i joined counts → length writers ≤ i
    → HoldsWritesOf named wrote results first writers joined
whole named wrote results first writers i joined counts held past world V E h written some others holds =
    subst (λ ks. ReplicaStandsFor joined (V ++ writes_by world.replicas ks) E) (take_all i writers past) (held world V E h written some others holds).stands

first_in : (ks : List ℕ) (k : ℕ) → slice_get ks 0 ≡ Some k → Contains ks k
first_in [] k e = cc
first_in (x ∷ ks) k e = at_head {A = ℕ} ks x k (some_same x k e)

-- the results of those that have all results, with the writes of those that have all writes
pub known_stands : (named : Vec SessionReplica Global) (n : ℕ) (wrote : WriteClock) (compiled : List (List ℕ)) (writers builders : List ℕ) (results joined : holdings.Replica) (first : ℕ) (world : World) → AllRepresent named.items world.replicas → n ≡ length named.items
    → AreCounted wrote compiled world → AreMaximal wrote.counts n writers → AreMaximal compiled n builders → slice_get builders 0 ≡ Some first → HoldsAllOf named builders results → HoldsWritesOf named wrote results first writers joined
    → ReplicaStandsFor joined (flat_map (λ r. r.writes) world.replicas) (flat_map (λ r. r.actions) world.replicas)
known_stands named n wrote compiled writers builders results joined first world h many counted w b at all held =
    let rs = world.replicas in
    let took = took_of rs in
    let long : n ≡ length rs = many ∙ same_length named.items rs h in
    let V : List AWrite = written_by took builders in
    let E : List Action = compiled_by took builders in
    let U : List AWrite = (all_taken took).writes in
    let A : List Action = (all_taken took).actions in
    let some : IsSubset (replica_took first (writes_in rs)) V = λ a c. subst (λ z. Contains z a) (sym (written_are rs builders)) (into_flat (λ k. replica_took k (writes_in rs)) builders first a (first_in builders first at) c) in
    let others : IsSubset (actions_by rs writers) E = λ a c. all_compiled world n long wrote compiled writers builders counted b a (compiled_all rs writers a (subst (λ z. Contains z a) (sym (compiled_are rs writers)) c)) in
    let its = held world V E h counted.writes some others (all took (all_stand_for named.items rs h)) in
    let its_writes : SameMembers (V ++ writes_by rs writers) U = all_both V (writes_by rs writers) U (written_all rs builders)
    (λ a c. written_all rs writers a (subst (λ z. Contains z a) (sym (written_are rs writers)) c))
    (λ a c. subst (λ z. Contains z a) (written_are rs writers) (all_written world n long wrote compiled writers builders counted w a c)) in
    let its_actions : SameMembers E A = λ a. (compiled_all rs builders a, all_compiled world n long wrote compiled writers builders counted b a) in
    subst (λ (W : List AWrite). ReplicaStandsFor joined W (flat_map (λ r. r.actions) rs)) (all_writes rs)
    (subst (λ (F : List Action). ReplicaStandsFor joined U F) (all_actions rs) (same_members joined (V ++ writes_by rs writers) U E A its_writes its_actions its))
