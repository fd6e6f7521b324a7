-- Replicas of a session of which each takes what all hold.
use Rattle.std.proofs.Common.{◌≡◌, ℕ, suc, List, [], ◌∷◌, ◌++◌, map, Option, None, refl, sym, ap, ◌∙◌, subst, length, Vec, Global}
use Rattle.std.specs.List.{flat_map}
use Rattle.ws_version.specs.Writes.{Write as AWrite}
use Rattle.ws_action.specs.Actions.{Action}
use Rattle.ws_action.specs.Clash.{AllSized}
use Rattle.ws_replica.specs.Holdings.{Took, AllStandFor, all_taken}
use Rattle.ws_session.specs.declared.replicas.SessionReplica.{SessionReplica}
use Rattle.ws_command.specs.Commands.{Settle}
use Rattle.ws_session.specs.World.{World, ReplicaModel, with_replicas, all_settled}
use Rattle.ws_session.specs.Representation.{RepresentsReplica, AllRepresent, Settles, labels_of, replicas_of}
use Rattle.ws_session.proofs.Settling.{sized_both}
use Rattle.ws_session.proofs.Tested.{none_sized}

-- what replicas of the world took
abbrev pub took_by : ReplicaModel → Took
took_by r = record { writes = r.writes; actions = r.actions }

abbrev pub took_of : List ReplicaModel → List Took
took_of rs = map took_by rs

pub all_stand_for : (ns : List SessionReplica) (rs : List ReplicaModel) → AllRepresent ns rs → AllStandFor (replicas_of ns) (took_of rs)
all_stand_for [] [] h = tt
all_stand_for [] (r ∷ rs) h = absurd h
all_stand_for (n ∷ ns) [] h = absurd h
all_stand_for (n ∷ ns) (r ∷ rs) h = (h.0.holds, all_stand_for ns rs h.1)

pub all_writes : (rs : List ReplicaModel) → (all_taken (took_of rs)).writes ≡ flat_map (λ r. r.writes) rs
all_writes [] = refl
all_writes (r ∷ rs) = ap (λ (W : List AWrite). r.writes ++ W) (all_writes rs)

pub all_actions : (rs : List ReplicaModel) → (all_taken (took_of rs)).actions ≡ flat_map (λ r. r.actions) rs
all_actions [] = refl
all_actions (r ∷ rs) = ap (λ (E : List Action). r.actions ++ E) (all_actions rs)

pub all_sized : (ns : List SessionReplica) (rs : List ReplicaModel) → AllRepresent ns rs → AllSized (flat_map (λ r. r.actions) rs)
all_sized [] [] h = none_sized
all_sized [] (r ∷ rs) h = absurd h
all_sized (n ∷ ns) [] h = absurd h
all_sized (n ∷ ns) (r ∷ rs) h = sized_both r.actions (flat_map (λ s. s.actions) rs) h.0.sized (all_sized ns rs h.1)

-- the replicas of the world with these writes and actions
abbrev with_all : List AWrite → List Action → List ReplicaModel → List ReplicaModel
with_all W E rs = map (λ r. record { name = r.name; number = r.number; writes = W; actions = E }) rs

pub first_label : (n m : SessionReplica) (ns ms : List SessionReplica) → labels_of (m ∷ ms) ≡ labels_of (n ∷ ns) → ◌≡◌ {A = Vec ℕ Global × ℕ} (m.name, m.number) (n.name, n.number)
first_label n m ns ms e = cc

pub later_labels : (n m : SessionReplica) (ns ms : List SessionReplica) → labels_of (m ∷ ms) ≡ labels_of (n ∷ ns) → labels_of ms ≡ labels_of ns
later_labels n m ns ms e = cc

all_stand : (t : Took) (ns ms : List SessionReplica) (rs : List ReplicaModel) → labels_of ms ≡ labels_of ns → AllRepresent ns rs → AllStandFor (replicas_of ms) (map (λ _. t) (took_of rs)) → AllSized t.actions → AllRepresent ms (with_all t.writes t.actions rs)
all_stand t [] [] [] e h k s = tt
all_stand t [] [] (r ∷ rs) e h k s = absurd h
all_stand t (n ∷ ns) ms [] e h k s = absurd h
all_stand t [] (m ∷ ms) rs e h k s = cc
all_stand t (n ∷ ns) [] (r ∷ rs) e h k s = cc
all_stand t (n ∷ ns) (m ∷ ms) (r ∷ rs) e h k s =
    let label = first_label n m ns ms e in
    let stand : RepresentsReplica m (record { name = r.name; number = r.number; writes = t.writes; actions = t.actions }) = record {
      name = ap (λ (l : Vec ℕ Global × ℕ). l.0.items) label ∙ h.0.name;
      number = ap (λ (l : Vec ℕ Global × ℕ). l.1) label ∙ h.0.number;
      holds = k.0;
      sized = s;
    } in
    (stand, all_stand t ns ms rs (later_labels n m ns ms e) h.1 k.1 s)

pub labels_length : (ns ms : List SessionReplica) → labels_of ms ≡ labels_of ns → length ms ≡ length ns
labels_length [] [] e = refl
labels_length (n ∷ ns) [] e = cc
labels_length [] (m ∷ ms) e = cc
labels_length (n ∷ ns) (m ∷ ms) e = ap (λ k. suc k) (labels_length ns ms (later_labels n m ns ms e))

first_replica : (n m : SessionReplica) (ns ms : List SessionReplica) → replicas_of (m ∷ ms) ≡ replicas_of (n ∷ ns) → m.replica ≡ n.replica
first_replica n m ns ms e = cc

later_replicas : (n m : SessionReplica) (ns ms : List SessionReplica) → replicas_of (m ∷ ms) ≡ replicas_of (n ∷ ns) → replicas_of ms ≡ replicas_of ns
later_replicas n m ns ms e = cc

-- with the same names, numbers and replicas nothing changed
pub same_named : (ns ms : List SessionReplica) → labels_of ms ≡ labels_of ns → replicas_of ms ≡ replicas_of ns → ms ≡ ns
same_named [] [] e f = refl
same_named (n ∷ ns) [] e f = cc
same_named [] (m ∷ ms) e f = cc
same_named (n ∷ ns) (m ∷ ms) e f =
    let label = first_label n m ns ms e in
    let replica = first_replica n m ns ms f in
    let one : m ≡ n = λ i. record { name = (label i).0; number = (label i).1; replica = replica i } in
    ap (λ z. z ∷ ms) one ∙ ap (λ zs. n ∷ zs) (same_named ns ms (later_labels n m ns ms e) (later_replicas n m ns ms f))

-- each has its name and number, and stands for what all took
pub settles : (text : Option (List ℕ)) (world : World) (ns ms : List SessionReplica) → labels_of ms ≡ labels_of ns
    → AllStandFor (replicas_of ms) (map (λ _. all_taken (took_of world.replicas)) (took_of world.replicas)) → AllRepresent ns world.replicas → Settles Settle text world None ms
settles text world ns ms e stands h =
    let rs = world.replicas in
    let all = all_taken (took_of rs) in
    let sized = subst AllSized (sym (all_actions rs)) (all_sized ns rs h) in
    let stand = all_stand all ns ms rs e h stands sized in
    record {
      refuses = refl;
      next = with_replicas world (all_settled rs);
      after = refl;
      edition = refl;
      stand = subst (λ W. AllRepresent ms (with_all W (flat_map (λ r. r.actions) rs) rs)) (all_writes rs) (subst (λ E. AllRepresent ms (with_all all.writes E rs)) (all_actions rs) stand);
    }
