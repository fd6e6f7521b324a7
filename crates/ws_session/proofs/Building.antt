-- What builds make of the replicas of a session, and what of those of the world.
use Rattle.std.proofs.Common.{◌≡◌, ◌<◌, ℕ, zero, suc, List, [], ◌∷◌, ◌++◌, map, length, get_or, Option, None, Some, true, false, Bool, ◌||◌, refl, sym, ap, ◌∙◌, cond, subst, append-nil, inl, inr, arith}
use Rattle.std.specs.Prelude.{◌==◌, if◌then◌else◌}
use Rattle.std.specs.Option.{option_map}
use Rattle.std.specs.List.{All, AllZip, Contains, flat_map, list_any, slice_get}
use Rattle.std.specs.Str.{bytes_eq}
use Rattle.std.proofs.lemmas.Bool.{eq-eqb, eqb-true}
use Rattle.std.proofs.lemmas.Grind.{flat_map-append}
use Rattle.std.proofs.lemmas.List.Elements.{All-nil, All-cons, Contains-append_left, Contains-append_right, Contains-append_cases}
use Rattle.std.proofs.lemmas.Slice.Eq.{bytes_eq-Decides}
use Rattle.ws_action.specs.Actions.{Action}
use Rattle.ws_action.specs.Clash.{NoClash, AllSized, hashed_actions, hashed as hashed_action}
use Rattle.ws_action.proofs.Members.{none_in_empty, head_or_later, later, at_head}
use Rattle.ws_replica.specs.Builds as numbered
use Rattle.ws_replica.specs.Builds.{target_of, took_at, builds, LacksPackage}
use Rattle.ws_replica.specs.Holdings.{ReplicaStandsFor, Took}
use Rattle.ws_replica.specs.Holdings as holdings
use Rattle.ws_replica.specs.Reports.{TargetBuild, IsTargetBuild, all_actions}
use Rattle.ws_replica.specs.declared.building.Target.{Target}
use Rattle.ws_replica.proofs.Numbered.{some_same}
use Rattle.ws_session.specs.declared.replicas.SessionReplica.{SessionReplica}
use Rattle.ws_session.specs.World.{World, ReplicaModel, replica_at, or_new, writes_of, actions_held, grown_by, with_replicas, AreBuilds, held_by, sharing, after_builds, hashed_texts, texts_of_replica}
use Rattle.ws_session.specs.Representation.{replica_index, RepresentsReplica, AllRepresent, AreApart, replica_names, IsTarget, labels_of, replicas_of, target_words}
use Rattle.ws_session.proofs.Names.{one_number}
use Rattle.ws_session.proofs.RunTelling.{held_among}
use Rattle.ws_session.proofs.Settled.{took_by, took_of, first_label, later_labels}
use Rattle.ws_session.proofs.Settling.{sized_both}
use Rattle.ws_session.proofs.Standings.{found}
use Rattle.ws_session.proofs.Telling.{hashed_more, clear_sought}
use Rattle.ws_session.proofs.Tested.{none_sized}

-- ---- what a name reads, and what its number

abbrev ReadAt : List ℕ → List ReplicaModel → Option ℕ → Type 0
ReadAt name rs None = replica_at name rs ≡ None
ReadAt name rs (Some k) = slice_get rs k ≡ replica_at name rs

read_by : (name : List ℕ) (r : ReplicaModel) (rs : List ReplicaModel) (b : Bool) → bytes_eq r.name name ≡ b → (o : Option ℕ) → ReadAt name rs o → ReadAt name (r ∷ rs) (cond b (Some 0) (option_map (λ k. suc k) o))
read_by name r rs true e o f = sym (ap (λ b. cond b (Some r) (replica_at name rs)) e)
read_by name r rs false e None f = ap (λ b. cond b (Some r) (replica_at name rs)) e ∙ f
read_by name r rs false e (Some k) f = f ∙ sym (ap (λ b. cond b (Some r) (replica_at name rs)) e)

read_at : (name : List ℕ) (ns : List SessionReplica) (rs : List ReplicaModel) → AllRepresent ns rs → ReadAt name rs (replica_index name ns)
read_at name [] [] h = refl
read_at name [] (r ∷ rs) h = absurd h
read_at name (n ∷ ns) [] h = absurd h
read_at name (n ∷ ns) (r ∷ rs) h = read_by name r rs (bytes_eq n.name.items name) (ap (λ z. bytes_eq z name) (sym h.0.name)) (replica_index name ns) (read_at name ns rs h.1)

-- the first index of a name reads what the name reads
pub same_read : (name : List ℕ) (k : ℕ) (ns : List SessionReplica) (rs : List ReplicaModel) → AllRepresent ns rs → replica_index name ns ≡ Some k → slice_get rs k ≡ replica_at name rs
same_read name k ns rs h e = subst (ReadAt name rs) e (read_at name ns rs h)

pub took_read : (rs : List ReplicaModel) (k : ℕ) → took_at (took_of rs) k ≡ took_by (or_new (slice_get rs k))
took_read [] k = refl
took_read (r ∷ rs) zero = refl
took_read (r ∷ rs) (suc k) = took_read rs k

-- ---- the numbers of names

within_by : (name : List ℕ) (n : SessionReplica) (ns : List SessionReplica) (b : Bool) (o : Option ℕ) → ((k : ℕ) → o ≡ Some k → k < length ns) → (k : ℕ) → cond b (Some 0) (option_map (λ j. suc j) o) ≡ Some k → k < length (n ∷ ns)
within_by name n ns true o f k e = let z : 0 ≡ k = cc in omega arith
within_by name n ns false None f k e = cc
within_by name n ns false (Some j) f k e = let z : suc j ≡ k = cc in omega (arith, f j refl)

index_within : (name : List ℕ) (ns : List SessionReplica) (k : ℕ) → replica_index name ns ≡ Some k → k < length ns
index_within name [] k e = cc
index_within name (n ∷ ns) k e = within_by name n ns (bytes_eq n.name.items name) (replica_index name ns) (index_within name ns) k e

pub targets_within : (ns : List SessionReplica) (asked : List (List ℕ × List ℕ)) (targets : List Target) → AllZip (IsTarget ns) asked (map target_of targets) → All (λ t. t.replica < length ns) targets
targets_within ns [] [] z = All-nil (λ t. t.replica < length ns)
targets_within ns [] (t ∷ targets) z = absurd z
targets_within ns (a ∷ asked) [] z = absurd z
targets_within ns (a ∷ asked) (t ∷ targets) z = All-cons (λ t. t.replica < length ns) t targets (index_within a.0 ns t.replica z.0.0) (targets_within ns asked targets z.1)

named_by : (name : List ℕ) (n : SessionReplica) (ns : List SessionReplica) (b : Bool) → bytes_eq n.name.items name ≡ b → (o : Option ℕ) → ((k : ℕ) → o ≡ Some k → get_or (map (λ (m : SessionReplica). m.name.items) ns) k [] ≡ name)
    → (k : ℕ) → cond b (Some 0) (option_map (λ j. suc j) o) ≡ Some k → get_or (map (λ (m : SessionReplica). m.name.items) (n ∷ ns)) k [] ≡ name
named_by name n ns true e o f k is = let z : 0 ≡ k = cc in
    subst (λ j. get_or (map (λ (m : SessionReplica). m.name.items) (n ∷ ns)) j [] ≡ name) z ((bytes_eq-Decides n.name.items name).0 e)
named_by name n ns false e None f k is = cc
named_by name n ns false e (Some j) f k is = let z : suc j ≡ k = cc in
    subst (λ i. get_or (map (λ (m : SessionReplica). m.name.items) (n ∷ ns)) i [] ≡ name) z (f j refl)

index_named : (name : List ℕ) (ns : List SessionReplica) (k : ℕ) → replica_index name ns ≡ Some k → get_or (map (λ (m : SessionReplica). m.name.items) ns) k [] ≡ name
index_named name [] k e = cc
index_named name (n ∷ ns) k e = named_by name n ns (bytes_eq n.name.items name) refl (replica_index name ns) (index_named name ns) k e

labels_named : (ns ms : List SessionReplica) → labels_of ms ≡ labels_of ns → map (λ (m : SessionReplica). m.name.items) ms ≡ map (λ (m : SessionReplica). m.name.items) ns
labels_named [] [] e = refl
labels_named (n ∷ ns) [] e = cc
labels_named [] (m ∷ ms) e = cc
labels_named (n ∷ ns) (m ∷ ms) e =
    ap (λ z. z ∷ map (λ (m : SessionReplica). m.name.items) ms) (ap (λ l. l.0.items) (first_label n m ns ms e)) ∙ ap (λ zs. n.name.items ∷ zs) (labels_named ns ms (later_labels n m ns ms e))

-- what is asked for is what targets spell
pub words_are : (ns ms : List SessionReplica) → labels_of ms ≡ labels_of ns → (asked : List (List ℕ × List ℕ)) (targets : List (ℕ × List ℕ)) → AllZip (IsTarget ns) asked targets → map (target_words ms) targets ≡ asked
words_are ns ms e [] [] z = refl
words_are ns ms e [] (t ∷ targets) z = absurd z
words_are ns ms e (a ∷ asked) [] z = absurd z
words_are ns ms e (a ∷ asked) (t ∷ targets) z =
    let name : get_or (map (λ (m : SessionReplica). m.name.items) ms) t.0 [] ≡ a.0 = ap (λ zs. get_or zs t.0 []) (labels_named ns ms e) ∙ index_named a.0 ns t.0 z.0.0 in
    let head : target_words ms t ≡ a = λ i. (name i, sym z.0.1 i) in
    ap (λ x. x ∷ map (target_words ms) targets) head ∙ ap (λ xs. a ∷ xs) (words_are ns ms e asked targets z.1)

-- ---- what the builds of names come to, and those of numbers

module _ (world : World) (ns : List SessionReplica) (h : AllRepresent ns world.replicas) where
  reads : (asked : List ℕ × List ℕ) (target : ℕ × List ℕ) → IsTarget ns asked target → took_at (took_of world.replicas) target.0 ≡ took_by (or_new (replica_at asked.0 world.replicas))
  reads asked target z = took_read world.replicas target.0 ∙ ap (λ o. took_by (or_new o)) (same_read asked.0 target.0 ns world.replicas h z.0)

  pub same_held : (asked : List (List ℕ × List ℕ)) (targets : List (ℕ × List ℕ)) → AllZip (IsTarget ns) asked targets → numbered.held_by (took_of world.replicas) targets ≡ held_by world asked
  same_held [] [] z = refl
  same_held [] (t ∷ targets) z = absurd z
  same_held (a ∷ asked) [] z = absurd z
  same_held (a ∷ asked) (t ∷ targets) z =
      ap (λ (k : Took). k.actions ++ numbered.held_by (took_of world.replicas) targets) (reads a t z.0) ∙ ap (λ E. actions_held a.0 world ++ E) (same_held asked targets z.1)

  pub same_builds : (asked : List (List ℕ × List ℕ)) (targets : List (ℕ × List ℕ)) (all : List TargetBuild) → AllZip (IsTarget ns) asked targets
      → AllZip (λ t b. IsTargetBuild world.edition (took_at (took_of world.replicas) t.0).writes t.1 (Some b)) targets all → AllZip (λ t b. IsTargetBuild world.edition (writes_of t.0 world) t.1 (Some b)) asked all
  same_builds [] [] [] z are = tt
  same_builds [] [] (b ∷ all) z are = absurd are
  same_builds [] (t ∷ targets) all z are = absurd z
  same_builds (a ∷ asked) [] all z are = absurd z
  same_builds (a ∷ asked) (t ∷ targets) [] z are = absurd are
  same_builds (a ∷ asked) (t ∷ targets) (b ∷ all) z are = (
    subst (λ d. IsTargetBuild world.edition (writes_of a.0 world) d (Some b)) (sym z.0.1) (subst (λ (k : Took). IsTargetBuild world.edition k.writes t.1 (Some b)) (reads a t z.0) are.0),
    same_builds asked targets all z.1 are.1,
  )

  pub no_builds : (asked : List (List ℕ × List ℕ)) (targets : List (ℕ × List ℕ)) → AllZip (IsTarget ns) asked targets → LacksPackage world.edition (took_of world.replicas) targets → AreBuilds world asked None
  no_builds [] [] z (k, directory, c, is) = absurd (none_in_empty (k, directory) c)
  no_builds [] (t ∷ targets) z lacks = absurd z
  no_builds (a ∷ asked) [] z lacks = absurd z
  no_builds (a ∷ asked) (t ∷ targets) z (k, directory, c, is) = elim (head_or_later t targets (k, directory) c) [
    | inl same ↦ (
      a.0,
      a.1,
      at_head asked a (a.0, a.1) refl,
      subst (λ d. IsTargetBuild world.edition (writes_of a.0 world) d None) (sym (z.0.1 ∙ ap (λ (p : ℕ × List ℕ). p.1) same))
          (subst (λ (o : Took). IsTargetBuild world.edition o.writes directory None) (ap (λ (p : ℕ × List ℕ). took_at (took_of world.replicas) p.0) (sym same) ∙ reads a t z.0) is),
    )
    | inr rest ↦ let found = no_builds asked targets z.1 (k, directory, rest, is) in (found.0, found.1, later a asked (found.0, found.1) found.2, found.3)
  ]

  pub held_sized : (asked : List (List ℕ × List ℕ)) (targets : List (ℕ × List ℕ)) → AllZip (IsTarget ns) asked targets → AllSized (held_by world asked)
  held_sized [] [] z = none_sized
  held_sized [] (t ∷ targets) z = absurd z
  held_sized (a ∷ asked) [] z = absurd z
  held_sized (a ∷ asked) (t ∷ targets) z =
      let f = found a.0 t.0 ns world.replicas h z.0.0 in
      sized_both (actions_held a.0 world) (held_by world asked) (subst (λ (o : Option ReplicaModel). AllSized (or_new o).actions) (sym f.at) (f.stands f.one f.is).sized) (held_sized asked targets z.1)

-- ---- who takes what was built

same_bool : (a b : Bool) → (a ≡ true → b ≡ true) → (b ≡ true → a ≡ true) → a ≡ b
same_bool true b f g = sym (f refl)
same_bool false true f g = g refl
same_bool false false f g = refl

found_name : (name : List ℕ) (rs : List ReplicaModel) (r : ReplicaModel) → replica_at name rs ≡ Some r → r.name ≡ name
found_name name [] r e = cc
found_name name (q ∷ rs) r e =
    let by : (b : Bool) → bytes_eq q.name name ≡ b → cond b (Some q) (replica_at name rs) ≡ Some r → r.name ≡ name =
    λ b. elim b as (λ z. bytes_eq q.name name ≡ z → cond z (Some q) (replica_at name rs) ≡ Some r → r.name ≡ name) [
      | true ↦ λ t f. ap (λ (z : ReplicaModel). z.name) (sym (some_same q r f)) ∙ (bytes_eq-Decides q.name name).0 t
      | false ↦ λ t f. found_name name rs r f
    ] in by (bytes_eq q.name name) refl e

module _ (world : World) (ns : List SessionReplica) (h : AllRepresent ns world.replicas) (apart : AreApart (replica_names world)) where
  -- a replica has a target's name where it has its number
  same_one : (asked : List ℕ × List ℕ) (target : ℕ × List ℕ) → IsTarget ns asked target → (k : ℕ) (r : ReplicaModel) → slice_get world.replicas k ≡ Some r → bytes_eq r.name asked.0 ≡ (target.0 == k)
  same_one asked target z k r e =
      let f = found asked.0 target.0 ns world.replicas h z.0 in
      let its : slice_get world.replicas target.0 ≡ Some f.replica = same_read asked.0 target.0 ns world.replicas h z.0 ∙ f.at in
      let name : f.replica.name ≡ asked.0 = found_name asked.0 world.replicas f.replica f.at in
      same_bool (bytes_eq r.name asked.0) (target.0 == k)
      (λ t. eq-eqb target.0 k (one_number world.replicas apart target.0 k f.replica r its e (name ∙ sym ((bytes_eq-Decides r.name asked.0).0 t))))
      (λ t. (bytes_eq-Decides r.name asked.0).1 (ap (λ (q : ReplicaModel). q.name) (some_same r f.replica (sym e ∙ sym (ap (slice_get world.replicas) (eqb-true target.0 k t)) ∙ its)) ∙ name))

  pub same_tests : (asked : List (List ℕ × List ℕ)) (targets : List (ℕ × List ℕ)) → AllZip (IsTarget ns) asked targets → (k : ℕ) (r : ReplicaModel) → slice_get world.replicas k ≡ Some r
      → list_any (λ t. bytes_eq r.name t.0) asked ≡ builds targets k
  same_tests [] [] z k r e = refl
  same_tests [] (t ∷ targets) z k r e = absurd z
  same_tests (a ∷ asked) [] z k r e = absurd z
  same_tests (a ∷ asked) (t ∷ targets) z k r e =
      ap (λ b. b || list_any (λ t. bytes_eq r.name t.0) asked) (same_one a t z.0 k r e) ∙ ap (λ b. (t.0 == k) || b) (same_tests asked targets z.1 k r e)

share_one : (b : Bool) (n m : SessionReplica) (r : ReplicaModel) (actions : List Action) → m.name.items ≡ n.name.items → m.number ≡ n.number → RepresentsReplica n r → AllSized actions
    → ReplicaStandsFor m.replica r.writes (if b then r.actions ++ actions else r.actions) → RepresentsReplica m (if b then grown_by r [] actions else r)
share_one true n m r actions name number s sized holds = record {
  name = name ∙ s.name;
  number = number ∙ s.number;
  holds = subst (λ W. ReplicaStandsFor m.replica W (r.actions ++ actions)) (sym (append-nil r.writes)) holds;
  sized = sized_both r.actions actions s.sized sized;
}
share_one false n m r actions name number s sized holds = record { name = name ∙ s.name; number = number ∙ s.number; holds = holds; sized = s.sized }

-- each replica with a test's name takes actions, and so stands in the world that says so
pub all_share : (test : ReplicaModel → Bool) (by : ℕ → Bool) (actions : List Action) (ns ms : List SessionReplica) (rs : List ReplicaModel) → labels_of ms ≡ labels_of ns → AllRepresent ns rs → AllSized actions
    → ((k : ℕ) (r : ReplicaModel) → slice_get rs k ≡ Some r → test r ≡ by k)
    → ((k : ℕ) (t : Took) (m : holdings.Replica) → slice_get (took_of rs) k ≡ Some t → slice_get (replicas_of ms) k ≡ Some m → ReplicaStandsFor m t.writes (if by k then t.actions ++ actions else t.actions))
    → AllRepresent ms (map (λ r. if test r then grown_by r [] actions else r) rs)
all_share test by actions [] [] [] e h sized same stand = tt
all_share test by actions [] ms (r ∷ rs) e h sized same stand = absurd h
all_share test by actions (n ∷ ns) ms [] e h sized same stand = absurd h
all_share test by actions [] (m ∷ ms) rs e h sized same stand = cc
all_share test by actions (n ∷ ns) [] (r ∷ rs) e h sized same stand = cc
all_share test by actions (n ∷ ns) (m ∷ ms) (r ∷ rs) e h sized same stand =
    let label = first_label n m ns ms e in (
      share_one (test r) n m r actions (ap (λ l. l.0.items) label) (ap (λ l. l.1) label) h.0 sized
          (subst (λ b. ReplicaStandsFor m.replica r.writes (if b then r.actions ++ actions else r.actions)) (sym (same 0 r refl)) (stand 0 (took_by r) m.replica refl refl)),
      all_share test (λ k. by (suc k)) actions ns ms rs (later_labels n m ns ms e) h.1 sized (λ k q f. same (suc k) q f) (λ k t q f g. stand (suc k) t q f g),
    )

-- ---- what is hashed

held_in : (name : List ℕ) (world : World) (o : Option ReplicaModel) → replica_at name world.replicas ≡ o → (s : List ℕ) → Contains (hashed_actions (or_new o).actions) s → Contains (flat_map texts_of_replica world.replicas) s
held_in name world None e s c = absurd (none_in_empty s c)
held_in name world (Some r) e s c = held_among name world.replicas r e s c

all_held_in : (world : World) (asked : List (List ℕ × List ℕ)) (s : List ℕ) → Contains (hashed_actions (held_by world asked)) s → Contains (flat_map texts_of_replica world.replicas) s
all_held_in world [] s c = absurd (none_in_empty s c)
all_held_in world (a ∷ asked) s c =
    elim (Contains-append_cases (hashed_actions (actions_held a.0 world)) (hashed_actions (held_by world asked)) s (subst (λ z. Contains z s) (flat_map-append hashed_action (actions_held a.0 world) (held_by world asked)) c)) [
      | inl l ↦ held_in a.0 world (replica_at a.0 world.replicas) refl s l
      | inr rest ↦ all_held_in world asked s rest
    ]

grown_more : (b : Bool) (r : ReplicaModel) (actions : List Action) (s : List ℕ) → Contains (texts_of_replica r) s → Contains (texts_of_replica (if b then grown_by r [] actions else r)) s
grown_more false r actions s c = c
grown_more true r actions s c = hashed_more r.actions actions s c

shared_more : (test : ReplicaModel → Bool) (actions : List Action) (rs : List ReplicaModel) (s : List ℕ) → Contains (flat_map texts_of_replica rs) s → Contains (flat_map texts_of_replica (map (λ r. if test r then grown_by r [] actions else r) rs)) s
shared_more test actions [] s c = c
shared_more test actions (r ∷ rs) s c =
    let head : List (List ℕ) = texts_of_replica (if test r then grown_by r [] actions else r) in
    let rest : List (List ℕ) = flat_map texts_of_replica (map (λ r. if test r then grown_by r [] actions else r) rs) in
    elim (Contains-append_cases (texts_of_replica r) (flat_map texts_of_replica rs) s c) [
      | inl l ↦ Contains-append_left head rest s (grown_more (test r) r actions s l)
      | inr more ↦ Contains-append_right head rest s (shared_more test actions rs s more)
    ]

-- where the texts of the world after builds don't clash, no more do those of what is held before and of what the builds compile
pub clear_builds : (world : World) (asked : List (List ℕ × List ℕ)) (all : List TargetBuild) → NoClash (hashed_texts (after_builds world asked (Some all))) → NoClash (hashed_actions (held_by world asked ++ all_actions world.edition all))
clear_builds world asked all clear =
    let compiled : List Action = all_actions world.edition all in
    let actions : List Action = held_by world asked ++ compiled in
    let next : World = with_replicas world (sharing asked actions world.replicas) in
    clear_sought (held_by world asked) compiled next (λ s c. shared_more (λ r. list_any (λ t. bytes_eq r.name t.0) asked) actions world.replicas s (all_held_in world asked s c)) clear
