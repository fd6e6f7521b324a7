-- What some replicas hold together that have all that any has.
use Rattle.std.proofs.Common.{◌≡◌, ◌<◌, ◌+◌, ℕ, zero, suc, List, [], ◌∷◌, ◌++◌, map, take, length, get_or, replicate, Option, None, refl, sym, ap, ◌∙◌, subst, inl, inr, arith}
use Rattle.std.specs.List.{All, Contains, flat_map}
use Rattle.std.proofs.lemmas.List.{take_more, length-map}
use Rattle.std.proofs.lemmas.List.Elements.{All-from_get_or, Contains-get_or, Contains-append_left, Contains-append_right, Contains-append_cases}
use Rattle.ws_action.proofs.Members.{none_in_empty, head_or_later}
use Rattle.ws_map.specs.Kept.{SameMembers}
use Rattle.ws_version.specs.Writes.{Write as AWrite}
use Rattle.ws_action.specs.Actions.{Action}
use Rattle.ws_version_vector.specs.Counts.{AreMaximal}
use Rattle.ws_version_vector.specs.Taken.{VectorsInvariant, replica_took, IsSubset}
use Rattle.ws_version_vector.proofs.Kept.{taken_by_tops}
use Rattle.ws_replica.specs.Joins as joins
use Rattle.ws_replica.specs.Holdings as holdings
use Rattle.ws_replica.specs.Holdings.{ReplicaStandsFor, Took, AllStandFor, all_taken}
use Rattle.ws_replica.specs.Builds as numbered
use Rattle.ws_replica.proofs.Membership.{same_members}
use Rattle.ws_command.specs.Commands.{Settle}
use Rattle.ws_session.specs.declared.replicas.SessionReplica.{SessionReplica}
use Rattle.ws_session.specs.declared.clock.WriteClock.{WriteClock}
use Rattle.ws_session.specs.World.{World, ReplicaModel}
use Rattle.ws_session.specs.Representation.{AllRepresent, AreCounted, Settles, writes_in, replica_actions, replicas_of, labels_of}
use Rattle.ws_session.proofs.Settled.{took_of, all_stand_for, all_writes, all_actions, settles}
use Rattle.ws_session.proofs.Standings.{same_length}
use Rattle.ws_session.proofs.Building.{took_read}
use Rattle.ws_session.proofs.Taken.{took_writes, took_actions, from_all, into_all}

abbrev pub written_by : List Took → List ℕ → List AWrite
written_by took tops = flat_map (λ t. (numbered.took_at took t).writes) tops

abbrev pub compiled_by : List Took → List ℕ → List Action
compiled_by took tops = flat_map (λ t. (numbered.took_at took t).actions) tops

-- ---- members of a list of lists
module _ {X Y : Type 0} (f : X → List Y) where
  pub from_flat : (xs : List X) (y : Y) → Contains (flat_map f xs) y → (x : X) × Contains xs x × Contains (f x) y
  from_flat [] y c = absurd (none_in_empty y c)
  from_flat (x ∷ xs) y c = elim (Contains-append_cases (f x) (flat_map f xs) y c) [
    | inl l ↦ (x, Contains-append_left (x ∷ []) xs x (0, omega arith, refl), l)
    | inr r ↦ let rest = from_flat xs y r in (rest.0, Contains-append_right (x ∷ []) xs rest.0 rest.1, rest.2)
  ]

  pub into_flat : (xs : List X) (x : X) (y : Y) → Contains xs x → Contains (f x) y → Contains (flat_map f xs) y
  into_flat [] x y c d = absurd (none_in_empty x c)
  into_flat (z ∷ xs) x y c d = elim (head_or_later z xs x c) [
    | inl same ↦ Contains-append_left (f z) (flat_map f xs) y (subst (λ q. Contains (f q) y) (sym same) d)
    | inr later ↦ Contains-append_right (f z) (flat_map f xs) y (into_flat xs x y later d)
  ]

flat_alike : {X Y : Type 0} (f g : X → List Y) → ((x : X) → f x ≡ g x) → (xs : List X) → flat_map f xs ≡ flat_map g xs
flat_alike f g h [] = refl
flat_alike f g h (x ∷ xs) = ap (λ l. l ++ flat_map f xs) (h x) ∙ ap (λ l. g x ++ l) (flat_alike f g h xs)

-- ---- the tops took what all took
module _ {A : Type 0} (f : ReplicaModel → List A) (rs : List ReplicaModel) (n : ℕ) (many : n ≡ length rs) (all : List (List ℕ)) (tops : List ℕ) (are : AreMaximal all n tops) (kept : (lists : ℕ → List (List A)) × VectorsInvariant lists all (map f rs)) where
  pub by_tops : IsSubset (flat_map f rs) (flat_map (λ t. replica_took t (map f rs)) tops)
  by_tops a c =
      let one = from_all f rs a c in
      let lt = one.1 in
      let top = taken_by_tops kept.0 all n tops (map f rs) kept.1 are one.0 (omega (arith, lt, many)) a one.2 in
      into_flat (λ t. replica_took t (map f rs)) tops top.0 a top.1 top.2

some_of_all : {A : Type 0} (f : ReplicaModel → List A) (rs : List ReplicaModel) (tops : List ℕ) → IsSubset (flat_map (λ t. replica_took t (map f rs)) tops) (flat_map f rs)
some_of_all f rs tops a c = let one = from_flat (λ t. replica_took t (map f rs)) tops a c in into_all f rs one.0 a one.2

pub written_are : (rs : List ReplicaModel) (tops : List ℕ) → written_by (took_of rs) tops ≡ flat_map (λ t. replica_took t (writes_in rs)) tops
written_are rs tops = flat_alike (λ t. (numbered.took_at (took_of rs) t).writes) (λ t. replica_took t (writes_in rs)) (λ t. ap (λ (k : Took). k.writes) (took_read rs t) ∙ sym (took_writes rs t)) tops

pub compiled_are : (rs : List ReplicaModel) (tops : List ℕ) → compiled_by (took_of rs) tops ≡ flat_map (λ t. replica_took t (replica_actions rs)) tops
compiled_are rs tops = flat_alike (λ t. (numbered.took_at (took_of rs) t).actions) (λ t. replica_took t (replica_actions rs)) (λ t. ap (λ (k : Took). k.actions) (took_read rs t) ∙ sym (took_actions rs t)) tops

pub written_all : (rs : List ReplicaModel) (tops : List ℕ) → IsSubset (written_by (took_of rs) tops) (all_taken (took_of rs)).writes
written_all rs tops = λ a c. subst (λ z. Contains z a) (sym (all_writes rs)) (some_of_all (λ r. r.writes) rs tops a (subst (λ z. Contains z a) (written_are rs tops) c))

pub compiled_all : (rs : List ReplicaModel) (tops : List ℕ) → IsSubset (compiled_by (took_of rs) tops) (all_taken (took_of rs)).actions
compiled_all rs tops = λ a c. subst (λ z. Contains z a) (sym (all_actions rs)) (some_of_all (λ r. r.actions) rs tops a (subst (λ z. Contains z a) (compiled_are rs tops) c))

module _ (world : World) (n : ℕ) (many : n ≡ length world.replicas) (wrote : WriteClock) (compiled : List (List ℕ)) (writers builders : List ℕ) (counted : AreCounted wrote compiled world) where
  pub all_written : AreMaximal wrote.counts n writers → IsSubset (all_taken (took_of world.replicas)).writes (written_by (took_of world.replicas) writers)
  all_written are = λ a c. subst (λ z. Contains z a) (sym (written_are world.replicas writers)) (let writes = counted.writes in by_tops (λ r. r.writes) world.replicas n many wrote.counts writers are (writes.0, writes.1) a (subst (λ z. Contains z a) (all_writes world.replicas) c))

  pub all_compiled : AreMaximal compiled n builders → IsSubset (all_taken (took_of world.replicas)).actions (compiled_by (took_of world.replicas) builders)
  all_compiled are = λ a c. subst (λ z. Contains z a) (sym (compiled_are world.replicas builders)) (by_tops (λ r. r.actions) world.replicas n many compiled builders are counted.actions a (subst (λ z. Contains z a) (all_actions world.replicas) c))

both_all : {A : Type 0} (V W U : List A) → IsSubset V U → IsSubset W U → IsSubset U V → SameMembers (V ++ W) U
both_all V W U v w u a = (λ c. elim (Contains-append_cases V W a c) [ inl l ↦ v a l | inr r ↦ w a r ], λ c. Contains-append_left V W a (u a c))

pub all_both : {A : Type 0} (V W U : List A) → IsSubset V U → IsSubset W U → IsSubset U W → SameMembers (V ++ W) U
all_both V W U v w u a = (λ c. elim (Contains-append_cases V W a c) [ inl l ↦ v a l | inr r ↦ w a r ], λ c. Contains-append_right V W a (u a c))

-- what the writers wrote and the builders compiled is all
pub joined_all : (world : World) (n : ℕ) → n ≡ length world.replicas → (wrote : WriteClock) (compiled : List (List ℕ)) (writers builders : List ℕ) → AreCounted wrote compiled world → AreMaximal wrote.counts n writers → AreMaximal compiled n builders → (joined : holdings.Replica)
    → ReplicaStandsFor joined (written_by (took_of world.replicas) writers ++ written_by (took_of world.replicas) builders) (compiled_by (took_of world.replicas) writers ++ compiled_by (took_of world.replicas) builders)
    → ReplicaStandsFor joined (all_taken (took_of world.replicas)).writes (all_taken (took_of world.replicas)).actions
joined_all world n many wrote compiled writers builders counted w b joined h =
    let took = took_of world.replicas in
    let all = all_taken took in
    same_members joined (written_by took writers ++ written_by took builders) all.writes (compiled_by took writers ++ compiled_by took builders) all.actions
    (both_all (written_by took writers) (written_by took builders) all.writes (written_all world.replicas writers) (written_all world.replicas builders) (all_written world n many wrote compiled writers builders counted w))
    (all_both (compiled_by took writers) (compiled_by took builders) all.actions (compiled_all world.replicas writers) (compiled_all world.replicas builders) (all_compiled world n many wrote compiled writers builders counted b)) h

-- ---- lists of replicas

pub stands_at : (ns : List SessionReplica) (took : List Took) (k : ℕ) (n : SessionReplica) → AllStandFor (replicas_of ns) took → k < length ns → n ≡ get_or ns k n → ReplicaStandsFor n.replica (numbered.took_at took k).writes (numbered.took_at took k).actions
stands_at [] took k n h lt e = absurd (omega (arith, lt))
stands_at (m ∷ ns) [] k n h lt e = absurd h
stands_at (m ∷ ns) (t ∷ took) zero n h lt e = subst (λ (z : SessionReplica). ReplicaStandsFor z.replica t.writes t.actions) (sym e) h.0
stands_at (m ∷ ns) (t ∷ took) (suc k) n h lt e = stands_at ns took k n h.1 (omega (arith, lt)) e

pub stands_push : (rs : List holdings.Replica) (took : List Took) (r : holdings.Replica) (t : Took) → AllStandFor rs took → ReplicaStandsFor r t.writes t.actions → AllStandFor (rs ++ r ∷ []) (took ++ t ∷ [])
stands_push [] [] r t h s = (s, tt)
stands_push [] (u ∷ took) r t h s = absurd h
stands_push (q ∷ rs) [] r t h s = absurd h
stands_push (q ∷ rs) (u ∷ took) r t h s = (h.0, stands_push rs took r t h.1 s)

-- the last of some that all stand for one
pub stands_last : {X : Type 0} (rs : List holdings.Replica) (r : holdings.Replica) (xs : List X) (t : Took) → AllStandFor (rs ++ r ∷ []) (map (λ _. t) xs) → ReplicaStandsFor r t.writes t.actions
stands_last [] r [] t h = absurd h
stands_last [] r (x ∷ xs) t h = h.0
stands_last (q ∷ rs) r [] t h = absurd h
stands_last (q ∷ rs) r (x ∷ xs) t h = stands_last rs r xs t h.1

pub stand_alike : {X : Type 0} (r : holdings.Replica) (xs : List X) (t : Took) (n : ℕ) → n ≡ length xs → ReplicaStandsFor r t.writes t.actions → AllStandFor (replicate n r) (map (λ _. t) xs)
stand_alike r [] t zero e h = tt
stand_alike r [] t (suc n) e h = absurd (omega (arith, e))
stand_alike r (x ∷ xs) t zero e h = absurd (omega (arith, e))
stand_alike r (x ∷ xs) t (suc n) e h = (h, stand_alike r xs t n (omega (arith, e)) h)

taken_written : (took : List Took) (tops : List ℕ) → (all_taken (map (numbered.took_at took) tops)).writes ≡ written_by took tops
taken_written took [] = refl
taken_written took (t ∷ tops) = ap (λ l. (numbered.took_at took t).writes ++ l) (taken_written took tops)

taken_compiled : (took : List Took) (tops : List ℕ) → (all_taken (map (numbered.took_at took) tops)).actions ≡ compiled_by took tops
taken_compiled took [] = refl
taken_compiled took (t ∷ tops) = ap (λ l. (numbered.took_at took t).actions ++ l) (taken_compiled took tops)

pub taken_by : (took : List Took) (tops : List ℕ) (r : holdings.Replica) → ReplicaStandsFor r (all_taken (map (numbered.took_at took) tops)).writes (all_taken (map (numbered.took_at took) tops)).actions → ReplicaStandsFor r (written_by took tops) (compiled_by took tops)
taken_by took tops r h = subst (λ W. ReplicaStandsFor r W (compiled_by took tops)) (taken_written took tops) (subst (λ E. ReplicaStandsFor r (all_taken (map (numbered.took_at took) tops)).writes E) (taken_compiled took tops) h)

-- ---- one more of them
map_push : {X Y : Type 0} (f : X → Y) (xs : List X) (x : X) → map f (xs ++ x ∷ []) ≡ map f xs ++ f x ∷ []
map_push f [] x = refl
map_push f (y ∷ xs) x = ap (λ l. f y ∷ l) (map_push f xs x)

pub joined_more : (took : List Took) (members more : List holdings.Replica) (member : holdings.Replica) (tops : List ℕ) (i : ℕ) → i < length tops → more ≡ members ++ member ∷ [] → AllStandFor members (map (numbered.took_at took) (take i tops))
    → ReplicaStandsFor member (numbered.took_at took (get_or tops i 0)).writes (numbered.took_at took (get_or tops i 0)).actions → AllStandFor more (map (numbered.took_at took) (take (i + 1) tops))
joined_more took members more member tops i lt e h s =
    subst (λ (ms : List holdings.Replica). AllStandFor ms (map (numbered.took_at took) (take (i + 1) tops))) (sym e)
    (subst (λ (ts : List Took). AllStandFor (members ++ member ∷ []) ts) (sym (ap (map (numbered.took_at took)) (take_more tops i 0 lt) ∙ map_push (numbered.took_at took) (take i tops) (get_or tops i 0)))
    (stands_push members (map (numbered.took_at took) (take i tops)) member (numbered.took_at took (get_or tops i 0)) h s))

-- a settled list is as long as it was
pub settled_length : {J : Type 0} (f : J → J → J) (all : List J) → length (joins.all_joined f all) ≡ length all
settled_length f [] = refl
settled_length f (first ∷ rest) = length-map (first ∷ rest) (λ _. joins.joined_from f first rest)

-- each of what a list has
pub within_all : (n m : ℕ) (xs : List ℕ) → n ≡ m → ((t : ℕ) → Contains xs t → t < n) → All (λ t. t < m) xs
within_all n m xs e h = All-from_get_or (λ t. t < m) xs 0 (λ i lt. subst (λ z. get_or xs i 0 < z) e (h (get_or xs i 0) (Contains-get_or xs i 0 lt)))

-- ---- what all hold together, and what each then holds

-- the writes of those that have all writes, with the results of those that have all results
pub together_stands : (world : World) (ns : List SessionReplica) (n m : ℕ) (wrote : WriteClock) (compiled : List (List ℕ)) (writers builders ws bs : List ℕ) (first second joined : holdings.Replica) → AllRepresent ns world.replicas → n ≡ m → m ≡ length ns
    → AreCounted wrote compiled world → AreMaximal wrote.counts n writers → AreMaximal compiled n builders → ws ≡ writers → bs ≡ builders
    → ((took : List Took) → AllStandFor (replicas_of ns) took → ReplicaStandsFor first (written_by took ws) (compiled_by took ws))
    → ((took : List Took) → AllStandFor (replicas_of ns) took → ReplicaStandsFor second (written_by took bs) (compiled_by took bs))
    → ((V W : List AWrite) (E F : List Action) → IsSubset W V → IsSubset E F → ReplicaStandsFor first V E → ReplicaStandsFor second W F → ReplicaStandsFor joined (V ++ W) (E ++ F))
    → ReplicaStandsFor joined (flat_map (λ r. r.writes) world.replicas) (flat_map (λ r. r.actions) world.replicas)
together_stands world ns n m wrote compiled writers builders ws bs first second joined h nm many counted w b we be one two both =
    let rs = world.replicas in
    let took = took_of rs in
    let stands = all_stand_for ns rs h in
    let long : n ≡ length rs = nm ∙ many ∙ same_length ns rs h in
    let some = written_all rs builders in
    let all = all_written world n long wrote compiled writers builders counted w in
    let part = compiled_all rs writers in
    let whole = all_compiled world n long wrote compiled writers builders counted b in
    let its = joined_all world n long wrote compiled writers builders counted w b joined
    (both (written_by took writers) (written_by took builders) (compiled_by took writers) (compiled_by took builders) (λ a x. all a (some a x)) (λ a x. whole a (part a x))
    (subst (λ (tops : List ℕ). ReplicaStandsFor first (written_by took tops) (compiled_by took tops)) we (one took stands))
    (subst (λ (tops : List ℕ). ReplicaStandsFor second (written_by took tops) (compiled_by took tops)) be (two took stands))) in
    subst (λ (W : List AWrite). ReplicaStandsFor joined W (flat_map (λ r. r.actions) rs)) (all_writes rs)
    (subst (λ (E : List Action). ReplicaStandsFor joined (all_taken took).writes E) (all_actions rs) its)

-- copies of a replica that stands for what all took
pub settles_alike : (text : Option (List ℕ)) (world : World) (ns ms : List SessionReplica) (n : ℕ) (joined : holdings.Replica) → labels_of ms ≡ labels_of ns → replicas_of ms ≡ replicate n joined → n ≡ length (replicas_of ns)
    → ReplicaStandsFor joined (flat_map (λ r. r.writes) world.replicas) (flat_map (λ r. r.actions) world.replicas) → AllRepresent ns world.replicas → Settles Settle text world None ms
settles_alike text world ns ms n joined labels replicas many holds h =
    let rs = world.replicas in
    let took = took_of rs in
    let all = all_taken took in
    let its : ReplicaStandsFor joined all.writes all.actions =
    subst (λ (W : List AWrite). ReplicaStandsFor joined W all.actions) (sym (all_writes rs))
    (subst (λ (E : List Action). ReplicaStandsFor joined (flat_map (λ r. r.writes) rs) E) (sym (all_actions rs)) holds) in
    let long : n ≡ length took = many ∙ length-map ns (λ (m : SessionReplica). m.replica) ∙ same_length ns rs h ∙ sym (length-map rs (λ (r : ReplicaModel). record { writes = r.writes; actions = r.actions })) in
    settles text world ns ms labels (subst (λ (qs : List holdings.Replica). AllStandFor qs (map (λ _. all) took)) (sym replicas) (stand_alike joined took all n long its)) h
