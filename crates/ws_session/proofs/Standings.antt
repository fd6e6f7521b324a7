-- Replicas of a session and of a world, index by index.
use Rattle.std.proofs.Common.{◌≡◌, ℕ, zero, suc, List, [], ◌∷◌, ◌++◌, Option, None, Some, true, false, Bool, refl, sym, ap, ◌∙◌, cond, subst, length, get_or, arith}
use Rattle.std.proofs.Math.ListN.{set}
use Rattle.std.specs.Prelude.{Result, Ok, Err, OnOk, IfOk, is_some}
use Rattle.std.specs.Option.{option_map}
use Rattle.std.specs.Str.{bytes_eq}
use Rattle.ws_version.specs.Writes.{Write}
use Rattle.ws_action.specs.Actions.{Action}
use Rattle.ws_session.specs.declared.replicas.SessionReplica.{SessionReplica}
use Rattle.ws_session.specs.World.{ReplicaModel, replica_at, taking, grown_by}
use Rattle.std.specs.Prelude.{◌<◌}
use Rattle.ws_session.specs.Representation.{replica_index, RepresentsReplica, AllRepresent, ChangedAt}

-- what stands at the first index of a name
pub record Found (name : List ℕ) (k : ℕ) (ns : List SessionReplica) (rs : List ReplicaModel) : Type 0 where
  pub replica : ReplicaModel
  pub one : SessionReplica
  pub is : one ≡ get_or ns k one
  pub at : replica_at name rs ≡ Some replica
  pub stands : (n : SessionReplica) → n ≡ get_or ns k n → RepresentsReplica n replica
  pub grows : (n : SessionReplica) (writes : List Write) (actions : List Action) → RepresentsReplica n (grown_by replica writes actions) → AllRepresent (set ns k n) (taking name writes actions rs)

pub same_length : (ns : List SessionReplica) (rs : List ReplicaModel) → AllRepresent ns rs → length ns ≡ length rs
same_length [] [] h = refl
same_length [] (r ∷ rs) h = absurd h
same_length (n ∷ ns) [] h = absurd h
same_length (n ∷ ns) (r ∷ rs) h = ap (λ k. suc k) (same_length ns rs h.1)

pub stands_push : (ns : List SessionReplica) (rs : List ReplicaModel) (n : SessionReplica) (r : ReplicaModel) → AllRepresent ns rs → RepresentsReplica n r → AllRepresent (ns ++ n ∷ []) (rs ++ r ∷ [])
stands_push [] [] n r h s = (s, tt)
stands_push [] (q ∷ rs) n r h s = absurd h
stands_push (m ∷ ns) [] n r h s = absurd h
stands_push (m ∷ ns) (q ∷ rs) n r h s = (h.0, stands_push ns rs n r h.1 s)

abbrev FoundAt : List ℕ → List SessionReplica → List ReplicaModel → Option ℕ → Type 0
FoundAt name ns rs None = replica_at name rs ≡ None
FoundAt name ns rs (Some k) = Found name k ns rs

found_later : (name : List ℕ) (n : SessionReplica) (r : ReplicaModel) (ns : List SessionReplica) (rs : List ReplicaModel) → RepresentsReplica n r → bytes_eq r.name name ≡ false → (o : Option ℕ) → FoundAt name ns rs o → FoundAt name (n ∷ ns) (r ∷ rs) (option_map (λ k. suc k) o)
found_later name n r ns rs s e None f = ap (λ b. cond b (Some r) (replica_at name rs)) e ∙ f
found_later name n r ns rs s e (Some k) f = record {
  replica = f.replica;
  one = f.one;
  is = f.is;
  at = ap (λ b. cond b (Some r) (replica_at name rs)) e ∙ f.at;
  stands = f.stands;
  grows = λ m writes actions h. subst (λ z. AllRepresent (n ∷ set ns k m) z) (sym (ap (λ b. cond b (grown_by r writes actions ∷ rs) (r ∷ taking name writes actions rs)) e)) (s, f.grows m writes actions h);
}

found_here : (name : List ℕ) (n : SessionReplica) (r : ReplicaModel) (ns : List SessionReplica) (rs : List ReplicaModel) → RepresentsReplica n r → AllRepresent ns rs → bytes_eq r.name name ≡ true → Found name 0 (n ∷ ns) (r ∷ rs)
found_here name n r ns rs s h e = record {
  replica = r;
  one = n;
  is = refl;
  at = ap (λ b. cond b (Some r) (replica_at name rs)) e;
  stands = λ m q. subst (λ z. RepresentsReplica z r) (sym q) s;
  grows = λ m writes actions g. subst (λ z. AllRepresent (m ∷ ns) z) (sym (ap (λ b. cond b (grown_by r writes actions ∷ rs) (r ∷ taking name writes actions rs)) e)) (g, h);
}

by_test : (name : List ℕ) (n : SessionReplica) (r : ReplicaModel) (ns : List SessionReplica) (rs : List ReplicaModel) → RepresentsReplica n r → AllRepresent ns rs → (b : Bool) → bytes_eq r.name name ≡ b → (o : Option ℕ) → FoundAt name ns rs o → FoundAt name (n ∷ ns) (r ∷ rs) (cond b (Some 0) (option_map (λ k. suc k) o))
by_test name n r ns rs s h true e o f = found_here name n r ns rs s h e
by_test name n r ns rs s h false e o f = found_later name n r ns rs s e o f

-- the first index of a name in what the code keeps is that in the world
pub found_at : (name : List ℕ) (ns : List SessionReplica) (rs : List ReplicaModel) → AllRepresent ns rs → FoundAt name ns rs (replica_index name ns)
found_at name [] [] h = refl
found_at name [] (r ∷ rs) h = absurd h
found_at name (n ∷ ns) [] h = absurd h
found_at name (n ∷ ns) (r ∷ rs) h = by_test name n r ns rs h.0 h.1 (bytes_eq n.name.items name) (ap (λ z. bytes_eq z name) (sym h.0.name)) (replica_index name ns) (found_at name ns rs h.1)

pub found : (name : List ℕ) (k : ℕ) (ns : List SessionReplica) (rs : List ReplicaModel) → AllRepresent ns rs → replica_index name ns ≡ Some k → Found name k ns rs
found name k ns rs h e = subst (FoundAt name ns rs) e (found_at name ns rs h)

pub not_found : (name : List ℕ) (ns : List SessionReplica) (rs : List ReplicaModel) → AllRepresent ns rs → replica_index name ns ≡ None → replica_at name rs ≡ None
not_found name ns rs h e = subst (FoundAt name ns rs) e (found_at name ns rs h)

-- a name is known where it has an index
known_by : (name : List ℕ) (ns : List SessionReplica) (rs : List ReplicaModel) (o : Option ℕ) → FoundAt name ns rs o → is_some (replica_at name rs) ≡ is_some o
known_by name ns rs None f = ap (λ (r : Option ReplicaModel). is_some r) f
known_by name ns rs (Some k) f = ap (λ (r : Option ReplicaModel). is_some r) f.at

pub known_index : (name : List ℕ) (ns : List SessionReplica) (rs : List ReplicaModel) → AllRepresent ns rs → is_some (replica_at name rs) ≡ is_some (replica_index name ns)
known_index name ns rs h = known_by name ns rs (replica_index name ns) (found_at name ns rs h)

-- what an index reads doesn't hang on a default
pub one_element : {X : Type 0} (xs : List X) (k : ℕ) (n m : X) → k < length xs → n ≡ get_or xs k n → m ≡ get_or xs k m → n ≡ m
one_element [] k n m lt e f = absurd (omega arith)
one_element (x ∷ xs) zero n m lt e f = e ∙ sym f
one_element (x ∷ xs) (suc k) n m lt e f = one_element xs k n m (omega (arith, lt)) e f

pub set_same : {X : Type 0} (xs : List X) (k : ℕ) (x : X) → x ≡ get_or xs k x → set xs k x ≡ xs
set_same [] k x e = refl
set_same (y ∷ xs) zero x e = ap (λ z. z ∷ xs) e
set_same (y ∷ xs) (suc k) x e = ap (λ zs. y ∷ zs) (set_same xs k x e)

-- a change of the one element that was read
pub changed_one : (Change : SessionReplica → SessionReplica → Type 0) (old : List SessionReplica) (index : ℕ) (one new : SessionReplica) → index < length old → one ≡ get_or old index one → Change one new → ChangedAt Change old index (set old index new)
changed_one Change old index one new lt e h = record {
  changed = new;
  is = refl;
  so = λ n f. subst (λ z. Change z new) (one_element old index one n lt e f) h;
}

pub on_ok_map : {A E P Q : Type 0} (r : Result A E) → (P → Q) → OnOk r P → OnOk r Q
on_ok_map (Ok a) f h = f h
on_ok_map (Err e) f h = tt

pub if_ok_map : {A E : Type 0} {P Q : A → Type 0} (r : Result A E) → ((a : A) → P a → Q a) → IfOk r P → IfOk r Q
if_ok_map (Ok a) f h = f a h
if_ok_map (Err e) f h = tt
