-- What commands make of what each replica of a world took, index by index.
use Rattle.std.proofs.Common.{◌≡◌, ◌<◌, ◌≤◌, ℕ, zero, suc, List, [], ◌∷◌, ◌++◌, map, length, Option, None, Some, true, false, Bool, refl, sym, ap, ◌∙◌, cond, subst, inl, inr, arith}
use Rattle.std.specs.Prelude.{◌≢◌}
use Rattle.std.specs.Option.{option_map}
use Rattle.std.specs.List.{Contains, flat_map, slice_get}
use Rattle.std.specs.Str.{bytes_eq}
use Rattle.std.proofs.lemmas.List.Elements.{Contains-append_left, Contains-append_right, Contains-append_cases}
use Rattle.ws_version.specs.Writes.{Write as AWrite}
use Rattle.ws_action.specs.Actions.{Action}
use Rattle.ws_version_vector.specs.Taken.{replica_took}
use Rattle.ws_session.specs.declared.replicas.SessionReplica.{SessionReplica}
use Rattle.ws_session.specs.World.{World, ReplicaModel, or_new, writes_of, actions_held, taking, grown_by}
use Rattle.ws_session.specs.Representation.{replica_index, AllRepresent, writes_in, replica_actions}
use Rattle.ws_session.proofs.Standings.{not_found}
use Rattle.ws_session.proofs.Building.{same_read}

-- one replica took these, and no other took anything
pub record IsTaken (k : ℕ) (W : List AWrite) (E : List Action) (old new : List ReplicaModel) : Type 0 where
  pub writes : replica_took k (writes_in new) ≡ replica_took k (writes_in old) ++ W
  pub actions : replica_took k (replica_actions new) ≡ replica_took k (replica_actions old) ++ E
  pub other_writes : (j : ℕ) → j ≢ k → replica_took j (writes_in new) ≡ replica_took j (writes_in old)
  pub other_actions : (j : ℕ) → j ≢ k → replica_took j (replica_actions new) ≡ replica_took j (replica_actions old)

-- or none did
abbrev pub TakenBy : Option ℕ → List AWrite → List Action → List ReplicaModel → List ReplicaModel → Type 0
TakenBy None W E old new = new ≡ old
TakenBy (Some k) W E old new = IsTaken k W E old new

others_later : {A : Type 0} (x : List A) (k : ℕ) (old new : List (List A)) → ((j : ℕ) → j ≢ k → replica_took j new ≡ replica_took j old) → (j : ℕ) → j ≢ suc k → replica_took j (x ∷ new) ≡ replica_took j (x ∷ old)
others_later x k old new h zero ne = refl
others_later x k old new h (suc j) ne = h j (λ e. ne (ap (λ z. suc z) e))

others_first : {A : Type 0} (x y : List A) (rest : List (List A)) (j : ℕ) → j ≢ 0 → replica_took j (y ∷ rest) ≡ replica_took j (x ∷ rest)
others_first x y rest zero ne = absurd (ne refl)
others_first x y rest (suc j) ne = refl

taken_later : (r : ReplicaModel) (o : Option ℕ) (W : List AWrite) (E : List Action) (old new : List ReplicaModel) → TakenBy o W E old new → TakenBy (option_map (λ k. suc k) o) W E (r ∷ old) (r ∷ new)
taken_later r None W E old new e = ap (λ z. r ∷ z) e
taken_later r (Some k) W E old new h = record {
  writes = h.writes;
  actions = h.actions;
  other_writes = others_later r.writes k (writes_in old) (writes_in new) h.other_writes;
  other_actions = others_later r.actions k (replica_actions old) (replica_actions new) h.other_actions;
}

taken_here : (r : ReplicaModel) (W : List AWrite) (E : List Action) (rs : List ReplicaModel) → IsTaken 0 W E (r ∷ rs) (grown_by r W E ∷ rs)
taken_here r W E rs = record {
  writes = refl;
  actions = refl;
  other_writes = others_first r.writes (r.writes ++ W) (writes_in rs);
  other_actions = others_first r.actions (r.actions ++ E) (replica_actions rs);
}

taken_test : (name : List ℕ) (r : ReplicaModel) (rs : List ReplicaModel) (W : List AWrite) (E : List Action) (b : Bool) → bytes_eq r.name name ≡ b → (o : Option ℕ) → TakenBy o W E rs (taking name W E rs)
    → TakenBy (cond b (Some 0) (option_map (λ k. suc k) o)) W E (r ∷ rs) (taking name W E (r ∷ rs))
taken_test name r rs W E true e o h = subst (λ z. IsTaken 0 W E (r ∷ rs) z) (sym (ap (λ b. cond b (grown_by r W E ∷ rs) (r ∷ taking name W E rs)) e)) (taken_here r W E rs)
taken_test name r rs W E false e o h =
    subst (λ z. TakenBy (option_map (λ k. suc k) o) W E (r ∷ rs) z) (sym (ap (λ b. cond b (grown_by r W E ∷ rs) (r ∷ taking name W E rs)) e)) (taken_later r o W E rs (taking name W E rs) h)

-- the replica of a name takes them, at its index
pub taken_at : (name : List ℕ) (W : List AWrite) (E : List Action) (ns : List SessionReplica) (rs : List ReplicaModel) → AllRepresent ns rs → TakenBy (replica_index name ns) W E rs (taking name W E rs)
taken_at name W E [] [] h = refl
taken_at name W E [] (r ∷ rs) h = absurd h
taken_at name W E (n ∷ ns) [] h = absurd h
taken_at name W E (n ∷ ns) (r ∷ rs) h =
    taken_test name r rs W E (bytes_eq n.name.items name) (ap (λ z. bytes_eq z name) (sym h.0.name)) (replica_index name ns) (taken_at name W E ns rs h.1)

-- ---- what a name reads
abbrev pub ReadsBy : List ℕ → World → Option ℕ → Type 0
ReadsBy name world None = (writes_of name world ≡ []) × (actions_held name world ≡ [])
ReadsBy name world (Some k) = (writes_of name world ≡ replica_took k (writes_in world.replicas)) × (actions_held name world ≡ replica_took k (replica_actions world.replicas))

pub took_writes : (rs : List ReplicaModel) (k : ℕ) → replica_took k (writes_in rs) ≡ (or_new (slice_get rs k)).writes
took_writes [] k = refl
took_writes (r ∷ rs) zero = refl
took_writes (r ∷ rs) (suc k) = took_writes rs k

pub took_actions : (rs : List ReplicaModel) (k : ℕ) → replica_took k (replica_actions rs) ≡ (or_new (slice_get rs k)).actions
took_actions [] k = refl
took_actions (r ∷ rs) zero = refl
took_actions (r ∷ rs) (suc k) = took_actions rs k

reads_by : (name : List ℕ) (world : World) (ns : List SessionReplica) → AllRepresent ns world.replicas → (o : Option ℕ) → replica_index name ns ≡ o → ReadsBy name world o
reads_by name world ns h None e = let none = not_found name ns world.replicas h e in (ap (λ o. (or_new o).writes) none, ap (λ o. (or_new o).actions) none)
reads_by name world ns h (Some k) e =
    let same = same_read name k ns world.replicas h e in (
      ap (λ o. (or_new o).writes) (sym same) ∙ sym (took_writes world.replicas k),
      ap (λ o. (or_new o).actions) (sym same) ∙ sym (took_actions world.replicas k),
    )

pub reads_at : (name : List ℕ) (world : World) (ns : List SessionReplica) → AllRepresent ns world.replicas → ReadsBy name world (replica_index name ns)
reads_at name world ns h = reads_by name world ns h (replica_index name ns) refl

-- ---- what all took
module _ {A : Type 0} (f : ReplicaModel → List A) where
  pub from_all : (rs : List ReplicaModel) (a : A) → Contains (flat_map f rs) a → (t : ℕ) × (t < length rs) × Contains (replica_took t (map f rs)) a
  from_all [] a c = absurd (omega (arith, c.1))
  from_all (r ∷ rs) a c = elim (Contains-append_cases (f r) (flat_map f rs) a c) [
    | inl l ↦ (0, omega arith, l)
    | inr l ↦ let rest = from_all rs a l in let lt = rest.1 in (suc rest.0, omega (arith, lt), rest.2)
  ]

  pub into_all : (rs : List ReplicaModel) (t : ℕ) (a : A) → Contains (replica_took t (map f rs)) a → Contains (flat_map f rs) a
  into_all [] t a c = absurd (omega (arith, c.1))
  into_all (r ∷ rs) zero a c = Contains-append_left (f r) (flat_map f rs) a c
  into_all (r ∷ rs) (suc t) a c = Contains-append_right (f r) (flat_map f rs) a (into_all rs t a c)

  pub beyond : (rs : List ReplicaModel) (k : ℕ) → length rs ≤ k → replica_took k (map f rs) ≡ []
  beyond [] k le = refl
  beyond (r ∷ rs) zero le = absurd (omega (arith, le))
  beyond (r ∷ rs) (suc k) le = beyond rs k (omega (arith, le))

  pub all_alike : (g : ReplicaModel → ReplicaModel) (X : List A) → ((r : ReplicaModel) → f (g r) ≡ X) → (rs : List ReplicaModel) (k : ℕ) → k < length rs → replica_took k (map f (map g rs)) ≡ X
  all_alike g X h [] k lt = absurd (omega (arith, lt))
  all_alike g X h (r ∷ rs) zero lt = h r
  all_alike g X h (r ∷ rs) (suc k) lt = all_alike g X h rs k (omega (arith, lt))

  pub beyond_alike : (g : ReplicaModel → ReplicaModel) (rs : List ReplicaModel) (k : ℕ) → length rs ≤ k → replica_took k (map f (map g rs)) ≡ []
  beyond_alike g [] k le = refl
  beyond_alike g (r ∷ rs) zero le = absurd (omega (arith, le))
  beyond_alike g (r ∷ rs) (suc k) le = beyond_alike g rs k (omega (arith, le))

  -- one that took nothing adds nothing
  pub pushed : (rs : List ReplicaModel) (r : ReplicaModel) → f r ≡ [] → (k : ℕ) → replica_took k (map f (rs ++ r ∷ [])) ≡ replica_took k (map f rs)
  pushed [] r e zero = e
  pushed [] r e (suc k) = refl
  pushed (q ∷ rs) r e zero = refl
  pushed (q ∷ rs) r e (suc k) = pushed rs r e k
