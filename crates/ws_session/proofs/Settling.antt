-- What a command makes of the replicas of a session, and what of those of the world.
use Rattle.std.proofs.Common.{◌≡◌, ◌<◌, ◌≤◌, ◌+◌, ℕ, List, [], ◌∷◌, ◌++◌, Option, None, Some, true, false, Bool, not, refl, sym, ap, ◌∙◌, cond, subst, length, get_or, append-nil, arith}
use Rattle.std.specs.Prelude.{is_some, nat_lt, ◌&&◌, unwrap_or}
use Rattle.std.proofs.lemmas.Bool.{lt-ltb, le-ltb, eq-eqb, false_from_ne_true, eqb-true}
use Rattle.std.proofs.Common.{inl, inr}
use Rattle.std.proofs.lemmas.List.Elements.{Contains-append_cases}
use Rattle.ws_version.specs.Writes.{Write as AWrite}
use Rattle.ws_register.specs.Sources.{top}
use Rattle.ws_action.specs.Actions.{Action}
use Rattle.ws_action.specs.Clash.{AllSized}
use Rattle.ws_replica.specs.Holdings.{ReplicaStandsFor}
use Rattle.ws_session.specs.declared.replicas.SessionReplica.{SessionReplica}
use Rattle.ws_command.specs.declared.refusal.Refusal.{Refusal}
use Rattle.ws_command.specs.declared.refusal.Refusal.TheVariants.{BadCommand, Unknown, Exists, BadPath, CounterFull, BadText}
use Rattle.ws_command.specs.Commands.{Command, Create, Write, Merge}
use Rattle.ws_command.specs.Refusals.{first_of}
use Rattle.ws_session.specs.World.{World, ReplicaModel, replica_at, or_new, knows, writes_of, taking, grown_by, with_replicas, edit_of, refusals, is_whole_text, is_path_word}
use Rattle.ws_session.specs.Representation.{replica_index, RepresentsReplica, AllRepresent, Settles, ChangedAt, Edited}
use Rattle.ws_session.proofs.Standings.{found, not_found, same_length, stands_push}

-- a refused command changes nothing
pub refused_settles : (command : Command) (text : Option (List ℕ)) (world : World) (refusal : Refusal) (ns : List SessionReplica) → first_of (refusals command text world) ≡ Some refusal → AllRepresent ns world.replicas → Settles command text world (Some refusal) ns
refused_settles command text world refusal ns e h = record { refuses = e; next = world; after = refl; edition = refl; stand = h }

pub knows_none : (name : List ℕ) (world : World) (ns : List SessionReplica) → AllRepresent ns world.replicas → replica_index name ns ≡ None → knows name world ≡ false
knows_none name world ns h e = ap (λ (o : Option ReplicaModel). is_some o) (not_found name ns world.replicas h e)

pub knows_some : (name : List ℕ) (k : ℕ) (world : World) (ns : List SessionReplica) → AllRepresent ns world.replicas → replica_index name ns ≡ Some k → knows name world ≡ true
knows_some name k world ns h e = ap (λ (o : Option ReplicaModel). is_some o) (found name k ns world.replicas h e).at

-- ---- a new replica

first_two : (a b c d : Bool) (x y : Refusal) → a ≡ c → b ≡ d → first_of ((a, x) ∷ (b, y) ∷ []) ≡ first_of ((c, x) ∷ (d, y) ∷ [])
first_two a b c d x y e f = ap (λ z. cond z (Some x) (cond b (Some y) None)) e ∙ ap (λ z. cond c (Some x) (cond z (Some y) None)) f

pub create_full : (name : List ℕ) (text : Option (List ℕ)) (world : World) (ns : List SessionReplica) → 64 ≤ length ns → AllRepresent ns world.replicas → Settles (Create name) text world (Some BadCommand) ns
create_full name text world ns le h =
    let full : nat_lt 63 (length world.replicas) ≡ true = lt-ltb 63 (length world.replicas) (omega (arith, same_length ns world.replicas h)) in
    refused_settles (Create name) text world BadCommand ns (ap (λ z. cond z (Some BadCommand) (cond (knows name world) (Some Exists) None)) full) h

not_full : (world : World) (ns : List SessionReplica) → length ns < 64 → AllRepresent ns world.replicas → nat_lt 63 (length world.replicas) ≡ false
not_full world ns lt h = le-ltb 63 (length world.replicas) (omega (arith, same_length ns world.replicas h))

pub create_exists : (name : List ℕ) (k : ℕ) (text : Option (List ℕ)) (world : World) (ns : List SessionReplica) → length ns < 64 → replica_index name ns ≡ Some k → AllRepresent ns world.replicas → Settles (Create name) text world (Some Exists) ns
create_exists name k text world ns lt e h =
    refused_settles (Create name) text world Exists ns (first_two _ _ false true BadCommand Exists (not_full world ns lt h) (knows_some name k world ns h e)) h

pub created : (name : List ℕ) (text : Option (List ℕ)) (world : World) (ns : List SessionReplica) (n : SessionReplica) → length ns < 64 → replica_index name ns ≡ None → AllRepresent ns world.replicas
    → n.name.items ≡ name → n.number ≡ length ns + 1 → ReplicaStandsFor n.replica [] [] → AllSized [] → Settles (Create name) text world None (ns ++ n ∷ [])
created name text world ns n lt e h same number holds sized =
    let r : ReplicaModel = record { name = name; number = length world.replicas + 1; writes = []; actions = [] } in
    record {
      refuses = first_two _ _ false false BadCommand Exists (not_full world ns lt h) (knows_none name world ns h e);
      next = with_replicas world (world.replicas ++ r ∷ []);
      after = refl;
      edition = refl;
      stand = stands_push ns world.replicas n r h (record { name = same; number = number ∙ ap (λ k. k + 1) (same_length ns world.replicas h); holds = holds; sized = sized });
    }

-- ---- a write

abbrev write_row : Bool → Bool → Bool → Bool → Option Refusal
write_row a b c d = cond a (Some Unknown) (cond b (Some BadPath) (cond c (Some CounterFull) (cond d (Some BadText) None)))

write_rows : (a b c d a' b' c' d' : Bool) → a ≡ a' → b ≡ b' → c ≡ c' → d ≡ d' → write_row a b c d ≡ write_row a' b' c' d'
write_rows a b c d a' b' c' d' e f g h = ap (λ z. write_row z b c d) e ∙ ap (λ z. write_row a' z c d) f ∙ ap (λ z. write_row a' b' z d) g ∙ ap (λ z. write_row a' b' c' z) h

module _ (name path : List ℕ) (lines : ℕ) (text : Option (List ℕ)) (world : World) (ns : List SessionReplica) (h : AllRepresent ns world.replicas) where
  pub write_unknown : replica_index name ns ≡ None → Settles (Write name path lines) text world (Some Unknown) ns
  write_unknown e = refused_settles (Write name path lines) text world Unknown ns (write_rows _ _ _ _ true _ _ _ (ap not (knows_none name world ns h e)) refl refl refl) h

  module _ (k : ℕ) (e : replica_index name ns ≡ Some k) where
    known : not (knows name world) ≡ false
    known = ap not (knows_some name k world ns h e)

    pub write_path : is_path_word path ≡ false → Settles (Write name path lines) text world (Some BadPath) ns
    write_path f = refused_settles (Write name path lines) text world BadPath ns (write_rows _ _ _ _ false true _ _ known (ap not f) refl refl) h

    pub write_full : is_path_word path ≡ true → top (writes_of name world) ≡ 18446744073709551615 → Settles (Write name path lines) text world (Some CounterFull) ns
    write_full f g = refused_settles (Write name path lines) text world CounterFull ns (write_rows _ _ _ _ false false true _ known (ap not f) (eq-eqb _ _ g) refl) h

    pub write_text : is_path_word path ≡ true → (top (writes_of name world) ≡ 18446744073709551615 → ⊥) → is_whole_text world.edition text ≡ false → Settles (Write name path lines) text world (Some BadText) ns
    write_text f g t = refused_settles (Write name path lines) text world BadText ns (write_rows _ _ _ _ false false false true known (ap not f) (false_from_ne_true _ (λ q. g (eqb-true _ _ q))) (ap not t)) h

    -- what the definition reads of the replica is what the code keeps
    writes_are : writes_of name world ≡ (found name k ns world.replicas h e).replica.writes
    writes_are = ap (λ o. (or_new o).writes) (found name k ns world.replicas h e).at

    pub top_is : (n : ℕ) → ((one : SessionReplica) (W : List AWrite) (E : List Action) → one ≡ get_or ns k one → ReplicaStandsFor one.replica W E → n ≡ top W) → n ≡ top (writes_of name world)
    top_is n tops =
        let f = found name k ns world.replicas h e in
        tops f.one f.replica.writes f.replica.actions f.is (f.stands f.one f.is).holds ∙ ap top (sym writes_are)

    pub written : (bytes : List ℕ) (ms : List SessionReplica) → is_path_word path ≡ true → (top (writes_of name world) ≡ 18446744073709551615 → ⊥) → is_whole_text world.edition text ≡ true → Some bytes ≡ text → ChangedAt (Edited path bytes) ns k ms → Settles (Write name path lines) text world None ms
    written bytes ms p g t b change =
        let f = found name k ns world.replicas h e in
        let r = f.replica in
        let s = f.stands f.one f.is in
        let edited = change.so f.one f.is in
        let w : AWrite = edit_of name path (unwrap_or text []) world in
        let same : AWrite = (path, record { counter = top r.writes + 1; number = f.one.number; text = Some bytes }) in
        let texts : bytes ≡ unwrap_or text [] = ap (λ (t : Option (List ℕ)). unwrap_or t []) b in
        let numbers : f.one.number ≡ (or_new (replica_at name world.replicas)).number = s.number ∙ sym (ap (λ o. (or_new o).number) f.at) in
        let is : same ≡ w =
        ap (λ n. let x : AWrite = (path, record { counter = top r.writes + 1; number = n; text = Some bytes }) in x) numbers
        ∙ ap (λ q. let x : AWrite = (path, record { counter = top r.writes + 1; number = (or_new (replica_at name world.replicas)).number; text = Some q }) in x) texts
        ∙ ap (λ V. let x : AWrite = (path, record { counter = top V + 1; number = (or_new (replica_at name world.replicas)).number; text = Some (unwrap_or text []) }) in x) (sym writes_are) in
        let stand : RepresentsReplica change.changed (grown_by r (w ∷ []) []) = record {
          name = edited.name ∙ s.name;
          number = edited.number ∙ s.number;
          holds = subst (λ E. ReplicaStandsFor change.changed.replica (r.writes ++ w ∷ []) E) (sym (append-nil r.actions)) (subst (λ x. ReplicaStandsFor change.changed.replica (r.writes ++ x ∷ []) r.actions) is (edited.holds r.writes r.actions s.holds));
          sized = subst AllSized (sym (append-nil r.actions)) s.sized;
        } in
        record {
          refuses = write_rows _ _ _ _ false false false false known (ap not p) (false_from_ne_true _ (λ q. g (eqb-true _ _ q))) (ap not t);
          next = with_replicas world (taking name (w ∷ []) [] world.replicas);
          after = refl;
          edition = refl;
          stand = subst (λ z. AllRepresent z (taking name (w ∷ []) [] world.replicas)) (sym change.is) (f.grows change.changed (w ∷ []) [] stand);
        }

-- ---- a merge

pub sized_both : (E F : List Action) → AllSized E → AllSized F → AllSized (E ++ F)
sized_both E F h k a c = elim (Contains-append_cases E F a c) [ inl l ↦ h a l | inr r ↦ k a r ]

pub merge_row : (a b : Bool) → a ≡ b → first_of ((not a, Unknown) ∷ []) ≡ cond (not b) (Some Unknown) None
merge_row a b e = ap (λ z. cond (not z) (Some Unknown) None) e

module _ (name other : List ℕ) (text : Option (List ℕ)) (world : World) (ns : List SessionReplica) (h : AllRepresent ns world.replicas) where
  pub merge_unknown : replica_index name ns ≡ None → Settles (Merge name other) text world (Some Unknown) ns
  merge_unknown e = refused_settles (Merge name other) text world Unknown ns (merge_row _ false (ap (λ z. z && knows other world) (knows_none name world ns h e))) h

  module _ (k : ℕ) (e : replica_index name ns ≡ Some k) where
    pub merge_other_unknown : replica_index other ns ≡ None → Settles (Merge name other) text world (Some Unknown) ns
    merge_other_unknown f = refused_settles (Merge name other) text world Unknown ns
        (merge_row _ false (ap (λ z. z && knows other world) (knows_some name k world ns h e) ∙ knows_none other world ns h f)) h
