-- What removals and foreign writes make of the replicas of a session, and what of those of the world.
use Rattle.std.proofs.Common.{◌≡◌, ℕ, List, [], ◌∷◌, ◌++◌, Option, None, Some, true, false, Bool, not, refl, sym, ap, ◌∙◌, cond, subst, append-nil}
use Rattle.std.proofs.Math.ListN.{set}
use Rattle.std.specs.Prelude.{◌==◌}
use Rattle.std.specs.Option.{option_map}
use Rattle.std.specs.List.{Contains}
use Rattle.ws_version.specs.Writes.{Write as AWrite}
use Rattle.ws_path.specs.Paths.{is_path}
use Rattle.ws_register.specs.Edits.{removed, removal_refusal, greatest_at, is_missing}
use Rattle.ws_register.specs.declared.EditError.{EditError}
use Rattle.ws_register.specs.declared.EditError.TheVariants as edits
use Rattle.ws_register.specs.Sources.{top}
use Rattle.ws_replica.specs.Holdings.{ReplicaStandsFor}
use Rattle.ws_session.specs.declared.replicas.SessionReplica.{SessionReplica}
use Rattle.ws_command.specs.declared.refusal.Refusal.{Refusal}
use Rattle.ws_command.specs.declared.refusal.Refusal.TheVariants.{Unknown, BadPath, NoFile, CounterFull, BadText}
use Rattle.ws_command.specs.Commands.{Remove, Apply}
use Rattle.ws_session.specs.World.{World, replica_at, or_new, knows, writes_of, taking, grown_by, with_replicas, removal_of, is_path_word, is_content, content_in}
use Rattle.ws_session.specs.Representation.{replica_index, RepresentsReplica, AllRepresent, Settles, ChangedAt, RemovedOr, Removal, removal_row, Applied}
use Rattle.ws_session.proofs.Standings.{found}
use Rattle.ws_session.proofs.Settling.{refused_settles, knows_none, knows_some}

-- how a refusal of registers is told
abbrev pub told_as : EditError → Refusal
told_as edits.BadPath = BadPath
told_as edits.NoFile = NoFile
told_as edits.CounterFull = CounterFull
told_as edits.Memory = BadPath

same_row : (missing full : Bool) → cond missing (Some NoFile) (cond full (Some CounterFull) None) ≡ option_map told_as (cond missing (Some edits.NoFile) (cond full (Some edits.CounterFull) None))
same_row true full = refl
same_row false true = refl
same_row false false = refl

-- what registers answer of a path that is one is what a session says
pub row_of_refusal : (path : List ℕ) (W : List AWrite) (r : Option EditError) → is_path path ≡ true → removal_refusal (top W) path (greatest_at path W) ≡ r → removal_row path W ≡ option_map told_as r
row_of_refusal path W r is e =
    let rest = cond (is_missing (greatest_at path W)) (Some edits.NoFile) (cond (top W == 18446744073709551615) (Some edits.CounterFull) None) in
    same_row (is_missing (greatest_at path W)) (top W == 18446744073709551615)
    ∙ ap (option_map told_as) (sym (ap (λ b. cond (not b) (Some edits.BadPath) rest) is) ∙ e)

removal_rows : (a b a' b' : Bool) (r : Option Refusal) → a ≡ a' → b ≡ b' → cond a (Some Unknown) (cond b (Some BadPath) r) ≡ cond a' (Some Unknown) (cond b' (Some BadPath) r)
removal_rows a b a' b' r e f = ap (λ z. cond z (Some Unknown) (cond b (Some BadPath) r)) e ∙ ap (λ z. cond a' (Some Unknown) (cond z (Some BadPath) r)) f

abbrev content_row : Bool → Bool → Bool → Option Refusal
content_row a b c = cond a (Some Unknown) (cond b (Some BadPath) (cond c (Some BadText) None))

content_rows : (a b c a' b' c' : Bool) → a ≡ a' → b ≡ b' → c ≡ c' → content_row a b c ≡ content_row a' b' c'
content_rows a b c a' b' c' e f g = ap (λ z. content_row z b c) e ∙ ap (λ z. content_row a' z c) f ∙ ap (λ z. content_row a' b' z) g

module _ (name : List ℕ) (world : World) (ns : List SessionReplica) (h : AllRepresent ns world.replicas) (k : ℕ) (e : replica_index name ns ≡ Some k) where
  -- the replica of the name took one write more
  took_write : (w : AWrite) (changed : SessionReplica) (ms : List SessionReplica) → ms ≡ set ns k changed
      → changed.name.items ≡ (found name k ns world.replicas h e).one.name.items → changed.number ≡ (found name k ns world.replicas h e).one.number
      → ReplicaStandsFor changed.replica ((found name k ns world.replicas h e).replica.writes ++ w ∷ []) (found name k ns world.replicas h e).replica.actions
      → AllRepresent ms (taking name (w ∷ []) [] world.replicas)
  took_write w changed ms is same_name same_number holds =
      let f = found name k ns world.replicas h e in
      let r = f.replica in
      let s = f.stands f.one f.is in
      let stand : RepresentsReplica changed (grown_by r (w ∷ []) []) = record {
        name = same_name ∙ s.name;
        number = same_number ∙ s.number;
        holds = subst (λ E. ReplicaStandsFor changed.replica (r.writes ++ w ∷ []) E) (sym (append-nil r.actions)) holds;
        sized = λ a c. s.sized a (subst (λ E. Contains E a) (append-nil r.actions) c);
      } in
      subst (λ z. AllRepresent z (taking name (w ∷ []) [] world.replicas)) (sym is) (f.grows changed (w ∷ []) [] stand)

module _ (name path : List ℕ) (text : Option (List ℕ)) (world : World) (ns : List SessionReplica) (h : AllRepresent ns world.replicas) where
  pub remove_unknown : replica_index name ns ≡ None → Settles (Remove name path) text world (Some Unknown) ns
  remove_unknown e = refused_settles (Remove name path) text world Unknown ns (removal_rows (not (knows name world)) (not (is_path_word path)) true (not (is_path_word path)) (removal_row path (writes_of name world)) (ap not (knows_none name world ns h e)) refl) h

  module _ (k : ℕ) (e : replica_index name ns ≡ Some k) where
    pub remove_path : is_path_word path ≡ false → Settles (Remove name path) text world (Some BadPath) ns
    remove_path f = refused_settles (Remove name path) text world BadPath ns (removal_rows _ _ false true _ (ap not (knows_some name k world ns h e)) (ap not f)) h

    -- what the definition reads of the replica is what the code keeps
    writes_are : writes_of name world ≡ (found name k ns world.replicas h e).replica.writes
    writes_are = ap (λ o. (or_new o).writes) (found name k ns world.replicas h e).at

    removal_is : removed (top (found name k ns world.replicas h e).replica.writes) (found name k ns world.replicas h e).one.number ≡ (removal_of name path world).1
    removal_is =
        let f = found name k ns world.replicas h e in
        let numbers : f.one.number ≡ (or_new (replica_at name world.replicas)).number = (f.stands f.one f.is).number ∙ sym (ap (λ o. (or_new o).number) f.at) in
        ap (removed (top f.replica.writes)) numbers ∙ ap (λ V. removed (top V) (or_new (replica_at name world.replicas)).number) (sym writes_are)

    removed_or : (refusal : Option Refusal) (ms : List SessionReplica) → is_path_word path ≡ true → removal_row path (writes_of name world) ≡ refusal → RemovedOr path ns k refusal ms → Settles (Remove name path) text world refusal ms
    removed_or None ms p row change =
        let f = found name k ns world.replicas h e in
        let r = f.replica in
        let took = change.so f.one f.is in
        let w : AWrite = removal_of name path world in
        record {
          refuses = removal_rows _ _ false false _ (ap not (knows_some name k world ns h e)) (ap not p) ∙ row;
          next = with_replicas world (taking name (w ∷ []) [] world.replicas);
          after = refl;
          edition = refl;
          stand = took_write name world ns h k e w change.changed ms change.is took.name took.number
              (subst (λ x. ReplicaStandsFor change.changed.replica (r.writes ++ (path, x) ∷ []) r.actions) removal_is (took.holds r.writes r.actions (f.stands f.one f.is).holds));
        }
    removed_or (Some refusal) ms p row change =
        refused_settles (Remove name path) text world refusal ms (removal_rows _ _ false false _ (ap not (knows_some name k world ns h e)) (ap not p) ∙ row) (subst (λ z. AllRepresent z world.replicas) (sym change) h)

    -- a removal by the replica there, refused or not
    pub removal : (refusal : Option Refusal) (ms : List SessionReplica) → is_path_word path ≡ true → Removal path ns k refusal ms → Settles (Remove name path) text world refusal ms
    removal refusal ms p of =
        let f = found name k ns world.replicas h e in
        removed_or refusal ms p (ap (removal_row path) writes_are ∙ of.refuses f.one f.replica.writes f.replica.actions f.is (f.stands f.one f.is).holds) of.changes

module _ (name path : List ℕ) (counter number : ℕ) (lines : Option ℕ) (text : Option (List ℕ)) (world : World) (ns : List SessionReplica) (h : AllRepresent ns world.replicas) where
  pub apply_unknown : replica_index name ns ≡ None → Settles (Apply name path counter number lines) text world (Some Unknown) ns
  apply_unknown e = refused_settles (Apply name path counter number lines) text world Unknown ns (content_rows _ _ _ true _ _ (ap not (knows_none name world ns h e)) refl refl) h

  module _ (k : ℕ) (e : replica_index name ns ≡ Some k) where
    pub apply_path : is_path_word path ≡ false → Settles (Apply name path counter number lines) text world (Some BadPath) ns
    apply_path f = refused_settles (Apply name path counter number lines) text world BadPath ns (content_rows _ _ _ false true _ (ap not (knows_some name k world ns h e)) (ap not f) refl) h

    pub apply_content : is_path_word path ≡ true → is_content world.edition lines text ≡ false → Settles (Apply name path counter number lines) text world (Some BadText) ns
    apply_content p c = refused_settles (Apply name path counter number lines) text world BadText ns (content_rows _ _ _ false false true (ap not (knows_some name k world ns h e)) (ap not p) (ap not c)) h

    pub applied : (content : Option (List ℕ)) (ms : List SessionReplica) → is_path_word path ≡ true → is_content world.edition lines text ≡ true → content ≡ content_in lines text
        → ChangedAt (Applied (path, record { counter = counter; number = number; text = content })) ns k ms → Settles (Apply name path counter number lines) text world None ms
    applied content ms p c is change =
        let f = found name k ns world.replicas h e in
        let r = f.replica in
        let took = change.so f.one f.is in
        let w : AWrite = (path, record { counter = counter; number = number; text = content_in lines text }) in
        record {
          refuses = content_rows _ _ _ false false false (ap not (knows_some name k world ns h e)) (ap not p) (ap not c);
          next = with_replicas world (taking name (w ∷ []) [] world.replicas);
          after = refl;
          edition = refl;
          stand = took_write name world ns h k e w change.changed ms change.is took.name took.number
              (subst (λ x. ReplicaStandsFor change.changed.replica (r.writes ++ (path, record { counter = counter; number = number; text = x }) ∷ []) r.actions) is (took.holds r.writes r.actions (f.stands f.one f.is).holds));
        }
