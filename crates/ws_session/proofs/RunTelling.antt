-- What a run tells of the replicas of a session, and of those of the world.
use Rattle.std.proofs.Common.{◌≡◌, ℕ, List, [], ◌∷◌, Option, None, Some, true, false, Bool, cond, refl, sym, ap, subst, inl, inr}
use Rattle.std.specs.List.{flat_map, Contains}
use Rattle.std.specs.Str.{bytes_eq, is_utf8}
use Rattle.std.proofs.lemmas.List.Elements.{Contains-append_left, Contains-append_right}
use Rattle.go_text.specs.declared.edition.Edition.{Edition}
use Rattle.ws_action.specs.Actions.{Action}
use Rattle.ws_action.specs.Clash.{hashed_actions}
use Rattle.ws_replica.specs.Reports.{TargetBuild, IsTargetBuild, actions_of}
use Rattle.go_vm.specs.Outcomes.{ProgramOutcome}
use Rattle.ws_session.specs.declared.replicas.SessionReplica.{SessionReplica}
use Rattle.ws_command.specs.declared.refusal.Refusal.TheVariants.{Unknown, NoPackage, NotBuilt}
use Rattle.ws_command.specs.Commands.{Run}
use Rattle.ws_command.specs.Refusals.{first_of, refused}
use Rattle.ws_command.specs.RunPrinting.{run_text}
use Rattle.ws_session.specs.World.{World, ReplicaModel, replica_at, or_new, writes_of, actions_held, seeking, refusals, AfterBy, After, PrintsBy, Prints, PrintsRun, texts_of_replica}
use Rattle.ws_session.specs.Representation.{replica_index, AllRepresent, CommandResult, IsOutcome, RunOf, HasNoFilesAt, RanAt}
use Rattle.ws_session.proofs.Standings.{found}
use Rattle.ws_session.proofs.Settling.{knows_none, knows_some}
use Rattle.ws_session.proofs.Telling.{settled_tells, build_row, clear_sought}

-- what is printed for an outcome
abbrev pub printed : List ℕ → List ℕ → Option ProgramOutcome → List ℕ
printed name directory None = refused NotBuilt
printed name directory (Some outcome) = run_text name directory outcome.ending outcome.output

-- what is hashed of one replica is hashed of all
abbrev Among : List ReplicaModel → ReplicaModel → Type 0
Among rs r = (s : List ℕ) → Contains (texts_of_replica r) s → Contains (flat_map texts_of_replica rs) s

among_by : (name : List ℕ) (q : ReplicaModel) (rs : List ReplicaModel) (r : ReplicaModel) (b : Bool) → cond b (Some q) (replica_at name rs) ≡ Some r → (replica_at name rs ≡ Some r → Among rs r) → Among (q ∷ rs) r
among_by name q rs r true e later s c =
    let same : q ≡ r = cc in
    Contains-append_left (texts_of_replica q) (flat_map texts_of_replica rs) s (subst (λ z. Contains (texts_of_replica z) s) (sym same) c)
among_by name q rs r false e later s c = Contains-append_right (texts_of_replica q) (flat_map texts_of_replica rs) s (later e s c)

among : (name : List ℕ) (rs : List ReplicaModel) (r : ReplicaModel) → replica_at name rs ≡ Some r → Among rs r
among name [] r e = cc
among name (q ∷ rs) r e = among_by name q rs r (bytes_eq q.name name) e (among name rs r)

pub held_among : (name : List ℕ) (rs : List ReplicaModel) (r : ReplicaModel) → replica_at name rs ≡ Some r → (s : List ℕ) → Contains (hashed_actions r.actions) s → Contains (flat_map texts_of_replica rs) s
held_among name rs r e s c = among name rs r e s c

ran_of : (world : World) (name directory : List ℕ) (ticks : ℕ) (build : TargetBuild) (outcome : Option ProgramOutcome) (told : List ℕ) → IsOutcome world.edition ticks (actions_held name world) build outcome → told ≡ printed name directory outcome
    → PrintsRun name directory ticks world (Some build) told
ran_of world name directory ticks build None told o e = inr (o, e)
ran_of world name directory ticks build (Some outcome) told o e = inl (o.0, o.1, outcome.ending, outcome.output, o.2, e)

module _ (name directory : List ℕ) (ticks : ℕ) (text : Option (List ℕ)) (world : World) (ns : List SessionReplica) (h : AllRepresent ns world.replicas) where
  pub run_unknown : (told : List ℕ) → replica_index name ns ≡ None → told ≡ refused Unknown → CommandResult (Run name directory ticks) text world told ns
  run_unknown told e t = settled_tells (Run name directory ticks) text world (Some Unknown) told ns (λ _ q. q) t
      (record { refuses = build_row _ _ false _ (knows_none name world ns h e) refl; next = world; after = refl; edition = refl; stand = h })

  module _ (k : ℕ) (e : replica_index name ns ≡ Some k) where
    pub run_word : (told : List ℕ) → is_utf8 directory ≡ false → told ≡ refused NoPackage → CommandResult (Run name directory ticks) text world told ns
    run_word told u t = settled_tells (Run name directory ticks) text world (Some NoPackage) told ns (λ _ q. q) t
        (record { refuses = build_row _ _ true false (knows_some name k world ns h e) u; next = world; after = refl; edition = refl; stand = h })

    writes_are : writes_of name world ≡ (found name k ns world.replicas h e).replica.writes
    writes_are = ap (λ o. (or_new o).writes) (found name k ns world.replicas h e).at

    actions_are : actions_held name world ≡ (found name k ns world.replicas h e).replica.actions
    actions_are = ap (λ o. (or_new o).actions) (found name k ns world.replicas h e).at

    allowed : is_utf8 directory ≡ true → first_of (refusals (Run name directory ticks) text world) ≡ None
    allowed u = build_row _ _ true true (knows_some name k world ns h e) u

    pub run_none : (told : List ℕ) → is_utf8 directory ≡ true → told ≡ refused NoPackage
        → HasNoFilesAt world.edition directory ns k → CommandResult (Run name directory ticks) text world told ns
    unfolding After Prints
    run_none told u t none =
        let f = found name k ns world.replicas h e in
        let r = f.replica in
        let s = f.stands f.one f.is in
        let build : IsTargetBuild world.edition (writes_of name world) directory None = subst (λ W. IsTargetBuild world.edition W directory None) (sym writes_are) (none f.one r.writes r.actions f.is s.holds) in
        record {
          next = seeking world [];
          after = subst (λ z. AfterBy z (Run name directory ticks) text world (seeking world [])) (sym (allowed u)) (None, build, refl);
          edition = refl;
          clear = λ _. (subst (λ z. PrintsBy z (Run name directory ticks) world told) (sym (allowed u)) (None, build, t), h);
        }

    pub run_told : (edition : Edition) (outcome : Option ProgramOutcome) (told : List ℕ) → edition ≡ world.edition → is_utf8 directory ≡ true
        → told ≡ printed name directory outcome → RanAt edition directory ticks ns k outcome → CommandResult (Run name directory ticks) text world told ns
    unfolding After Prints
    run_told edition outcome told same u t ran =
        let f = found name k ns world.replicas h e in
        let r = f.replica in
        let s = f.stands f.one f.is in
        let b = subst (λ n. RunOf n directory ticks r.writes r.actions outcome) same (ran f.one r.writes r.actions f.is s.holds s.sized) in
        let sought : List Action = actions_of world.edition b.build in
        let next : World = seeking world sought in
        let build : IsTargetBuild world.edition (writes_of name world) directory (Some b.build) = subst (λ W. IsTargetBuild world.edition W directory (Some b.build)) (sym writes_are) b.are in
        record {
          next = next;
          after = subst (λ z. AfterBy z (Run name directory ticks) text world next) (sym (allowed u)) (Some b.build, build, refl);
          edition = refl;
          clear = λ clear.
              let o = subst (λ E. IsOutcome world.edition ticks E b.build outcome) (sym actions_are) (b.ran (clear_sought r.actions sought world (held_among name world.replicas r f.at) clear)) in (
                subst (λ z. PrintsBy z (Run name directory ticks) world told) (sym (allowed u)) (Some b.build, build, ran_of world name directory ticks b.build outcome told o t),
                h,
              );
        }
