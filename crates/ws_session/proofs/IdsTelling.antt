-- What ids tell of the replicas of a session, and of those of the world.
use Rattle.std.proofs.Common.{◌≡◌, ℕ, List, [], Option, None, Some, true, false, refl, sym, ap, subst}
use Rattle.std.specs.Str.{is_utf8}
use Rattle.go_text.specs.declared.edition.Edition.{Edition}
use Rattle.ws_action.specs.Actions.{Action}
use Rattle.ws_replica.specs.Reports.{IsTargetBuild, actions_of}
use Rattle.ws_replica.specs.Ids.{AreIdRows, AreIds}
use Rattle.ws_report.specs.declared.IdStatus.{IdStatus}
use Rattle.ws_session.specs.declared.replicas.SessionReplica.{SessionReplica}
use Rattle.ws_command.specs.declared.refusal.Refusal.TheVariants.{Unknown, NoPackage}
use Rattle.ws_command.specs.Commands.{Ids}
use Rattle.ws_command.specs.IdsPrinting.{ids_text}
use Rattle.ws_command.specs.Refusals.{first_of, refused}
use Rattle.ws_session.specs.World.{World, or_new, writes_of, actions_held, seeking, refusals, AfterBy, After, PrintsBy, Prints}
use Rattle.ws_session.specs.Representation.{replica_index, AllRepresent, CommandResult, HasNoFilesAt, AreIdsAt}
use Rattle.ws_session.proofs.Standings.{found}
use Rattle.ws_session.proofs.Settling.{knows_none, knows_some}
use Rattle.ws_session.proofs.Telling.{settled_tells, build_row, clear_sought}
use Rattle.ws_session.proofs.RunTelling.{held_among}

module _ (name directory : List ℕ) (text : Option (List ℕ)) (world : World) (ns : List SessionReplica) (h : AllRepresent ns world.replicas) where
  pub ids_unknown : (told : List ℕ) → replica_index name ns ≡ None → told ≡ refused Unknown → CommandResult (Ids name directory) text world told ns
  ids_unknown told e t = settled_tells (Ids name directory) text world (Some Unknown) told ns (λ _ q. q) t
      (record { refuses = build_row _ _ false _ (knows_none name world ns h e) refl; next = world; after = refl; edition = refl; stand = h })

  module _ (k : ℕ) (e : replica_index name ns ≡ Some k) where
    pub ids_word : (told : List ℕ) → is_utf8 directory ≡ false → told ≡ refused NoPackage → CommandResult (Ids name directory) text world told ns
    ids_word told u t = settled_tells (Ids name directory) text world (Some NoPackage) told ns (λ _ q. q) t
        (record { refuses = build_row _ _ true false (knows_some name k world ns h e) u; next = world; after = refl; edition = refl; stand = h })

    writes_are : writes_of name world ≡ (found name k ns world.replicas h e).replica.writes
    writes_are = ap (λ o. (or_new o).writes) (found name k ns world.replicas h e).at

    actions_are : actions_held name world ≡ (found name k ns world.replicas h e).replica.actions
    actions_are = ap (λ o. (or_new o).actions) (found name k ns world.replicas h e).at

    allowed : is_utf8 directory ≡ true → first_of (refusals (Ids name directory) text world) ≡ None
    allowed u = build_row _ _ true true (knows_some name k world ns h e) u

    pub ids_none : (told : List ℕ) → is_utf8 directory ≡ true → told ≡ refused NoPackage
        → HasNoFilesAt world.edition directory ns k → CommandResult (Ids name directory) text world told ns
    unfolding After Prints
    ids_none told u t none =
        let f = found name k ns world.replicas h e in
        let r = f.replica in
        let s = f.stands f.one f.is in
        let build : IsTargetBuild world.edition (writes_of name world) directory None = subst (λ W. IsTargetBuild world.edition W directory None) (sym writes_are) (none f.one r.writes r.actions f.is s.holds) in
        record {
          next = seeking world [];
          after = subst (λ z. AfterBy z (Ids name directory) text world (seeking world [])) (sym (allowed u)) (None, build, refl);
          edition = refl;
          clear = λ _. (subst (λ z. PrintsBy z (Ids name directory) world told) (sym (allowed u)) (None, build, t), h);
        }

    pub ids_told : (edition : Edition) (rows : List (List ℕ × IdStatus)) (told : List ℕ) → edition ≡ world.edition → is_utf8 directory ≡ true
        → told ≡ ids_text name directory rows → AreIdsAt edition directory ns k rows → CommandResult (Ids name directory) text world told ns
    unfolding After Prints
    ids_told edition rows told same u t are =
        let f = found name k ns world.replicas h e in
        let r = f.replica in
        let s = f.stands f.one f.is in
        let b = subst (λ n. AreIds n r.writes r.actions directory rows) same (are f.one r.writes r.actions f.is s.holds s.sized) in
        let sought : List Action = actions_of world.edition b.build in
        let next : World = seeking world sought in
        let build : IsTargetBuild world.edition (writes_of name world) directory (Some b.build) = subst (λ W. IsTargetBuild world.edition W directory (Some b.build)) (sym writes_are) b.are in
        record {
          next = next;
          after = subst (λ z. AfterBy z (Ids name directory) text world next) (sym (allowed u)) (Some b.build, build, refl);
          edition = refl;
          clear = λ clear.
              let listed = subst (λ E. AreIdRows world.edition E b.build rows) (sym actions_are) (b.right (clear_sought r.actions sought world (held_among name world.replicas r f.at) clear)) in (
                subst (λ z. PrintsBy z (Ids name directory) world told) (sym (allowed u)) (Some b.build, build, (rows, listed, t)),
                h,
              );
        }
