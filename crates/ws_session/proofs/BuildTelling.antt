-- What builds tell of the replicas of a session, and of those of the world.
use Rattle.std.proofs.Common.{◌≡◌, ℕ, List, [], ◌∷◌, ◌++◌, map, zip, Option, None, Some, not, refl, sym, ap, ◌∙◌, cond, subst}
use Rattle.std.specs.Prelude.{is_some, ◌&&◌}
use Rattle.std.specs.List.{AllZip, Contains, flat_map, list_any, list_all}
use Rattle.std.specs.Str.{bytes_eq, is_utf8}
use Rattle.go_text.specs.declared.edition.Edition.{Edition}
use Rattle.ws_action.specs.Actions.{Action}
use Rattle.ws_action.specs.Clash.{NoClash, AllSized, hashed_actions}
use Rattle.ws_action.proofs.Members.{later, at_head}
use Rattle.ws_cache.specs.Count.{compiled_count}
use Rattle.ws_replica.specs.Builds as numbered
use Rattle.ws_replica.specs.Builds.{LacksPackage, AreBuilt, AreRight}
use Rattle.ws_replica.specs.Holdings.{Took, AllStandFor}
use Rattle.ws_replica.specs.Reports.{TargetBuild, all_actions, report_of}
use Rattle.ws_report.specs.declared.Report.{Report}
use Rattle.ws_report.specs.Reports.{verdict_rows, DirectoryVerdict}
use Rattle.ws_session.specs.declared.replicas.SessionReplica.{SessionReplica}
use Rattle.ws_command.specs.declared.refusal.Refusal.{Refusal}
use Rattle.ws_command.specs.declared.refusal.Refusal.TheVariants.{Unknown, NoPackage}
use Rattle.ws_command.specs.Commands.{Build}
use Rattle.ws_command.specs.Refusals.{first_of, refused}
use Rattle.ws_command.specs.Printing.{report_text}
use Rattle.ws_session.specs.World.{World, knows, AreBuilds, held_by, after_builds, target_report, builds_text, refusals, AfterBy, After, PrintsBy, Prints}
use Rattle.ws_session.specs.Representation.{replica_index, AllRepresent, AreApart, replica_names, IsTarget, targets_row, replicas_of, Built, report_line, CommandResult, AreCompiled, CountedResult}
use Rattle.ws_session.proofs.Building.{same_held, same_builds, no_builds, held_sized, same_tests, all_share, clear_builds}
use Rattle.ws_session.proofs.Settled.{took_of, all_stand_for, all_actions as taken_actions, all_sized}
use Rattle.ws_session.proofs.Settling.{sized_both}
use Rattle.ws_session.proofs.Standings.{known_index}
use Rattle.ws_session.proofs.Telling.{settled_tells, after_by}

-- ---- what is printed

one_line : (count : ℕ) (asked : List ℕ × List ℕ) (r : Report) (b : TargetBuild) → verdict_rows r.directories.items ≡ report_of b → r.compiled ≡ count → report_line (asked, r) ≡ target_report count (asked, b)
one_line count (name, directory) r b same counts =
    ap (λ z. report_text name directory z r.compiled) same ∙ ap (report_text name directory (report_of b)) counts

abbrev told_rows : List Report → List (List (List ℕ × DirectoryVerdict))
told_rows reports = map (λ (r : Report). verdict_rows r.directories.items) reports

abbrev build_rows : List TargetBuild → List (List (List ℕ × DirectoryVerdict))
build_rows all = map report_of all

first_rows : (r : Report) (b : TargetBuild) (reports : List Report) (all : List TargetBuild) → told_rows (r ∷ reports) ≡ build_rows (b ∷ all) → verdict_rows r.directories.items ≡ report_of b
first_rows r b reports all e = cc

later_rows : (r : Report) (b : TargetBuild) (reports : List Report) (all : List TargetBuild) → told_rows (r ∷ reports) ≡ build_rows (b ∷ all) → told_rows reports ≡ build_rows all
later_rows r b reports all e = cc

same_text : (count : ℕ) (asked : List (List ℕ × List ℕ)) (reports : List Report) (all : List TargetBuild) → told_rows reports ≡ build_rows all → ((r : Report) → Contains reports r → r.compiled ≡ count)
    → flat_map report_line (zip asked reports) ≡ flat_map (target_report count) (zip asked all)
same_text count [] reports all e counts = refl
same_text count (a ∷ asked) [] [] e counts = refl
same_text count (a ∷ asked) [] (b ∷ all) e counts = cc
same_text count (a ∷ asked) (r ∷ reports) [] e counts = cc
same_text count (a ∷ asked) (r ∷ reports) (b ∷ all) e counts =
    ap (λ t. t ++ flat_map report_line (zip asked reports)) (one_line count a r b (first_rows r b reports all e) (counts r (at_head reports r r refl)))
    ∙ ap (λ t. target_report count (a, b) ++ t) (same_text count asked reports all (later_rows r b reports all e) (λ q c. counts q (later r reports q c)))

-- ---- when a build is refused

all_known : (world : World) (ns : List SessionReplica) → AllRepresent ns world.replicas → (asked : List (List ℕ × List ℕ)) → list_all (λ t. knows t.0 world) asked ≡ list_all (λ t. is_some (replica_index t.0 ns)) asked
all_known world ns h [] = refl
all_known world ns h (a ∷ asked) =
    ap (λ b. b && list_all (λ t. knows t.0 world) asked) (known_index a.0 ns world.replicas h) ∙ ap (λ b. is_some (replica_index a.0 ns) && b) (all_known world ns h asked)

module _ (asked : List (List ℕ × List ℕ)) (text : Option (List ℕ)) (world : World) (ns : List SessionReplica) (h : AllRepresent ns world.replicas) where
  row : first_of (refusals (Build asked) text world) ≡ targets_row ns asked
  row = ap (λ b. cond (not b) (Some Unknown) (cond (not (list_all (λ t. is_utf8 t.1) asked)) (Some NoPackage) None)) (all_known world ns h asked)

  pub build_refused : (refusal : Refusal) (told : List ℕ) (compiled : List (List ℕ)) → targets_row ns asked ≡ Some refusal → told ≡ refused refusal → AreCompiled compiled world → CountedResult (Build asked) text world told ns compiled
  build_refused refusal told compiled e t kept =
      let tells = settled_tells (Build asked) text world (Some refusal) told ns (λ _ q. q) t (record { refuses = row ∙ e; next = world; after = refl; edition = refl; stand = h }) in
      record {
        tells = tells;
        counted = subst (AreCompiled compiled) (sym (after_by (Build asked) text world tells.next (Some refusal) (row ∙ e) tells.after)) kept;
      }

  module _ (targets : List (ℕ × List ℕ)) (allowed : targets_row ns asked ≡ None) (are : AllZip (IsTarget ns) asked targets) where
    pub build_lacks : (edition : Edition) (told : List ℕ) (compiled : List (List ℕ)) → edition ≡ world.edition → told ≡ refused NoPackage
        → ((took : List Took) → AllStandFor (replicas_of ns) took → LacksPackage edition took targets) → AreCompiled compiled world → CountedResult (Build asked) text world told ns compiled
    unfolding After Prints
    build_lacks edition told compiled same t lacks kept =
        let none : AreBuilds world asked None =
        no_builds world ns h asked targets are (subst (λ n. LacksPackage n (took_of world.replicas) targets) same (lacks (took_of world.replicas) (all_stand_for ns world.replicas h))) in
        let tells : CommandResult (Build asked) text world told ns = record {
          next = world;
          after = subst (λ z. AfterBy z (Build asked) text world world) (sym (row ∙ allowed)) (None, none, refl);
          edition = refl;
          clear = λ _. (subst (λ z. PrintsBy z (Build asked) world told) (sym (row ∙ allowed)) (None, none, t), h);
        } in
        record { tells = tells; counted = kept }

    pub build_told : AreApart (replica_names world) → (holders : List ℕ) → numbered.HoldAll (took_of world.replicas) holders targets → (edition : Edition) (reports : List Report) (told : List ℕ) (ms : List SessionReplica) (compiled : List (List ℕ)) → edition ≡ world.edition
        → told ≡ flat_map report_line (zip asked reports) → Built edition holders targets reports ns ms → ((all : List TargetBuild) → AreCompiled compiled (after_builds world asked (Some all))) → CountedResult (Build asked) text world told ms compiled
    unfolding After Prints
    build_told apart holders hold edition reports told ms compiled same t built kept =
        let took : List Took = took_of world.replicas in
        let sized = subst AllSized (sym (taken_actions world.replicas)) (all_sized ns world.replicas h) in
        let b = subst (λ n. AreBuilt n took targets reports (replicas_of ms)) same (built.builds took (all_stand_for ns world.replicas h) sized hold) in
        let builds : AreBuilds world asked (Some b.all) = same_builds world ns h asked targets b.all are b.are in
        let held = same_held world ns h asked targets are in
        let next : World = after_builds world asked (Some b.all) in
        let tells : CommandResult (Build asked) text world told ms = record {
          next = next;
          after = subst (λ z. AfterBy z (Build asked) text world next) (sym (row ∙ allowed)) (Some b.all, builds, refl);
          edition = refl;
          clear = λ clear.
              let right : AreRight world.edition took targets b.all reports (replicas_of ms) =
              b.right (subst (λ E. NoClash (hashed_actions (E ++ all_actions world.edition b.all))) (sym held) (clear_builds world asked b.all clear)) in
              let count : ℕ = compiled_count (held_by world asked) (all_actions world.edition b.all) in
              let printed : told ≡ builds_text world asked (Some b.all) =
              t ∙ same_text count asked reports b.all (right.told).reports (λ r c. (right.told).counts r c ∙ ap (λ E. compiled_count E (all_actions world.edition b.all)) held) in
              let actions : List Action = held_by world asked ++ all_actions world.edition b.all in (
                subst (λ z. PrintsBy z (Build asked) world told) (sym (row ∙ allowed)) (Some b.all, builds, printed),
                all_share (λ r. list_any (λ t. bytes_eq r.name t.0) asked) (numbered.builds targets) actions ns ms world.replicas built.labels h
                    (sized_both (held_by world asked) (all_actions world.edition b.all) (held_sized world ns h asked targets are) right.sized)
                    (same_tests world ns h apart asked targets are)
                    (λ k o m e f. subst (λ E. numbered.StandsAfter targets (E ++ all_actions world.edition b.all) k o m) held (right.stand k o m e f)),
              );
        } in
        record { tells = tells; counted = kept b.all }
