-- What a build of the directory says of the files.
use Rattle.std.proofs.Common.{◌≡◌, ℕ, true, false, List, [], ◌∷◌, ◌++◌, map, length, get_or, None, Some, refl, sym, ap, subst, ◌∙◌, inl, inr, arith}
use Rattle.std.specs.List.{slice_get}
use Rattle.std.proofs.lemmas.List.{append-nil}
use Rattle.std.proofs.lemmas.List.Elements.{Contains-push_cases}
use Rattle.go_text.specs.declared.edition.Edition.{Edition}
use Rattle.ws_action.specs.Actions.{Action}
use Rattle.ws_action.specs.Clash.{NoClash, AllSized, hashed_actions}
use Rattle.ws_report.specs.Reports.{DirectoryVerdict, verdict_rows}
use Rattle.ws_report.specs.declared.Report.{Report}
use Rattle.ws_replica.specs.Builds.{AreBuildsOfTargets, AreBuilt, AreRight, LacksPackage, took_at}
use Rattle.ws_replica.specs.Holdings.{Replica, ReplicaStandsFor}
use Rattle.ws_replica.specs.Reports.{TargetBuild, IsTargetBuild, actions_of, all_actions, report_of}
use Rattle.ws_run.specs.Files.{Files, writes_of, IsBuildOf, IsClearOf, HasFaults, HasNoPackageFiles}
use Rattle.ws_run.specs.Steps.{all_good, IsLast, took_of, target_at, HoldsProgram}
use Rattle.ws_run.proofs.Goods.{good_fates, good_rows}

abbrev Rows : Type 0
Rows = List (List ℕ × DirectoryVerdict)

abbrev pub rows_in : Report → Rows
rows_in r = verdict_rows r.directories.items

sole : (edition : Edition) (files : Files) (directory : List ℕ) (all : List TargetBuild) → AreBuildsOfTargets edition (took_of files) (target_at directory) all → (build : TargetBuild) × (all ≡ build ∷ []) × IsBuildOf edition files directory build
sole edition files directory [] are = absurd are
sole edition files directory (b ∷ []) are = (b, refl, are.0)
sole edition files directory (b ∷ c ∷ bs) are = absurd are.1

-- what lacks package files is the only target
pub no_files : (edition : Edition) (files : Files) (directory : List ℕ) → LacksPackage edition (took_of files) (target_at directory) → HasNoPackageFiles edition files directory
no_files edition files directory (k, d, among, none) = elim (Contains-push_cases {X = ℕ × List ℕ} [] (0, directory) (k, d) among) [
  | inl lost ↦ absurd (omega (arith, lost.1))
  | inr same ↦ subst (λ (t : ℕ × List ℕ). IsTargetBuild edition (took_at (took_of files) t.0).writes t.1 None) (sym same) none
]

sole_report : (reports : List Report) (its : Rows) → map rows_in reports ≡ its ∷ [] → (report : Report) × (reports ≡ report ∷ []) × (rows_in report ≡ its)
sole_report [] its e = absurd (cc (e))
sole_report (r ∷ []) its e = (r, refl, cc (e))
sole_report (r ∷ s ∷ rs) its e = absurd (cc (e))

-- the last of one is that one
last_is : (r : Report) (rest : List Report) (last : Report) → r ∷ [] ≡ rest ++ last ∷ [] → r ≡ last
last_is r [] last e = cc (e)
last_is r (s ∷ []) last e = absurd (cc (e))
last_is r (s ∷ t ∷ rest) last e = absurd (cc (e))

-- an index reads the replica that stands alone
pub sole_replica : (new : List Replica) (replica : Replica) → length new ≡ 1 → replica ≡ get_or new 0 replica → slice_get new 0 ≡ Some replica
sole_replica [] replica one e = absurd (omega (arith, one))
sole_replica (r ∷ rs) replica one e = ap (λ (x : Replica). Some x) (sym e)

module _ (edition : Edition) (files : Files) (directory : List ℕ) (reports : List Report) (new : List Replica) (b : AreBuilt edition (took_of files) (target_at directory) reports new) (clear : IsClearOf edition files directory) where
  its : (build : TargetBuild) × (b.all ≡ build ∷ []) × IsBuildOf edition files directory build
  its = sole edition files directory b.all b.are

  abbrev build : TargetBuild
  build = its.0

  compiled : all_actions edition b.all ≡ actions_of edition build
  compiled = ap (all_actions edition) its.1 ∙ append-nil (actions_of edition build)

  no_clash : NoClash (hashed_actions (actions_of edition build))
  no_clash = clear build its.2

  right : AreRight edition (took_of files) (target_at directory) b.all reports new
  right = b.right (subst (λ (E : List Action). NoClash (hashed_actions E)) (sym compiled) no_clash)

  one : (report : Report) × (reports ≡ report ∷ []) × (rows_in report ≡ report_of build)
  one = sole_report reports (report_of build) (right.told.reports ∙ ap (map report_of) its.1)

  pub has_faults : (report : Report) → IsLast reports report → all_good report ≡ false → HasFaults edition files directory report
  has_faults report (rest, last) bad =
      let same : one.0 ≡ report = last_is one.0 rest report (sym one.1 ∙ last) in
      let told : rows_in report ≡ report_of build = ap rows_in (sym same) ∙ one.2 in record {
        build = build;
        are = its.2;
        faulty = λ all. (let yes : all_good report ≡ true = good_rows build.fates build.directories build.fates report.directories.items its.2.1 told all in cc (yes, bad));
        told = told;
      }

  pub holds_program : ((report : Report) → IsLast reports report → all_good report ≡ true) → (replica : Replica) → slice_get new 0 ≡ Some replica → HoldsProgram edition files directory replica
  holds_program all replica at = record {
    build = build;
    are = its.2;
    good = good_fates build.fates build.directories build.fates one.0.directories.items its.2.1 one.2 (all one.0 ([], one.1));
    clear = no_clash;
    sized = subst AllSized compiled right.sized;
    stands = subst (λ (E : List Action). ReplicaStandsFor replica (writes_of files) E) compiled (right.stand 0 (record { writes = writes_of files; actions = [] }) replica refl at);
  }
