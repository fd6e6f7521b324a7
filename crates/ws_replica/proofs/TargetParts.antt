-- The build of each target, of what was reached from its replica for all of that replica's targets.
use Rattle.std.proofs.Common.{◌≡◌, ◌⊎◌, ℕ, suc, Bool, true, false, cond, ◌==◌, List, [], ◌∷◌, map, Some, refl, sym, ap, subst, ◌∙◌, inl, inr}
use Rattle.std.specs.List.{AllZip, Contains, filter, filter_map, slice_get}
use Rattle.std.proofs.lemmas.Bool.{eqb-true, eq-eqb}
use Rattle.std.proofs.lemmas.List.Elements.{Contains-append_left, Contains-append_right, Contains-append_cases}
use Rattle.go_text.specs.declared.edition.Edition.{Edition}
use Rattle.ws_map.specs.Kept.{SameMembers}
use Rattle.ws_action.specs.Actions.{Action}
use Rattle.ws_action.proofs.Members.{none_in_empty, head_or_later, at_head, later}
use Rattle.ws_graph.specs.BuildPlan.{Sources, ReachesByImports, Directory, paths_of, IsBuildPlanOf, IsJointPlan}
use Rattle.ws_graph.proofs.Linked.{map_left, map_right}
use Rattle.ws_graph.proofs.SomeBuildPlan.{some_build_plan}
use Rattle.ws_report.specs.declared.Report.{Report}
use Rattle.ws_reach.proofs.Reached.{get_contains}
use Rattle.ws_replica.specs.Builds.{took_at, AreBuildsOfTargets}
use Rattle.ws_replica.specs.Holdings.{Took}
use Rattle.ws_replica.specs.Jobs.{ReachedDirectory, reached_by, report_rows}
use Rattle.ws_replica.specs.Parts.{TargetPart, reached_paths, reached_rows, ArePart, IsPartOf, IsReportPart}
use Rattle.ws_replica.specs.Reports.{DirectoryOutcome, TargetBuild, IsTargetBuild, report_of, actions_of, all_actions}
use Rattle.ws_replica.specs.Targets.{directories_at}
use Rattle.ws_replica.proofs.Numbered.{some_same}
use Rattle.ws_replica.proofs.OwnBuilds.{ActionAt, from_actions, own_build, own_fated, own_into, own_back, own_report}
use Rattle.ws_replica.proofs.Picked.{into_map, from_map}
use Rattle.ws_replica.proofs.TargetPieces.{Piece, builds_of}
use Rattle.ws_replica.proofs.WalkedParts.{is_part}

-- ---- the directories of a replica's targets

module _ (k : ℕ) where
  abbrev Target : Type 0
  Target = ℕ × List ℕ

  pub kept : (t : Target) (ts : List Target) (b : Bool) → (t.0 == k) ≡ b → directories_at (t ∷ ts) k ≡ cond b (t.1 ∷ directories_at ts k) (directories_at ts k)
  kept t ts true e = ap (λ z. map (λ (t : Target). t.1) (cond z (t ∷ filter (λ t. t.0 == k) ts) (filter (λ t. t.0 == k) ts))) e
  kept t ts false e = ap (λ z. map (λ (t : Target). t.1) (cond z (t ∷ filter (λ t. t.0 == k) ts) (filter (λ t. t.0 == k) ts))) e

  into_by : (t : Target) (ts : List Target) (d : List ℕ) (b : Bool) → (t.0 == k) ≡ b → (t ≡ (k, d)) ⊎ Contains (directories_at ts k) d → Contains (directories_at (t ∷ ts) k) d
  into_by t ts d true e (inl same) = subst (λ ds. Contains ds d) (sym (kept t ts true e)) (at_head (directories_at ts k) t.1 d (ap (λ (x : Target). x.1) same))
  into_by t ts d true e (inr l) = subst (λ ds. Contains ds d) (sym (kept t ts true e)) (later t.1 (directories_at ts k) d l)
  into_by t ts d false e (inl same) = (let no : false ≡ true = sym e ∙ eq-eqb t.0 k (ap (λ (x : Target). x.0) same) in absurd (cc (no)))
  into_by t ts d false e (inr l) = subst (λ ds. Contains ds d) (sym (kept t ts false e)) l

  pub into_directories : (ts : List Target) (d : List ℕ) → Contains ts (k, d) → Contains (directories_at ts k) d
  into_directories [] d c = absurd (none_in_empty {A = Target} (k, d) c)
  into_directories (t ∷ ts) d c = into_by t ts d (t.0 == k) refl (elim (head_or_later {A = Target} t ts (k, d) c) [
    | inl same ↦ inl same
    | inr l ↦ inr (into_directories ts d l)
  ])

  from_by : (t : Target) (ts : List Target) (d : List ℕ) (b : Bool) → (t.0 == k) ≡ b → Contains (directories_at (t ∷ ts) k) d → (t ≡ (k, d)) ⊎ Contains (directories_at ts k) d
  from_by t ts d true e c = elim (head_or_later t.1 (directories_at ts k) d (subst (λ ds. Contains ds d) (kept t ts true e) c)) [
    | inl same ↦ inl (let number : t.0 ≡ k = eqb-true t.0 k e in λ i. (number i, same i))
    | inr l ↦ inr l
  ]
  from_by t ts d false e c = inr (subst (λ ds. Contains ds d) (kept t ts false e) c)

  pub from_directories : (ts : List Target) (d : List ℕ) → Contains (directories_at ts k) d → Contains ts (k, d)
  from_directories [] d c = absurd (none_in_empty d c)
  from_directories (t ∷ ts) d c = elim (from_by t ts d (t.0 == k) refl c) [
    | inl same ↦ at_head {A = Target} ts t (k, d) same
    | inr l ↦ later {A = Target} t ts (k, d) (from_directories ts d l)
  ]

-- ---- what was reached, by directories

pub paths_same : (edition : Edition) (ds : List Directory) → reached_paths (map (reached_by edition) ds) ≡ paths_of ds
paths_same edition [] = refl
paths_same edition (d ∷ ds) = ap (λ ps. d.path ∷ ps) (paths_same edition ds)

pub rows_same : (edition : Edition) (ds : List Directory) → reached_rows (map (reached_by edition) ds) ≡ map (λ (d : Directory). d.imports) ds
rows_same edition [] = refl
rows_same edition (d ∷ ds) = ap (λ rs. d.imports ∷ rs) (rows_same edition ds)

-- ---- a target's own build

module _ (edition : Edition) (took : List Took) (ps : List (Piece edition took)) (told : List Report) where
  -- a target, what becomes of its directories, and its report
  pub record Own : Type 0 where
    pub target : ℕ × List ℕ
    pub build : TargetBuild
    pub report : Report
    pub piece : Piece edition took
    pub at : slice_get ps target.0 ≡ Some piece
    pub is : IsTargetBuild edition (took_at took target.0).writes target.1 (Some build)
    pub into : (a : Action) → Contains (actions_of edition build) a → Contains (actions_of edition piece.build) a
    pub back : (a : Action) (x : ActionAt edition piece.build.fates piece.build.directories piece.build.fates a) → ReachesByImports edition piece.of.0 target.1 x.directory.path → Contains (actions_of edition build) a
    pub whole : Report
    pub whole_in : Contains told whole
    pub compiled : report.compiled ≡ whole.compiled
    pub tells : map report_rows told ≡ map report_of (builds_of edition took ps) → report_rows report ≡ report_of build

  own_of : (p : Piece edition took) (t : ℕ × List ℕ) (part : TargetPart) (report : Report) → slice_get ps t.0 ≡ Some p → p.number ≡ t.0 → Contains p.targets t.1 → part.replica ≡ t.0 → ArePart (reached_paths p.reached) (reached_rows p.reached) t.1 part.numbers → IsReportPart told part report
      → (o : Own) × (o.target ≡ t) × (o.report ≡ report)
  own_of p t part report at number among replica part_is told_is =
      let sources : Sources = p.of.0 in
      let us : List Directory = p.build.directories in
      let fs : List DirectoryOutcome = p.build.fates in
      let joint : IsJointPlan edition sources p.targets us = p.of.2 in
      let own = some_build_plan edition sources t.1 (joint.files t.1 among) in
      let ds : List Directory = own.0 in
      let paths : reached_paths p.reached ≡ paths_of us = ap reached_paths p.same ∙ paths_same edition us in
      let rows : reached_rows p.reached ≡ map (λ (d : Directory). d.imports) us = ap reached_rows p.same ∙ rows_same edition us in
      let walked : ArePart (paths_of us) (map (λ (d : Directory). d.imports) us) t.1 part.numbers =
      subst (λ rs. ArePart (paths_of us) rs t.1 part.numbers) rows (subst (λ xs. ArePart xs (reached_rows p.reached) t.1 part.numbers) paths part_is) in
      let b : TargetBuild = own_build edition sources p.targets us fs joint p.fated t.1 among ds own.1 in (
        record {
          target = t;
          build = b;
          report = report;
          piece = p;
          at = at;
          is = (subst (λ k. IsBuildPlanOf edition (took_at took k).writes t.1 ds) number (sources, p.of.1, own.1), own_fated edition sources p.targets us fs joint p.fated t.1 among ds own.1);
          into = own_into edition sources p.targets us fs joint p.fated t.1 among ds own.1;
          back = λ a x way. own_back edition sources p.targets us fs joint p.fated t.1 among ds own.1 x.number x.directory x.fate a x.at x.its way x.is;
          whole = told_is.whole;
          whole_in = get_contains told part.replica told_is.whole told_is.at;
          compiled = told_is.compiled;
          tells = λ same.
              let its : report_rows told_is.whole ≡ report_of p.build = rows_at told_is.whole (subst (λ k. slice_get told k ≡ Some told_is.whole) replica told_is.at) same in
              told_is.rows ∙ ap (λ rs. filter_map (slice_get rs) part.numbers) its
              ∙ own_report edition sources p.targets us fs joint p.fated t.1 among ds own.1 part.numbers (is_part edition sources p.targets us joint t.1 among part.numbers walked);
        },
        refl,
        refl,
      )
    where
      rows_at : (whole : Report) → slice_get told t.0 ≡ Some whole → map report_rows told ≡ map report_of (builds_of edition took ps) → report_rows whole ≡ report_of p.build
      rows_at whole there same =
          some_same (report_rows whole) (report_of p.build) (
          sym (map_right report_rows told t.0 whole there) ∙ ap (λ zs. slice_get zs t.0) same
          ∙ map_right report_of (builds_of edition took ps) t.0 p.build (map_right (λ (x : Piece edition took). x.build) ps t.0 p at))

  -- those of some targets
  pub record Owns (ts : List (ℕ × List ℕ)) (reports : List Report) : Type 0 where
    pub list : List Own
    pub targets_are : map (λ (o : Own). o.target) list ≡ ts
    pub reports_are : map (λ (o : Own). o.report) list ≡ reports

  module _ (targets : List (ℕ × List ℕ)) (all : List (List ReachedDirectory)) (all_are : map (λ (p : Piece edition took). p.reached) ps ≡ all) (each : (k : ℕ) (p : Piece edition took) → slice_get ps k ≡ Some p → (p.number ≡ k) × (p.targets ≡ directories_at targets k)) where
    one_own : (t : ℕ × List ℕ) (part : TargetPart) (report : Report) → Contains targets t → IsPartOf all t part → IsReportPart told part report → (o : Own) × (o.target ≡ t) × (o.report ≡ report)
    one_own t part report among of told_is =
        let p = map_left (λ (x : Piece edition took). x.reached) ps t.0 of.reached (ap (λ zs. slice_get zs t.0) all_are ∙ of.at) in
        let its = each t.0 p.0 p.1 in
        own_of p.0 t part report p.1 its.0 (subst (λ ds. Contains ds t.1) (sym its.1) (into_directories t.0 targets t.1 among)) of.replica
        (subst (λ rs. ArePart (reached_paths rs) (reached_rows rs) t.1 part.numbers) p.2 of.are) told_is

    pub owns_of : (ts : List (ℕ × List ℕ)) (parts : List TargetPart) (reports : List Report) → ((t : ℕ × List ℕ) → Contains ts t → Contains targets t) → AllZip (IsPartOf all) ts parts → AllZip (IsReportPart told) parts reports → Owns ts reports
    owns_of [] [] [] among g h = record { list = []; targets_are = refl; reports_are = refl }
    owns_of [] [] (r ∷ reports) among g h = absurd h
    owns_of [] (p ∷ parts) reports among g h = absurd g
    owns_of (t ∷ ts) [] reports among g h = absurd g
    owns_of (t ∷ ts) (p ∷ parts) [] among g h = absurd h
    owns_of (t ∷ ts) (p ∷ parts) (r ∷ reports) among g h =
        let o = one_own t p r (among t (at_head {A = ℕ × List ℕ} ts t t refl)) g.0 h.0 in
        let rest = owns_of ts parts reports (λ x c. among x (later {A = ℕ × List ℕ} t ts x c)) g.1 h.1 in
        record {
          list = o.0 ∷ rest.list;
          targets_are = ap (λ (x : ℕ × List ℕ). x ∷ map (λ (o : Own). o.target) rest.list) o.1 ∙ ap (λ xs. t ∷ xs) rest.targets_are;
          reports_are = ap (λ (x : Report). x ∷ map (λ (o : Own). o.report) rest.list) o.2 ∙ ap (λ xs. r ∷ xs) rest.reports_are;
        }

  abbrev pub own_builds : List Own → List TargetBuild
  own_builds os = map (λ (o : Own). o.build) os

  pub owns_are : (os : List Own) → AreBuildsOfTargets edition took (map (λ (o : Own). o.target) os) (own_builds os)
  owns_are [] = tt
  owns_are (o ∷ os) = (o.is, owns_are os)

  pub owns_tell : map report_rows told ≡ map report_of (builds_of edition took ps) → (os : List Own) → map report_rows (map (λ (o : Own). o.report) os) ≡ map report_of (own_builds os)
  owns_tell same [] = refl
  owns_tell same (o ∷ os) = ap (λ z. z ∷ map report_rows (map (λ (o : Own). o.report) os)) (o.tells same) ∙ ap (λ zs. report_of o.build ∷ zs) (owns_tell same os)

  pub owns_count : (n : ℕ) → ((r : Report) → Contains told r → r.compiled ≡ n) → (os : List Own) (r : Report) → Contains (map (λ (o : Own). o.report) os) r → r.compiled ≡ n
  owns_count n h [] r c = absurd (none_in_empty r c)
  owns_count n h (o ∷ os) r c = elim (head_or_later o.report (map (λ (o : Own). o.report) os) r c) [
    | inl e ↦ subst (λ (z : Report). z.compiled ≡ n) e (o.compiled ∙ h o.whole o.whole_in)
    | inr l ↦ owns_count n h os r l
  ]

  -- ---- the same actions

  in_all : (b : TargetBuild) (bs : List TargetBuild) (a : Action) → Contains bs b → Contains (actions_of edition b) a → Contains (all_actions edition bs) a
  in_all b [] a among c = absurd (none_in_empty b among)
  in_all b (x ∷ bs) a among c = elim (head_or_later x bs b among) [
    | inl e ↦ Contains-append_left (actions_of edition x) (all_actions edition bs) a (subst (λ (z : TargetBuild). Contains (actions_of edition z) a) (sym e) c)
    | inr l ↦ Contains-append_right (actions_of edition x) (all_actions edition bs) a (in_all b bs a l c)
  ]

  owns_into : (os : List Own) (a : Action) → Contains (all_actions edition (own_builds os)) a → Contains (all_actions edition (builds_of edition took ps)) a
  owns_into [] a c = absurd (none_in_empty a c)
  owns_into (o ∷ os) a c = elim (Contains-append_cases (actions_of edition o.build) (all_actions edition (own_builds os)) a c) [
    | inl l ↦ in_all o.piece.build (builds_of edition took ps) a (get_contains (builds_of edition took ps) o.target.0 o.piece.build (map_right (λ (x : Piece edition took). x.build) ps o.target.0 o.piece o.at)) (o.into a l)
    | inr r ↦ owns_into os a r
  ]

  -- an action of all pieces is some piece's
  some_piece : (qs : List (Piece edition took)) (a : Action) → Contains (all_actions edition (builds_of edition took qs)) a → (k : ℕ) × (p : Piece edition took) × (slice_get qs k ≡ Some p) × Contains (actions_of edition p.build) a
  some_piece [] a c = absurd (none_in_empty a c)
  some_piece (q ∷ qs) a c = elim (Contains-append_cases (actions_of edition q.build) (all_actions edition (builds_of edition took qs)) a c) [
    | inl l ↦ (0, q, refl, l)
    | inr r ↦ (let rest = some_piece qs a r in (suc rest.0, rest.1, rest.2, rest.3))
  ]

  own_with : (os : List Own) (t : ℕ × List ℕ) → Contains (map (λ (o : Own). o.target) os) t → (o : Own) × Contains os o × (o.target ≡ t)
  own_with os t c = from_map (λ (o : Own). o.target) os t c

  module _ (targets : List (ℕ × List ℕ)) (each : (k : ℕ) (p : Piece edition took) → slice_get ps k ≡ Some p → (p.number ≡ k) × (p.targets ≡ directories_at targets k)) (os : List Own) (targets_are : map (λ (o : Own). o.target) os ≡ targets) where
    owns_back : (a : Action) → Contains (all_actions edition (builds_of edition took ps)) a → Contains (all_actions edition (own_builds os)) a
    owns_back a c =
        let s = some_piece ps a c in
        let p : Piece edition took = s.1 in
        let x = from_actions edition p.build.fates p.build.directories p.build.fates a s.3 in
        let way = (p.of.2.reached x.directory.path).0 (into_map (λ (d : Directory). d.path) p.build.directories x.directory (get_contains p.build.directories x.number x.directory x.at)) in
        let t : Contains targets (s.0, way.0) = from_directories s.0 targets way.0 (subst (λ ds. Contains ds way.0) (each s.0 p s.2).1 way.1) in
        let o = own_with os (s.0, way.0) (subst (λ (ts : List (ℕ × List ℕ)). Contains ts (s.0, way.0)) (sym targets_are) t) in
        in_all o.0.build (own_builds os) a (into_map (λ (o : Own). o.build) os o.0 o.1) (by_piece o.0 s.0 way.0 o.2 p s.2 x way.2)
      where
        with_piece : (o : Own) (p : Piece edition took) → p ≡ o.piece → (x : ActionAt edition p.build.fates p.build.directories p.build.fates a) → ReachesByImports edition p.of.0 o.target.1 x.directory.path → Contains (actions_of edition o.build) a
        with_piece o p e =
            subst (λ (q : Piece edition took). (x : ActionAt edition q.build.fates q.build.directories q.build.fates a) → ReachesByImports edition q.of.0 o.target.1 x.directory.path → Contains (actions_of edition o.build) a) (sym e) (o.back a)

        by_piece : (o : Own) (k : ℕ) (d : List ℕ) → o.target ≡ (k, d) → (p : Piece edition took) → slice_get ps k ≡ Some p → (x : ActionAt edition p.build.fates p.build.directories p.build.fates a) → ReachesByImports edition p.of.0 d x.directory.path → Contains (actions_of edition o.build) a
        by_piece o k d same p at x way =
            let its : o.piece ≡ p = some_same o.piece p (sym o.at ∙ ap (λ (t : ℕ × List ℕ). slice_get ps t.0) same ∙ at) in
            let path : o.target.1 ≡ d = ap (λ (t : ℕ × List ℕ). t.1) same in
            with_piece o p (sym its) x (subst (λ z. ReachesByImports edition p.of.0 z x.directory.path) (sym path) way)

    pub same_actions : SameMembers (all_actions edition (own_builds os)) (all_actions edition (builds_of edition took ps))
    same_actions a = (owns_into os a, owns_back a)
