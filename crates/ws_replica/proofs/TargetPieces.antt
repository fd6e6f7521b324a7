-- What a run of the jobs of several plans says where no two texts clash.
use Rattle.std.proofs.Common.{◌≡◌, ℕ, zero, suc, ◌+◌, ◌<◌, List, [], ◌∷◌, ◌++◌, map, length, Option, Some, refl, sym, ap, subst, ◌∙◌, inl, inr, arith, length-append, append_assoc, append-nil}
use Rattle.std.specs.List.{slice_get, Contains, All, AllZip, count_by}
use Rattle.std.specs.FinMap.{FinMap}
use Rattle.std.proofs.lemmas.Option.{slice_get_within}
use Rattle.std.proofs.lemmas.List.{length-map, map-append}
use Rattle.std.proofs.lemmas.List.Elements.{All-head, All-tail}
use Rattle.go_text.specs.declared.edition.Edition.{Edition}
use Rattle.ws_version.specs.Writes.{Write}
use Rattle.ws_map.specs.Kept.{joined}
use Rattle.ws_register.specs.Sources.{HasFiles}
use Rattle.ws_action.specs.Actions.{Action}
use Rattle.ws_action.specs.Clash.{AllSized}
use Rattle.ws_action.proofs.Members.{none_in_empty, head_or_later}
use Rattle.ws_board.specs.Work.{Job, Opening}
use Rattle.ws_board.specs.Machine.{is_finish}
use Rattle.ws_board.specs.Calls.{result_at}
use Rattle.ws_board.specs.Ends.{End, end_at, end_result, end_results, somes, IsEnd, AreEnds, IsRanked, AreClear, HasResultsOf}
use Rattle.ws_cache.specs.Count.{compiled_count}
use Rattle.ws_cache.specs.Held.{id_cmp, CacheStandsFor}
use Rattle.ws_cache.specs.Joined.{lesser}
use Rattle.ws_graph.specs.BuildPlan.{Directory, IsBuildPlanOf, IsJointPlanOf, AreRanks, paths_of}
use Rattle.ws_graph.proofs.RankedPlan.{ranked_whole as plan_ranks}
use Rattle.ws_graph.proofs.Wholes.{IsWholeOf, whole_plan_of, whole_joint_of}
use Rattle.ws_report.specs.declared.Report.{Report}
use Rattle.ws_report.specs.Reports.{DirectoryVerdict}
use Rattle.ws_replica.specs.Builds.{took_at}
use Rattle.ws_replica.specs.Holdings.{Replica, ReplicaStandsFor, Took, AllStandFor}
use Rattle.ws_replica.specs.Jobs.{Place, ReachedDirectory, reached_by, job_after, jobs_after, AreVerdicts, AllAreVerdicts, report_rows, IsRun}
use Rattle.ws_replica.specs.Reports.{AreDirectoryOutcomes, actions_of, all_actions, report_of, TargetBuild}
use Rattle.ws_replica.specs.Targets.{IsReached, directories_at}
use Rattle.ws_replica.proofs.EndFates.{ends_by, IsCompiled, are_ends, came_are, place_in, told_report, ends_length, jobs_ranked}
use Rattle.ws_replica.proofs.Numbered.{some_same}
use Rattle.ws_replica.proofs.Picked.{from_map}
use Rattle.ws_replica.proofs.PlanMakes.{whole_makes}
use Rattle.ws_replica.proofs.SeveralPlans.{job_of, AreWithin, somes_append, zip_append, end_within, AreFrom, IsRankedFrom, after_from, after_ranked, after_below, ranked_append, from_append, ranked_whole}
use Rattle.ws_replica.proofs.SomeBuild.{some_fates}

-- a replica's targets, what was reached of them, and what becomes of the directories
pub record Piece (edition : Edition) (took : List Took) : Type 0 where
  pub number : ℕ
  pub targets : List (List ℕ)
  pub reached : List ReachedDirectory
  pub build : TargetBuild
  pub of : IsJointPlanOf edition (took_at took number).writes targets build.directories
  pub fated : AreDirectoryOutcomes build.directories build.fates
  pub same : reached ≡ map (reached_by edition) build.directories
  pub inside : (d : Directory) → Contains build.directories d → (k : ℕ) → Contains d.imports k → k < length build.directories
  pub files : HasFiles (took_at took number).writes

-- ---- a piece of what was reached

-- a replica stands for what it took
pub stands_at : (replicas : List Replica) (took : List Took) → AllStandFor replicas took → (k : ℕ) (r : Replica) → slice_get replicas k ≡ Some r → ReplicaStandsFor r (took_at took k).writes (took_at took k).actions
stands_at [] took all k r e = cc
stands_at (x ∷ replicas) [] all k r e = absurd all
stands_at (x ∷ replicas) (t ∷ took) all zero r e = subst (λ (z : Replica). ReplicaStandsFor z t.writes t.actions) (some_same x r e) all.0
stands_at (x ∷ replicas) (t ∷ took) all (suc k) r e = stands_at replicas took all.1 k r e

pub whole_inside : (edition : Edition) (W : List Write) (ds : List Directory) → IsWholeOf edition W ds → (d : Directory) → Contains ds d → (k : ℕ) → Contains d.imports k → k < length ds
whole_inside edition W ds of d c k among =
    let there = ((of.2.imports d c).are k).0 among in
    omega (arith, slice_get_within (paths_of ds) k there.0 there.1, length-map ds (λ (d : Directory). d.path))

pub plan_inside : (edition : Edition) (W : List Write) (target : List ℕ) (ds : List Directory) → IsBuildPlanOf edition W target ds → (d : Directory) → Contains ds d → (k : ℕ) → Contains d.imports k → k < length ds
plan_inside edition W target ds of = whole_inside edition W ds (whole_plan_of edition W target ds of)

piece_of : (edition : Edition) (replicas : List Replica) (took : List Took) → AllStandFor replicas took → (targets : List (ℕ × List ℕ)) (k : ℕ) (rs : List ReachedDirectory) → IsReached edition replicas targets k rs
    → (p : Piece edition took) × (p.number ≡ k) × (p.targets ≡ directories_at targets k) × (p.reached ≡ rs)
piece_of edition replicas took all targets k rs h =
    let W : List Write = (took_at took k).writes in
    let ds : List Directory = h.by.directories in
    let of : IsJointPlanOf edition W (directories_at targets k) ds = h.by.planned W (stands_at replicas took all k h.replica h.at).registers in
    let whole : IsWholeOf edition W ds = whole_joint_of edition W (directories_at targets k) ds of in
    let ranks = plan_ranks edition W ds whole in
    let fates = some_fates edition of.0 ds of.2.planned ranks.0 ranks.1 in (
      record {
        number = k;
        targets = directories_at targets k;
        reached = rs;
        build = record { directories = ds; fates = fates.0 };
        of = of;
        fated = fates.1;
        same = h.by.same;
        inside = whole_inside edition W ds whole;
        files = h.by.files W (stands_at replicas took all k h.replica h.at).registers;
      },
      refl,
      refl,
      refl,
    )

-- all pieces of what was reached, from the replica of the number n on
pub record Pieces (edition : Edition) (took : List Took) (targets : List (ℕ × List ℕ)) (n : ℕ) (all : List (List ReachedDirectory)) : Type 0 where
  pub list : List (Piece edition took)
  pub all_are : map (λ (p : Piece edition took). p.reached) list ≡ all
  pub each : (k : ℕ) (p : Piece edition took) → slice_get list k ≡ Some p → (p.number ≡ n + k) × (p.targets ≡ directories_at targets (n + k))

each_more : (edition : Edition) (took : List Took) (targets : List (ℕ × List ℕ)) (n : ℕ) (q : Piece edition took) (list : List (Piece edition took)) → q.number ≡ n → q.targets ≡ directories_at targets n
    → ((k : ℕ) (p : Piece edition took) → slice_get list k ≡ Some p → (p.number ≡ suc n + k) × (p.targets ≡ directories_at targets (suc n + k)))
    → (k : ℕ) (p : Piece edition took) → slice_get (q ∷ list) k ≡ Some p → (p.number ≡ n + k) × (p.targets ≡ directories_at targets (n + k))
each_more edition took targets n q list number its rest zero p at =
    let same : q ≡ p = some_same q p at in
    let place : n ≡ n + 0 = omega arith in
    (sym (ap (λ (x : Piece edition took). x.number) same) ∙ number ∙ place, sym (ap (λ (x : Piece edition took). x.targets) same) ∙ its ∙ ap (directories_at targets) place)
each_more edition took targets n q list number its rest (suc k) p at =
    let place : suc n + k ≡ n + suc k = omega arith in
    let there = rest k p at in
    (there.0 ∙ place, there.1 ∙ ap (directories_at targets) place)

pub pieces_of : (edition : Edition) (replicas : List Replica) (took : List Took) → AllStandFor replicas took → (targets : List (ℕ × List ℕ)) (n : ℕ) (all : List (List ReachedDirectory))
    → ((k : ℕ) (rs : List ReachedDirectory) → slice_get all k ≡ Some rs → IsReached edition replicas targets (n + k) rs) → Pieces edition took targets n all
pieces_of edition replicas took stand targets n [] h = record { list = []; all_are = refl; each = λ k p at. cc (at) }
pieces_of edition replicas took stand targets n (rs ∷ all) h =
    let first : IsReached edition replicas targets n rs = subst (λ m. IsReached edition replicas targets m rs) (let z : n + 0 ≡ n = omega arith in z) (h 0 rs refl) in
    let p = piece_of edition replicas took stand targets n rs first in
    let rest = pieces_of edition replicas took stand targets (suc n) all (λ k xs at. subst (λ m. IsReached edition replicas targets m xs) (let z : n + suc k ≡ suc n + k = omega arith in z) (h (suc k) xs at)) in
    record {
      list = p.0 ∷ rest.list;
      all_are = ap (λ (x : List ReachedDirectory). x ∷ map (λ (p : Piece edition took). p.reached) rest.list) p.3 ∙ ap (λ xs. rs ∷ xs) rest.all_are;
      each = each_more edition took targets n p.0 rest.list p.1 p.2 rest.each;
    }

module _ (edition : Edition) (took : List Took) where
  abbrev pub builds_of : List (Piece edition took) → List TargetBuild
  builds_of ps = map (λ (p : Piece edition took). p.build) ps

  abbrev pub reached_of_all : List (Piece edition took) → List (List ReachedDirectory)
  reached_of_all ps = map (λ (p : Piece edition took). p.reached) ps

  abbrev ends_of : Piece edition took → List End
  ends_of p = ends_by edition p.build.fates p.build.directories p.build.fates

  abbrev all_ends : List (Piece edition took) → List End
  all_ends [] = []
  all_ends (p ∷ ps) = ends_of p ++ all_ends ps

  piece_size : (p : Piece edition took) → length (ends_of p) ≡ length p.reached
  piece_size p = ends_length edition p.build.fates p.build.directories p.build.fates p.fated ∙ sym (ap length p.same ∙ length-map p.build.directories (reached_by edition))

  piece_directories : (p : Piece edition took) → length (ends_of p) ≡ length p.build.directories
  piece_directories p = ends_length edition p.build.fates p.build.directories p.build.fates p.fated

  -- ---- ranks

  piece_within : (p : Piece edition took) → AreWithin (length p.reached) p.reached
  piece_within p = subst (λ zs. AreWithin (length zs) zs) (sym p.same)
      (subst (λ n. AreWithin n (map (reached_by edition) p.build.directories)) (sym (length-map p.build.directories (reached_by edition))) each)
    where
      each : AreWithin (length p.build.directories) (map (reached_by edition) p.build.directories)
      each r c k among =
          let at = from_map (reached_by edition) p.build.directories r c in
          p.inside at.0 at.1 k (subst (λ (x : ReachedDirectory). Contains x.imports k) (sym at.2) among)

  piece_ranked : (p : Piece edition took) (n : ℕ) → (rank : ℕ → ℕ) × IsRankedFrom n rank (map (job_after n) p.reached)
  piece_ranked p n =
      let W : List Write = (took_at took p.number).writes in
      let ranks : (rank : ℕ → ℕ) × AreRanks p.build.directories rank = plan_ranks edition W p.build.directories (whole_joint_of edition W p.targets p.build.directories p.of) in
      (ranks.0, after_ranked n p.reached ranks.0 (subst (λ rs. IsRanked ranks.0 (map job_of rs)) (sym p.same) (jobs_ranked edition p.build.directories ranks.0 ranks.1)))

  all_from : (ps : List (Piece edition took)) (n : ℕ) → AreFrom n (jobs_after n (reached_of_all ps))
  all_from [] n = λ j k c. absurd (none_in_empty k c)
  all_from (p ∷ ps) n = from_append n (map (job_after n) p.reached) (jobs_after (n + length p.reached) (reached_of_all ps)) (after_from n p.reached)
      (λ j k c. let high = all_from ps (n + length p.reached) j k c in omega (arith, high))

  ranked_pieces : (ps : List (Piece edition took)) (n : ℕ) → (rank : ℕ → ℕ) × IsRankedFrom n rank (jobs_after n (reached_of_all ps))
  ranked_pieces [] n = (λ k. k, λ j k a b has among also. cc)
  ranked_pieces (p ∷ ps) n =
      let xs : List Job = map (job_after n) p.reached in
      let ys : List Job = jobs_after (n + length p.reached) (reached_of_all ps) in
      let long : length p.reached ≡ length xs = sym (length-map p.reached (job_after n)) in
      let first = piece_ranked p n in
      let rest = ranked_pieces ps (n + length p.reached) in
      ranked_append n xs ys first.0 rest.0 (λ j k c. subst (λ m. k < m) long (after_below n p.reached (length p.reached) j k (piece_within p) c)) first.1
      (subst (λ m. AreFrom (n + m) ys) long (all_from ps (n + length p.reached))) (subst (λ m. IsRankedFrom (n + m) rest.0 ys) long rest.1)

  pub all_ranked : (ps : List (Piece edition took)) → (rank : ℕ → ℕ) × IsRanked rank (jobs_after 0 (reached_of_all ps))
  all_ranked ps = let r = ranked_pieces ps 0 in (r.0, ranked_whole r.0 (jobs_after 0 (reached_of_all ps)) r.1)

  -- ---- ends

  came_append : (xs ys : List End) → end_results (xs ++ ys) ≡ end_results xs ++ end_results ys
  came_append xs ys = ap somes (map-append end_result xs ys) ∙ somes_append (map end_result xs) (map end_result ys)

  pub all_came : (ps : List (Piece edition took)) → end_results (all_ends ps) ≡ all_actions edition (builds_of ps)
  all_came [] = refl
  all_came (p ∷ ps) =
      came_append (ends_of p) (all_ends ps)
      ∙ ap (λ xs. xs ++ end_results (all_ends ps)) (came_are edition p.build.fates p.build.directories p.build.fates)
      ∙ ap (λ xs. actions_of edition p.build ++ xs) (all_came ps)

  module _ (whole : List End) where
    piece_ends : (p : Piece edition took) (n : ℕ) → ((k : ℕ) → k < length p.build.directories → end_at whole (n + k) ≡ end_at (ends_of p) k) → AllZip (IsEnd whole) (map (job_after n) p.reached) (ends_of p)
    piece_ends p n within =
        subst (λ rs. AllZip (IsEnd whole) (map (job_after n) rs) (ends_of p)) (sym p.same)
        (are_ends edition p.build.directories p.build.fates p.fated whole n within p.build.directories p.build.fates
        (λ d c. (p.inside d c, whole_makes edition (took_at took p.number).writes p.files p.build.directories p.build.fates (whole_joint_of edition (took_at took p.number).writes p.targets p.build.directories p.of) p.fated d c)) p.fated)

    all_end : (ps : List (Piece edition took)) (n : ℕ) (front : List End) → whole ≡ front ++ all_ends ps → length front ≡ n → AllZip (IsEnd whole) (jobs_after n (reached_of_all ps)) (all_ends ps)
    all_end [] n front is long = tt
    all_end (p ∷ ps) n front is long =
        let size = piece_directories p in
        zip_append (IsEnd whole) (map (job_after n) p.reached) (jobs_after (n + length p.reached) (reached_of_all ps)) (ends_of p) (all_ends ps)
        (piece_ends p n (λ k lt. end_within whole front (ends_of p) (all_ends ps) n is long k (omega (arith, lt, size))))
        (all_end ps (n + length p.reached) (front ++ ends_of p) (is ∙ sym (append_assoc front (ends_of p) (all_ends ps))) (omega (arith, length-append front (ends_of p), piece_size p, long)))

  -- ---- what is told

  abbrev places_of_all : List (Piece edition took) → List (List Place)
  places_of_all ps = map (λ (reached : List ReachedDirectory). map (λ (r : ReachedDirectory). r.place) reached) (reached_of_all ps)

  abbrev rows_of_all : List (Piece edition took) → List (List (List ℕ × DirectoryVerdict))
  rows_of_all ps = map report_of (builds_of ps)

  pub places_same : (ds : List Directory) → map (λ (r : ReachedDirectory). r.place) (map (reached_by edition) ds) ≡ map place_in ds
  places_same [] = refl
  places_same (d ∷ ds) = ap (λ ps. place_in d ∷ ps) (places_same ds)

  module _ (whole : List End) (result : ℕ → Option Action) (results : (j : ℕ) → result j ≡ end_result (end_at whole j)) (compiled : (j : ℕ) → IsCompiled (end_at whole j)) where
    piece_told : (p : Piece edition took) (n : ℕ) → ((k : ℕ) → k < length p.build.directories → end_at whole (n + k) ≡ end_at (ends_of p) k)
        → (rows : List (List ℕ × DirectoryVerdict)) → AreVerdicts result n (map (λ (r : ReachedDirectory). r.place) p.reached) rows → rows ≡ report_of p.build
    piece_told p n within rows told =
        told_report edition p.build.fates result n p.build.directories p.build.fates rows p.fated
        (λ j lt. (results (n + j) ∙ ap end_result (within j lt), subst IsCompiled (within j lt) (compiled (n + j))))
        (subst (λ (ps : List Place). AreVerdicts result n ps rows) (ap (map (λ (r : ReachedDirectory). r.place)) p.same ∙ places_same p.build.directories) told)

    all_told : (ps : List (Piece edition took)) (n : ℕ) (front : List End) → whole ≡ front ++ all_ends ps → length front ≡ n → (rows : List (List (List ℕ × DirectoryVerdict))) → AllAreVerdicts result n (places_of_all ps) rows → rows ≡ rows_of_all ps
    all_told [] n front is long [] told = refl
    all_told [] n front is long (row ∷ rows) told = absurd told
    all_told (p ∷ ps) n front is long [] told = absurd told
    all_told (p ∷ ps) n front is long (row ∷ rows) told =
        let size = piece_directories p in
        let here = piece_told p n (λ k lt. end_within whole front (ends_of p) (all_ends ps) n is long k (omega (arith, lt, size))) row told.0 in
        let rest = all_told ps (n + length p.reached) (front ++ ends_of p) (is ∙ sym (append_assoc front (ends_of p) (all_ends ps))) (omega (arith, length-append front (ends_of p), piece_size p, long)) rows
        (subst (λ m. AllAreVerdicts result (n + m) (places_of_all ps) rows) (length-map p.reached (λ (r : ReachedDirectory). r.place)) told.1) in
        ap (λ (x : List (List ℕ × DirectoryVerdict)). x ∷ rows) here ∙ ap (λ xs. report_of p.build ∷ xs) rest

  -- ---- the run

  module _ (ps : List (Piece edition took)) (cache : FinMap id_cmp Action) (E : List Action) (stands : CacheStandsFor cache E) (reports : List Report) (added : FinMap id_cmp Action) (run : IsRun cache (reached_of_all ps) reports added) (clear : AreClear E (all_actions edition (builds_of ps))) where
    jobs_are : run.board.opening.jobs ≡ jobs_after 0 (reached_of_all ps)
    jobs_are = ap (λ (o : Opening). o.jobs) run.opening

    cache_is : run.board.opening.cache ≡ cache
    cache_is = ap (λ (o : Opening). o.cache) run.opening

    comes : HasResultsOf run.board E (all_ends ps)
    comes =
        let ranks = all_ranked ps in
        run.ends E ranks.0 (all_ends ps) (subst (λ (m : FinMap id_cmp Action). CacheStandsFor m E) (sym cache_is) stands) (subst (IsRanked ranks.0) (sym jobs_are) ranks.1)
        (subst (λ js. AreEnds js (all_ends ps)) (sym jobs_are) (all_end (all_ends ps) ps 0 [] refl refl))
        (subst (λ (F : List Action). AreClear F (end_results (all_ends ps))) (sym (append-nil E)) (subst (λ (F : List Action). AreClear E F) (sym (all_came ps)) clear))

    count_of : (rs : List Report) → All (λ r. r.compiled ≡ count_by is_finish run.board.history) rs → (r : Report) → Contains rs r → r.compiled ≡ count_by is_finish run.board.history
    count_of [] h r c = absurd (none_in_empty r c)
    count_of (x ∷ rs) h r c = elim (head_or_later x rs r c) [
      | inl e ↦ subst (λ (z : Report). z.compiled ≡ count_by is_finish run.board.history) e (All-head (λ (z : Report). z.compiled ≡ count_by is_finish run.board.history) x rs h)
      | inr l ↦ count_of rs (All-tail (λ (z : Report). z.compiled ≡ count_by is_finish run.board.history) x rs h) r l
    ]

    pub run_says : map report_rows reports ≡ map report_of (builds_of ps)
    run_says = all_told (all_ends ps) (result_at run.board) comes.told (λ j a r e. comes.compiled j a r e) ps 0 [] refl refl (map report_rows reports) run.told

    pub run_counts : (r : Report) → Contains reports r → r.compiled ≡ compiled_count E (all_actions edition (builds_of ps))
    run_counts r c = count_of reports run.counts r c ∙ comes.count ∙ ap (compiled_count E) (all_came ps)

    pub run_sized : AllSized (all_actions edition (builds_of ps))
    run_sized = subst AllSized (all_came ps) comes.sized

    pub run_holds : CacheStandsFor (joined lesser cache added) (E ++ all_actions edition (builds_of ps))
    run_holds =
        subst (λ (m : FinMap id_cmp Action). CacheStandsFor (joined lesser m added) (E ++ all_actions edition (builds_of ps))) cache_is
        (subst (λ (m : FinMap id_cmp Action). CacheStandsFor (joined lesser run.board.opening.cache m) (E ++ all_actions edition (builds_of ps))) (sym run.added_are)
        (subst (λ (z : List Action). CacheStandsFor (joined lesser run.board.opening.cache run.board.state.added) (E ++ z)) (all_came ps) comes.stands))
