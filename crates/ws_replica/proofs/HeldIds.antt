-- The rows of a board that nobody works at are the ids of its directories.
use Rattle.std.proofs.Common.{◌≡◌, ℕ, zero, suc, ◌+◌, ◌<◌, Bool, true, List, [], ◌∷◌, ◌++◌, length, map, Option, None, Some, refl, sym, ap, subst, ◌∙◌, arith}
use Rattle.std.specs.List.{All, AllZip, Contains, slice_get, zip}
use Rattle.std.specs.FinMap.{FinMap}
use Rattle.std.proofs.lemmas.List.Elements.{All-nil, All-cons, All-head, All-tail}
use Rattle.go_text.specs.declared.edition.Edition.{Edition}
use Rattle.ws_version.specs.Writes.{Write}
use Rattle.ws_register.specs.Sources.{HasFiles}
use Rattle.ws_action.specs.Actions.{Action, action_id}
use Rattle.ws_action.specs.Clash.{NoClash, AllSized, hashed_actions}
use Rattle.ws_action.proofs.Members.{at_head, later}
use Rattle.ws_board.specs.declared.work.JobStatus.{JobStatus}
use Rattle.ws_board.specs.declared.work.JobStatus.TheVariants.{Waiting, Ready, Running, Blocked as Stays, Done}
use Rattle.ws_board.specs.Machine.{status_at, action_at}
use Rattle.ws_board.specs.Work.{Seen, BoardState}
use Rattle.ws_board.specs.Ends.{End, end_result, AllGood, IsEndOfJob}
use Rattle.ws_cache.specs.Held.{id_cmp, CacheStandsFor}
use Rattle.ws_graph.specs.BuildPlan.{Directory, IsBuildPlanOf}
use Rattle.ws_report.specs.declared.IdStatus.{IdStatus}
use Rattle.ws_report.specs.declared.IdStatus.TheVariants.{NoId, Absent, Held}
use Rattle.ws_replica.specs.Ids.{id_status_at, IsHeldGood, IsIdStatus, IsIdRow, AreIdRows}
use Rattle.ws_replica.specs.Jobs.{Place, reached_by}
use Rattle.ws_replica.specs.Stopped.{IsOpened, id_status_by, id_status_in, rows_from}
use Rattle.ws_replica.specs.Reports.{DirectoryOutcome, IsDirectoryOutcome, AreDirectoryOutcomes, TargetBuild, actions_of, action_in}
use Rattle.ws_replica.proofs.EndFates.{end_of, came_here, place_in}
use Rattle.ws_replica.proofs.Numbered.{at_member}
use Rattle.ws_replica.proofs.OpenedBoards.{shown, is_done, done_good}
use Rattle.ws_replica.proofs.TargetPieces.{plan_inside}

-- ---- how an action stands

none_stands : (E : List Action) (Imports : Type 0) (a : Option Action) → (Imports → ⊥) → IsIdStatus E Imports a NoId
none_stands E Imports None bad = refl
none_stands E Imports (Some a) bad = bad

right_by : (E : List Action) (Imports : Type 0) (statuses : List JobStatus) (ks : List ℕ) (end : End) (its : Option Action) → end_result end ≡ its → (AllGood statuses ks → Imports) → (Imports → AllGood statuses ks)
    → (s : JobStatus) (a : Option Action) → IsEndOfJob E statuses ks end s a → IsIdStatus E Imports its (id_status_by s a)
right_by E Imports statuses ks end its same to from Waiting a h = none_stands E Imports its (λ i. h.1 (from i))
right_by E Imports statuses ks end its same to from Stays a h =
    subst (λ o. IsIdStatus E Imports o NoId) (sym (ap end_result h.1) ∙ same) refl
right_by E Imports statuses ks end its same to from (Running hand) a h = absurd h
right_by E Imports statuses ks end its same to from Ready a h =
    let w = h.1 in
    subst (λ o. IsIdStatus E Imports its (id_status_by Ready o)) (sym w.2)
    (subst (λ o. IsIdStatus E Imports o (Absent (action_id w.0))) (sym (ap end_result w.3) ∙ same) (to h.0, w.4, refl))
right_by E Imports statuses ks end its same to from (Done good) a h =
    let w = h.1 in
    subst (λ o. IsIdStatus E Imports its (id_status_by (Done good) o)) (sym w.2)
    (subst (λ o. IsIdStatus E Imports o (Held (action_id w.0))) (sym (ap end_result w.3) ∙ same) (to h.0, w.4, refl))

-- what stands as held is done
held_done : (s : JobStatus) (a : Option Action) (id : List ℕ) → id_status_by s a ≡ Held id → (good : Bool) × (s ≡ Done good)
held_done Waiting a id e = cc (e)
held_done Stays a id e = cc (e)
held_done (Running hand) a id e = cc (e)
held_done Ready None id e = cc (e)
held_done Ready (Some a) id e = cc (e)
held_done (Done good) None id e = cc (e)
held_done (Done good) (Some a) id e = (good, refl)

-- the row of a number
row_at : (state : BoardState) (n : ℕ) (places : List Place) (k : ℕ) → k < length places → id_status_at (rows_from state n places) k ≡ id_status_in state (n + k)
row_at state n [] k lt = absurd (omega (arith, lt))
row_at state n (p ∷ places) zero lt = ap (id_status_in state) (let z : n ≡ n + 0 = omega arith in z)
row_at state n (p ∷ places) (suc k) lt = row_at state (suc n) places k (omega (arith, lt)) ∙ ap (id_status_in state) (let z : suc n + k ≡ n + suc k = omega arith in z)

module _ (edition : Edition) (W : List Write) (paths : HasFiles W) (target : List ℕ) (build : TargetBuild) (of : IsBuildPlanOf edition W target build.directories) (are : AreDirectoryOutcomes build.directories build.fates) (E : List Action) (sized : AllSized E)
    (clear : NoClash (hashed_actions (E ++ actions_of edition build))) (cache : FinMap id_cmp Action) (stands : CacheStandsFor cache E) (seen : Seen) (opened : IsOpened (map (reached_by edition) build.directories) cache seen) where
  abbrev ds : List Directory
  ds = build.directories

  abbrev rows : List (List ℕ × IdStatus)
  rows = rows_from seen.state 0 (map place_in ds)

  places_length : (xs : List Directory) → length (map place_in xs) ≡ length xs
  places_length [] = refl
  places_length (x ∷ xs) = ap suc (places_length xs)

  row_is : (k : ℕ) → k < length ds → id_status_at rows k ≡ id_status_in seen.state k
  row_is k lt = row_at seen.state 0 (map place_in ds) k (let l = places_length ds in omega (arith, l, lt)) ∙ ap (id_status_in seen.state) (let z : 0 + k ≡ k = omega arith in z)

  held_good : (k : ℕ) → k < length ds → status_at seen.state.standings.statuses (0 + k) ≡ Done true → IsHeldGood build rows k
  held_good k lt e =
      let done = is_done edition W paths target build of are E sized clear cache stands seen opened k (subst (λ j. status_at seen.state.standings.statuses j ≡ Done true) (let z : 0 + k ≡ k = omega arith in z) e) in (
        done.typed,
        action_id done.its,
        done.good,
        row_is k lt ∙ ap (λ s. id_status_by s (action_at seen.state.standings.actions k)) done.status ∙ ap (id_status_by (Done true)) done.has,
      )

  good_held : (k : ℕ) → k < length ds → IsHeldGood build rows k → status_at seen.state.standings.statuses (0 + k) ≡ Done true
  good_held k lt (typed, id, good, held) =
      let done = held_done (status_at seen.state.standings.statuses k) (action_at seen.state.standings.actions k) id (sym (row_is k lt) ∙ held) in
      subst (λ j. status_at seen.state.standings.statuses j ≡ Done true) (let z : k ≡ 0 + k = omega arith in z)
      (done_good edition W paths target build of are E sized clear cache stands seen opened k typed done.0 good done.1)

  all_held : (ks : List ℕ) → ((k : ℕ) → Contains ks k → k < length ds) → AllGood seen.state.standings.statuses (map (λ j. 0 + j) ks) → All (IsHeldGood build rows) ks
  all_held [] inside h = All-nil (IsHeldGood build rows)
  all_held (k ∷ ks) inside h = All-cons (IsHeldGood build rows) k ks
      (held_good k (inside k (at_head ks k k refl)) (All-head (λ j. status_at seen.state.standings.statuses j ≡ Done true) (0 + k) (map (λ j. 0 + j) ks) h))
      (all_held ks (λ j c. inside j (later k ks j c)) (All-tail (λ j. status_at seen.state.standings.statuses j ≡ Done true) (0 + k) (map (λ j. 0 + j) ks) h))

  all_good : (ks : List ℕ) → ((k : ℕ) → Contains ks k → k < length ds) → All (IsHeldGood build rows) ks → AllGood seen.state.standings.statuses (map (λ j. 0 + j) ks)
  all_good [] inside h = All-nil (λ j. status_at seen.state.standings.statuses j ≡ Done true)
  all_good (k ∷ ks) inside h = All-cons (λ j. status_at seen.state.standings.statuses j ≡ Done true) (0 + k) (map (λ j. 0 + j) ks)
      (good_held k (inside k (at_head ks k k refl)) (All-head (IsHeldGood build rows) k ks h))
      (all_good ks (λ j c. inside j (later k ks j c)) (All-tail (IsHeldGood build rows) k ks h))

  row_right : (k : ℕ) (d : Directory) (f : DirectoryOutcome) → Contains ds d → slice_get ds k ≡ Some d → slice_get build.fates k ≡ Some f → IsIdStatus E (All (IsHeldGood build rows) d.imports) (action_in edition build.fates d f) (id_status_in seen.state k)
  row_right k d f among at its =
      let inside = plan_inside edition W target ds of d among in
      right_by E (All (IsHeldGood build rows) d.imports) seen.state.standings.statuses (map (λ j. 0 + j) d.imports) (end_of edition build.fates d f) (action_in edition build.fates d f) (came_here edition build.fates d f)
      (all_held d.imports inside) (all_good d.imports inside) (status_at seen.state.standings.statuses k) (action_at seen.state.standings.actions k)
      (shown edition W paths target build of are E sized clear cache stands seen opened k d f at its)

  rows_right : (n : ℕ) (xs : List Directory) (fs : List DirectoryOutcome) → AllZip (IsDirectoryOutcome build.fates) xs fs → ((j : ℕ) (d : Directory) (f : DirectoryOutcome) → slice_get xs j ≡ Some d → slice_get fs j ≡ Some f → IsIdStatus E (All (IsHeldGood build rows) d.imports) (action_in edition build.fates d f) (id_status_in seen.state (n + j)))
      → AllZip (IsIdRow edition E build rows) (zip xs fs) (rows_from seen.state n (map place_in xs))
  rows_right n [] fs h each = tt
  rows_right n (d ∷ xs) [] h each = absurd h
  rows_right n (d ∷ xs) (f ∷ fs) h each = (
    (refl, subst (λ j. IsIdStatus E (All (IsHeldGood build rows) d.imports) (action_in edition build.fates d f) (id_status_in seen.state j)) (let z : n + 0 ≡ n = omega arith in z) (each 0 d f refl refl)),
    rows_right (suc n) xs fs h.1 (λ j e g at its. subst (λ m. IsIdStatus E (All (IsHeldGood build rows) e.imports) (action_in edition build.fates e g) (id_status_in seen.state m)) (let z : n + suc j ≡ suc n + j = omega arith in z) (each (suc j) e g at its)),
  )

  pub are_id_rows : AreIdRows edition E build rows
  are_id_rows = rows_right 0 ds build.fates are (λ j d f at its.
      subst (λ m. IsIdStatus E (All (IsHeldGood build rows) d.imports) (action_in edition build.fates d f) (id_status_in seen.state m)) (let z : j ≡ 0 + j = omega arith in z)
      (row_right j d f (at_member ds j d at) at its))
