-- The objects of a board that nobody works at are those of the target's packages.
use Rattle.std.proofs.Common.{◌≡◌, ℕ, zero, suc, ◌+◌, ◌<◌, Bool, true, false, List, [], ◌∷◌, ◌++◌, length, map, Option, None, Some, refl, sym, ap, subst, ◌∙◌, inl, inr, arith}
use Rattle.std.specs.Option.{option_or}
use Rattle.std.specs.List.{All, Contains, cons_option, filter_map, slice_get, zip}
use Rattle.std.specs.FinMap.{FinMap, get}
use Rattle.std.proofs.lemmas.List.{length-map}
use Rattle.std.proofs.lemmas.List.Elements.{All-nil, All-cons, All-head, All-tail, Contains-append_left}
use Rattle.std.proofs.lemmas.Grind.{flat_map-append}
use Rattle.std.proofs.lemmas.Option.{slice_get_within}
use Rattle.go_text.specs.declared.edition.Edition.{Edition}
use Rattle.go_text.specs.Faults.{Fault}
use Rattle.go_code.specs.Images.{Image}
use Rattle.go_code.specs.Packages.{Object}
use Rattle.go_typed.specs.Trees.{Package}
use Rattle.go_gen.specs.Translation.{object_of}
use Rattle.go_init.specs.Packages.{package_order}
use Rattle.go_init.proofs.Orders.{below, ranked}
use Rattle.go_link.specs.declared.link.LinkError.{LinkError}
use Rattle.go_link.specs.Links.{objects_in_order, link_refusal, linked}
use Rattle.go_translation_laws.proofs.Refusals.{linked_program}
use Rattle.ws_version.specs.Writes.{Write}
use Rattle.ws_register.specs.Sources.{HasFiles}
use Rattle.ws_action.specs.Actions.{Action, action_id}
use Rattle.ws_action.specs.Clash.{NoClash, AllSized, Includes, hashed, hashed_actions}
use Rattle.ws_action.proofs.Members.{at_head, later}
use Rattle.ws_action.proofs.OneAction.{one_action}
use Rattle.ws_board.specs.declared.work.JobStatus.{JobStatus}
use Rattle.ws_board.specs.declared.work.JobStatus.TheVariants.{Waiting, Ready, Running, Blocked as Stays, Done}
use Rattle.ws_board.specs.Machine.{Holdings, held, is_good_result, status_at, action_at}
use Rattle.ws_board.specs.Calls.{result_of, result_at}
use Rattle.ws_board.specs.Work.{Seen, Opening}
use Rattle.ws_board.specs.Ends.{End, end_result, AllGood, IsEndOfJob}
use Rattle.ws_board.specs.Ends as ends
use Rattle.ws_cache.specs.Compiles.{Compiled, Compiles}
use Rattle.ws_cache.specs.Compiles as compiled
use Rattle.ws_cache.specs.Held.{id_cmp, IsHeld, CacheStandsFor}
use Rattle.ws_cache.proofs.Joined.{cache_stands}
use Rattle.ws_cache.proofs.Outcomes.{one_outcome}
use Rattle.ws_graph.specs.BuildPlan.{Directory, IsBuildPlanOf, AreRanks}
use Rattle.ws_graph.proofs.RankedPlan.{ranked_build_plan}
use Rattle.ws_replica.specs.Jobs.{reached_by}
use Rattle.ws_replica.specs.Stopped.{IsOpened, IsObjectAt, LacksObjectAt, AreObjects, SomeLacks}
use Rattle.ws_replica.specs.Programs.{IsGood, IsHeldProgram, IsImageOf}
use Rattle.ws_replica.specs.Reports.{DirectoryOutcome, Stopped, Blocked, Wrong, Good, ArePackages, IsDirectoryOutcome, AreDirectoryOutcomes, TargetBuild, actions_of, action_in}
use Rattle.ws_replica.proofs.EndFates.{end_of, end_in, came_here, action_is}
use Rattle.ws_replica.proofs.Numbered.{some_same, at_member}
use Rattle.ws_replica.proofs.Numbered as numbered
use Rattle.ws_replica.proofs.OneBuild.{fate_of, at_fate, agree_refl, one_packages}
use Rattle.ws_replica.proofs.OpenedBoards.{shown}
use Rattle.ws_replica.proofs.SeveralPlans.{zip_length}
use Rattle.ws_replica.proofs.TargetPieces.{plan_inside}
use Rattle.ws_replica.proofs.WellTyped.{always_linked}

-- ---- the object of an end is that of the fate's package

abbrev object_in : End → Option Object
object_in ends.Blocked = None
object_in (ends.Came a (compiled.Good s o)) = Some o
object_in (ends.Came a (compiled.Faulty f)) = None

object_here : (edition : Edition) (fates : List DirectoryOutcome) (d : Directory) (f : DirectoryOutcome) → IsDirectoryOutcome fates d f → (a : Action) (r : Compiled) (o : Object) → end_of edition fates d f ≡ ends.Came a r → object_in (ends.Came a r) ≡ Some o → (p : Package) × (f ≡ Good p) × (o ≡ object_of p)
object_here edition fates d (Stopped fault) h a r o e is = cc (e)
object_here edition fates d Blocked h a r o e is = cc (e)
object_here edition fates d (Wrong fault) h a r o e is =
    let its = ap (λ (x : Option Action). object_in (end_in x (Wrong fault))) (action_is edition fates d h.0 h.1 h.2) in
    let none : None ≡ Some o = sym its ∙ ap object_in e ∙ is in cc (none)
object_here edition fates d (Good p) h a r o e is =
    let its = ap (λ (x : Option Action). object_in (end_in x (Good p))) (action_is edition fates d h.0 h.1 h.2) in
    (p, refl, sym (some_same (object_of p) o (sym its ∙ ap object_in e ∙ is)))

-- ---- lists

all_from : {X : Type 0} (P : X → Type 0) (xs : List X) → ((k : ℕ) (x : X) → slice_get xs k ≡ Some x → P x) → All P xs
all_from P [] h = All-nil P
all_from P (x ∷ xs) h = All-cons P x xs (h 0 x refl) (all_from P xs (λ k y at. h (suc k) y at))

pub all_at : {X : Type 0} (P : X → Type 0) (xs : List X) → All P xs → (k : ℕ) (x : X) → slice_get xs k ≡ Some x → P x
all_at P [] h k x at = cc (at)
all_at P (y ∷ xs) h zero x at = subst P (some_same y x at) (All-head P y xs h)
all_at P (y ∷ xs) h (suc k) x at = all_at P xs (All-tail P y xs h) k x at

pub there : {X : Type 0} (xs : List X) (k : ℕ) → k < length xs → (x : X) × (slice_get xs k ≡ Some x)
there [] k lt = absurd (omega (arith, lt))
there (x ∷ xs) zero lt = (x, refl)
there (x ∷ xs) (suc k) lt = there xs k (omega (arith, lt))

kept_cases : (P : Action → Type 0) (o : Option Action) (xs : List Action) → ((a : Action) → o ≡ Some a → P a) → All P xs → All P (cons_option o xs)
kept_cases P None xs h rest = rest
kept_cases P (Some a) xs h rest = All-cons P a xs (h a refl) rest

kept_all : {X : Type 0} (P : Action → Type 0) (g : X → Option Action) (xs : List X) → ((k : ℕ) (x : X) (a : Action) → slice_get xs k ≡ Some x → g x ≡ Some a → P a) → All P (filter_map g xs)
kept_all P g [] h = All-nil P
kept_all P g (x ∷ xs) h = kept_cases P (g x) (filter_map g xs) (λ a e. h 0 x a refl e) (kept_all P g xs (λ k y a at e. h (suc k) y a at e))

kept_head : (P : Action → Type 0) (o : Option Action) (xs : List Action) → All P (cons_option o xs) → ((a : Action) → o ≡ Some a → P a) × All P xs
kept_head P None xs h = (λ a e. cc (e), h)
kept_head P (Some b) xs h = (λ a e. subst P (some_same b a e) (All-head P b xs h), All-tail P b xs h)

kept_at : {X : Type 0} (P : Action → Type 0) (g : X → Option Action) (xs : List X) → All P (filter_map g xs) → (k : ℕ) (x : X) (a : Action) → slice_get xs k ≡ Some x → g x ≡ Some a → P a
kept_at P g [] h k x a at e = cc (at)
kept_at P g (y ∷ xs) h zero x a at e = (kept_head P (g y) (filter_map g xs) h).0 a (ap g (some_same y x at) ∙ e)
kept_at P g (y ∷ xs) h (suc k) x a at e = kept_at P g xs (kept_head P (g y) (filter_map g xs) h).1 k x a at e

zip_at : {A B : Type 0} (xs : List A) (ys : List B) (k : ℕ) (x : A) (y : B) → slice_get xs k ≡ Some x → slice_get ys k ≡ Some y → slice_get {X = A × B} (zip xs ys) k ≡ Some (x, y)
zip_at [] ys k x y g h = cc (g)
zip_at (a ∷ xs) [] k x y g h = cc (h)
zip_at (a ∷ xs) (b ∷ ys) zero x y g h = ap (λ z. Some (z, b)) (some_same a x g) ∙ ap (λ z. Some (x, z)) (some_same b y h)
zip_at (a ∷ xs) (b ∷ ys) (suc k) x y g h = zip_at xs ys k x y g h

of_zip : {A B : Type 0} (xs : List A) (ys : List B) (k : ℕ) (p : A × B) → slice_get {X = A × B} (zip xs ys) k ≡ Some p → (slice_get xs k ≡ Some p.0) × (slice_get ys k ≡ Some p.1)
of_zip [] ys k p e = cc (e)
of_zip {A} {B} (a ∷ xs) [] k p e = cc (e)
of_zip {A} {B} (a ∷ xs) (b ∷ ys) zero p e = (let same = some_same {X = A × B} (a, b) p e in (ap (λ (z : A × B). Some z.0) same, ap (λ (z : A × B). Some z.1) same))
of_zip (a ∷ xs) (b ∷ ys) (suc k) p e = of_zip xs ys k p e

-- ---- what is held

held_by : (E F : List Action) (clear : NoClash (hashed_actions (E ++ F))) (sized : AllSized E) (its entry : Action) (o rest : Option Action) → Contains E its → IsHeld E (action_id its) o → option_or o rest ≡ Some entry → entry ≡ its
held_by E F clear sized its entry None rest c h e = absurd (h its c refl)
held_by E F clear sized its entry (Some a) rest c h e =
    let first : Includes (hashed_actions (E ++ F)) (hashed_actions E) = λ s d. subst (λ T. Contains T s) (sym (flat_map-append hashed E F)) (Contains-append_left (hashed_actions E) (hashed_actions F) s d) in
    sym (some_same a entry e) ∙ one_action (hashed_actions (E ++ F)) E clear first sized a its h.among c h.known

is_there : (E : List Action) (its : Action) (o rest : Option Action) → Contains E its → IsHeld E (action_id its) o → (entry : Action) × (option_or o rest ≡ Some entry)
is_there E its None rest c h = absurd (h its c refl)
is_there E its (Some a) rest c h = (a, refl)

result_done : (at : Holdings) (s : JobStatus) (good : Bool) (o : Option Action) (a : Action) → s ≡ Done good → o ≡ Some a → result_of at s o ≡ at (action_id a)
result_done at s good o a e h = ap (λ z. result_of at z o) e ∙ ap (result_of at (Done good)) h

-- ---- the target's program

module _ (edition : Edition) (W : List Write) (paths : HasFiles W) (target : List ℕ) (build : TargetBuild) (of : IsBuildPlanOf edition W target build.directories) (are : AreDirectoryOutcomes build.directories build.fates) (E : List Action) (sized : AllSized E)
    (clear : NoClash (hashed_actions (E ++ actions_of edition build))) (cache : FinMap id_cmp Action) (stands : CacheStandsFor cache E) (seen : Seen) (opened : IsOpened (map (reached_by edition) build.directories) cache seen) where
  abbrev ds : List Directory
  ds = build.directories

  abbrev fates : List DirectoryOutcome
  fates = build.fates

  abbrev statuses : List JobStatus
  statuses = seen.state.standings.statuses

  abbrev actions : List (Option Action)
  actions = seen.state.standings.actions

  abbrev rows : List (List ℕ)
  rows = map (λ (d : Directory). d.imports) ds

  its_shown : (k : ℕ) (d : Directory) (f : DirectoryOutcome) → slice_get ds k ≡ Some d → slice_get fates k ≡ Some f → IsEndOfJob E statuses (map (λ j. 0 + j) d.imports) (end_of edition fates d f) (status_at statuses k) (action_at actions k)
  its_shown = shown edition W paths target build of are E sized clear cache stands seen opened

  cache_holds : (id : List ℕ) → IsHeld E id (get seen.opening.cache id)
  cache_holds = cache_stands seen.opening.cache E (subst (λ (m : FinMap id_cmp Action). CacheStandsFor m E) (sym (ap (λ (o : Opening). o.cache) opened.opening)) stands)

  -- how a job stands that is done
  record Shows (k : ℕ) (d : Directory) (f : DirectoryOutcome) : Type 0 where
    its : Action
    result : Compiled
    good : Bool
    status : status_at statuses k ≡ Done good
    has : action_at actions k ≡ Some its
    end : end_of edition fates d f ≡ ends.Came its result
    among : Contains E its
    goodness : good ≡ is_good_result result
    compiles : Compiles its result

  -- the result of a job that has one
  shows_by : (k : ℕ) (d : Directory) (f : DirectoryOutcome) (s : JobStatus) (a : Option Action) → status_at statuses k ≡ s → action_at actions k ≡ a → IsEndOfJob E statuses (map (λ j. 0 + j) d.imports) (end_of edition fates d f) s a
      → (entry : Action) → result_of (held seen.opening seen.state) s a ≡ Some entry → Shows k d f
  shows_by k d f Waiting a same also h entry e = cc (e)
  shows_by k d f Stays a same also h entry e = cc (e)
  shows_by k d f (Running hand) a same also h entry e = absurd h
  shows_by k d f Ready a same also h entry e = cc (e)
  shows_by k d f (Done good) a same also h entry e =
      let w = h.1 in
      record { its = w.0; result = w.1; good = good; status = same; has = also ∙ w.2; end = w.3; among = w.4; goodness = w.5; compiles = w.6 }

  -- what is held of a job that is done is its action's
  entry_is : (k : ℕ) (d : Directory) (f : DirectoryOutcome) (s : Shows k d f) (entry : Action) → result_at seen k ≡ Some entry → entry ≡ s.its
  entry_is k d f s entry e =
      let at : result_at seen k ≡ held seen.opening seen.state (action_id s.its) = result_done (held seen.opening seen.state) (status_at statuses k) s.good (action_at actions k) s.its s.status s.has in
      held_by E (actions_of edition build) clear sized s.its entry (get seen.opening.cache (action_id s.its)) (get seen.state.added (action_id s.its)) s.among (cache_holds (action_id s.its)) (sym at ∙ e)

  shows : (k : ℕ) (d : Directory) (f : DirectoryOutcome) → slice_get ds k ≡ Some d → slice_get fates k ≡ Some f → (entry : Action) → result_at seen k ≡ Some entry → Shows k d f
  shows k d f at its entry e = shows_by k d f (status_at statuses k) (action_at actions k) refl refl (its_shown k d f at its) entry e

  -- ---- where all objects are there

  -- what the object of a number says of its directory
  record Has (k : ℕ) (object : Object) : Type 0 where
    directory : Directory
    at : slice_get ds k ≡ Some directory
    typed : Package
    fate : slice_get fates k ≡ Some (Good typed)
    is : object ≡ object_of typed
    its : Action
    came : action_in edition fates directory (Good typed) ≡ Some its
    among : Contains E its

  has_by : (k : ℕ) (object : Object) (d : Directory) → slice_get ds k ≡ Some d → IsObjectAt seen k object → Has k object
  has_by k object d at here =
      let f = fate_of fates ds fates are k d at in
      let s = shows k d f.fate at f.at here.entry here.has in
      let same : here.entry ≡ s.its = entry_is k d f.fate s here.entry here.has in
      let result : s.result ≡ compiled.Good here.summary object =
      one_outcome s.its s.result (compiled.Good here.summary object) s.compiles (subst (λ (x : Action). Compiles x (compiled.Good here.summary object)) same here.compiles) in
      let end : end_of edition fates d f.fate ≡ ends.Came s.its (compiled.Good here.summary object) = s.end ∙ ap (ends.Came s.its) result in
      let good = object_here edition fates d f.fate f.is s.its (compiled.Good here.summary object) object end refl in
      record {
        directory = d;
        at = at;
        typed = good.0;
        fate = f.at ∙ ap Some good.1;
        is = good.2;
        its = s.its;
        came = subst (λ (x : DirectoryOutcome). action_in edition fates d x ≡ Some s.its) good.1 (sym (came_here edition fates d f.fate) ∙ ap end_result s.end);
        among = s.among;
      }

  module _ (objects : List Object) (have : AreObjects seen (length ds) objects) where
    has : (k : ℕ) → k < length ds → (object : Object) × (slice_get objects k ≡ Some object) × Has k object
    has k lt =
        let o = there objects k (omega (arith, lt, have.size)) in
        let d = there ds k lt in
        (o.0, o.1, has_by k o.0 d.0 d.1 (have.each k o.0 o.1))

    fates_length : length fates ≡ length ds
    fates_length = sym (zip_length (IsDirectoryOutcome fates) ds fates are)

    all_good : All IsGood fates
    all_good = all_from IsGood fates (λ k f at.
        let h = (has k (let lt = slice_get_within fates k f at in omega (arith, lt, fates_length))).2 in
        (h.typed, some_same f (Good h.typed) (sym at ∙ h.fate)))

    all_compiled : All (Contains E) (actions_of edition build)
    all_compiled = kept_all (Contains E) (λ (row : Directory × DirectoryOutcome). action_in edition fates row.0 row.1) (zip ds fates) (λ k row a at e.
        let two = of_zip ds fates k row at in
        let h = (has k (slice_get_within ds k row.0 two.0)).2 in
        let directory : row.0 ≡ h.directory = some_same row.0 h.directory (sym two.0 ∙ h.at) in
        let fate : row.1 ≡ Good h.typed = some_same row.1 (Good h.typed) (sym two.1 ∙ h.fate) in
        let its : action_in edition fates row.0 row.1 ≡ Some h.its = ap (λ d. action_in edition fates d row.1) directory ∙ ap (action_in edition fates h.directory) fate ∙ h.came in
        subst (Contains E) (some_same h.its a (sym its ∙ e)) h.among)

    packages_by : (ks : List ℕ) → All (λ k. k < length ds) ks → (ps : List Package) × ArePackages fates ks ps × (filter_map (slice_get objects) ks ≡ map object_of ps)
    packages_by [] h = ([], tt, refl)
    packages_by (k ∷ ks) h =
        let o = has k (All-head (λ j. j < length ds) k ks h) in
        let rest = packages_by ks (All-tail (λ j. j < length ds) k ks h) in (
          o.2.typed ∷ rest.0,
          (at_fate fates k (Good o.2.typed) o.2.fate, rest.1),
          ap (λ x. cons_option x (filter_map (slice_get objects) ks)) (o.1 ∙ ap Some o.2.is) ∙ ap (λ xs. object_of o.2.typed ∷ xs) rest.2,
        )

    rows_length : length rows ≡ length ds
    rows_length = length-map ds (λ (d : Directory). d.imports)

    ordered : (ps : List Package) × ArePackages fates (package_order rows) ps × (objects_in_order objects (package_order rows) ≡ map object_of ps)
    ordered = packages_by (package_order rows) (subst (λ n. All (λ k. k < n) (package_order rows)) rows_length (below rows))

    pub some_image : (image : Image) → link_refusal (objects_in_order objects (package_order rows)) ≡ None → image ≡ linked (objects_in_order objects (package_order rows)) → IsImageOf edition E build (Some image)
    some_image image allowed is =
        let ps = ordered in
        (ps.0, record { good = all_good; compiled = all_compiled; in_order = ps.1; program = linked_program ps.0 (ap link_refusal (sym ps.2) ∙ allowed) }, (objects, package_order rows, ps.2, (allowed, is)))

    pub refused_image : (e : LinkError) → link_refusal (objects_in_order objects (package_order rows)) ≡ Some e → IsImageOf edition E build None
    refused_image e refused packages h =
        let ps = ordered in
        let same : ps.0 ≡ packages = one_packages fates fates (package_order rows) ps.0 packages (agree_refl fates (package_order rows)) ps.1 h.in_order in
        let allowed : link_refusal (map object_of packages) ≡ None = always_linked edition W paths target build of are packages h.in_order h.program in
        let no : None ≡ Some e = sym allowed ∙ ap (λ xs. link_refusal (map object_of xs)) (sym same) ∙ ap link_refusal (sym ps.2) ∙ refused in
        cc (no)

  -- ---- where one isn't there

  module _ (packages : List Package) (program : IsHeldProgram edition E build packages) where
    held_at : (k : ℕ) (d : Directory) (f : DirectoryOutcome) (a : Action) → slice_get ds k ≡ Some d → slice_get fates k ≡ Some f → action_in edition fates d f ≡ Some a → Contains E a
    held_at k d f a at its e = kept_at (Contains E) (λ (row : Directory × DirectoryOutcome). action_in edition fates row.0 row.1) (zip ds fates) program.compiled k (d, f) a (zip_at ds fates k d f at its) e

    good_at : (k : ℕ) (f : DirectoryOutcome) → slice_get fates k ≡ Some f → (p : Package) × (f ≡ Good p)
    good_at k f its = all_at IsGood fates program.good k f its

    ranks : (rank : ℕ → ℕ) × AreRanks ds rank
    ranks = ranked_build_plan edition W target ds of

    abbrev Finished : ℕ → Type 0
    Finished k = (d : Directory) → slice_get ds k ≡ Some d → status_at statuses k ≡ Done true

    -- a good directory's job, whose imports are done, is done
    finished_by : (k : ℕ) (d : Directory) (f : DirectoryOutcome) (p : Package) → slice_get ds k ≡ Some d → slice_get fates k ≡ Some f → f ≡ Good p → IsDirectoryOutcome fates d f → AllGood statuses (map (λ j. 0 + j) d.imports)
        → (s : JobStatus) (a : Option Action) → IsEndOfJob E statuses (map (λ j. 0 + j) d.imports) (end_of edition fates d f) s a → s ≡ Done true
    finished_by k d f p at its good is imports Waiting a h = absurd (h.1 imports)
    finished_by k d f p at its good is imports Stays a h = absurd (none_blocked d f p good is h.1)
      where
        none_blocked : (d : Directory) (f : DirectoryOutcome) (p : Package) → f ≡ Good p → IsDirectoryOutcome fates d f → end_of edition fates d f ≡ ends.Blocked → ⊥
        none_blocked d f p good is e =
            let there = subst (IsDirectoryOutcome fates d) good is in
            let came : end_of edition fates d (Good p) ≡ end_in (Some _) (Good p) = ap (λ (x : Option Action). end_in x (Good p)) (action_is edition fates d there.0 there.1 there.2) in
            let no = sym came ∙ ap (end_of edition fates d) (sym good) ∙ e in
            cc (no)
    finished_by k d f p at its good is imports (Running hand) a h = absurd h
    finished_by k d f p at its good is imports Ready a h =
        let w = h.1 in absurd (w.4 (held_at k d f w.0 at its (sym (came_here edition fates d f) ∙ ap end_result w.3)))
    finished_by k d f p at its good is imports (Done on) a h =
        let w = h.1 in
        ap Done (w.5 ∙ good_of d f p good is w.0 w.1 w.3)
      where
        good_of : (d : Directory) (f : DirectoryOutcome) (p : Package) → f ≡ Good p → IsDirectoryOutcome fates d f → (x : Action) (r : Compiled) → end_of edition fates d f ≡ ends.Came x r → is_good_result r ≡ true
        good_of d f p good is x (compiled.Good s o) e = refl
        good_of d f p good is x (compiled.Faulty fault) e =
            let there = subst (IsDirectoryOutcome fates d) good is in
            let came = ap (λ (y : Option Action). object_in (end_in y (Good p))) (action_is edition fates d there.0 there.1 there.2) in
            let no : Some (object_of p) ≡ None = sym came ∙ ap (λ g. object_in (end_of edition fates d g)) (sym good) ∙ ap object_in e in
            cc (no)

    imports_done : (ks : List ℕ) → ((j : ℕ) → Contains ks j → status_at statuses j ≡ Done true) → AllGood statuses (map (λ j. 0 + j) ks)
    imports_done [] h = All-nil (λ j. status_at statuses j ≡ Done true)
    imports_done (k ∷ ks) h = All-cons (λ j. status_at statuses j ≡ Done true) (0 + k) (map (λ j. 0 + j) ks)
        (subst (λ j. status_at statuses j ≡ Done true) (let z : k ≡ 0 + k = omega arith in z) (h k (at_head ks k k refl)))
        (imports_done ks (λ j c. h j (later k ks j c)))

    finished_step : (k : ℕ) → ((j : ℕ) → ranks.0 j < ranks.0 k → Finished j) → Finished k
    finished_step k below d at =
        let f = fate_of fates ds fates are k d at in
        let good = good_at k f.fate f.at in
        let is : IsDirectoryOutcome fates d (Good good.0) = subst (IsDirectoryOutcome fates d) good.1 f.is in
        finished_by k d f.fate good.0 at f.at good.1 f.is
        (imports_done d.imports (λ j c.
        let other = there ds j (plan_inside edition W target ds of d (at_member ds k d at) j c) in
        below j (ranks.1 k j d is.0 at (is.2).sound c) other.0 other.1))
        (status_at statuses k) (action_at actions k) (its_shown k d f.fate at f.at)

    all_finished : (k : ℕ) → Finished k
    all_finished = numbered.ranked ranks.0 Finished finished_step

    shows_if : (k : ℕ) (d : Directory) (f : DirectoryOutcome) (s : JobStatus) (a : Option Action) → status_at statuses k ≡ s → action_at actions k ≡ a → IsEndOfJob E statuses (map (λ j. 0 + j) d.imports) (end_of edition fates d f) s a → s ≡ Done true → Shows k d f
    shows_if k d f Waiting a same also h e = cc (e)
    shows_if k d f Stays a same also h e = cc (e)
    shows_if k d f (Running hand) a same also h e = absurd h
    shows_if k d f Ready a same also h e = cc (e)
    shows_if k d f (Done good) a same also h e =
        let w = h.1 in
        record { its = w.0; result = w.1; good = good; status = same; has = also ∙ w.2; end = w.3; among = w.4; goodness = w.5; compiles = w.6 }

    same_done : (a b : Bool) → Done a ≡ Done b → a ≡ b
    same_done a b e = cc (e)

    faulty_or_good : (a : Action) (r : Compiled) (entry : Action) (fault : Fault) → is_good_result r ≡ true → Compiles a r → entry ≡ a → Compiles entry (compiled.Faulty fault) → ⊥
    faulty_or_good a r entry fault good h same k =
        let one : r ≡ compiled.Faulty fault = one_outcome a r (compiled.Faulty fault) h (subst (λ (x : Action). Compiles x (compiled.Faulty fault)) same k) in
        let no : false ≡ true = sym (ap is_good_result one) ∙ good in
        cc (no)

    lacks_by : (k : ℕ) (d : Directory) (f : DirectoryOutcome) → status_at statuses k ≡ Done true → Shows k d f → LacksObjectAt seen k → ⊥
    lacks_by k d f done s lack =
        let good : is_good_result s.result ≡ true = sym s.goodness ∙ same_done s.good true (sym s.status ∙ done) in
        let at : result_at seen k ≡ held seen.opening seen.state (action_id s.its) = result_done (held seen.opening seen.state) (status_at statuses k) s.good (action_at actions k) s.its s.status s.has in
        let entry = is_there E s.its (get seen.opening.cache (action_id s.its)) (get seen.state.added (action_id s.its)) s.among (cache_holds (action_id s.its)) in
        elim lack [
          | inl none ↦ (let no : None ≡ Some entry.0 = sym none ∙ at ∙ entry.1 in cc (no))
          | inr (other, fault, has, faulty) ↦ faulty_or_good s.its s.result other fault good s.compiles (entry_is k d f s other has) faulty
        ]

    pub none_lacks : SomeLacks seen (length ds) → ⊥
    none_lacks (k, lt, lack) =
        let d = there ds k lt in
        let f = fate_of fates ds fates are k d.0 d.1 in
        let done = all_finished k d.0 d.1 in
        lacks_by k d.0 f.fate done (shows_if k d.0 f.fate (status_at statuses k) (action_at actions k) refl refl (its_shown k d.0 f.fate d.1 f.at) done) lack

  pub lacking_image : SomeLacks seen (length ds) → IsImageOf edition E build None
  lacking_image lack packages h = none_lacks packages h lack
