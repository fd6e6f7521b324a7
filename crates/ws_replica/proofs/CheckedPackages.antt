-- The packages of a plan, in their order, are without fault behind those that stand before, and of the plan's edition.
use Rattle.std.proofs.Common.{◌≡◌, ◌≢◌, ℕ, suc, ◌<◌, List, [], ◌∷◌, ◌++◌, length, map, Some, refl, sym, ap, subst, ◌∙◌, arith}
use Rattle.std.specs.Option.{option_map}
use Rattle.std.specs.List.{All, Contains, slice_get}
use Rattle.std.proofs.lemmas.List.{length-map}
use Rattle.std.proofs.lemmas.List.Elements.{All-nil, All-cons}
use Rattle.std.proofs.lemmas.Option.{slice_get-map}
use Rattle.go_text.specs.declared.edition.Edition.{Edition}
use Rattle.go_ast.specs.Parse.{Parsed}
use Rattle.go_ast.specs.Trees.{File}
use Rattle.go_typed.specs.Trees.{Package}
use Rattle.go_check.specs.Checked.{package_edition, fmt}
use Rattle.go_check.specs.Names.{importable_of}
use Rattle.go_init.specs.Packages.{package_order}
use Rattle.go_init.proofs.Orders as orders
use Rattle.go_package_laws.specs.Packages.{AreOfTexts, IsChecked, AreChecked}
use Rattle.go_package_laws.proofs.Given.{AreBefore, checked_each}
use Rattle.ws_reach.specs.Reach.{Edge}
use Rattle.ws_version.specs.Writes.{Write}
use Rattle.ws_register.specs.Sources.{HasFiles}
use Rattle.ws_action.proofs.Members.{at_head, later}
use Rattle.ws_cache.specs.Compiles.{AreGood}
use Rattle.ws_graph.specs.Packages.{package_files}
use Rattle.ws_graph.specs.Plan.{IsSound}
use Rattle.ws_graph.specs.BuildPlan.{Directory, IsBuildPlanOf, IsPlannedAs, paths_of}
use Rattle.ws_replica.specs.Reports.{DirectoryOutcome, Good, outcome_at, ArePackages, IsReady, IsDirectoryOutcome, AreDirectoryOutcomes}
use Rattle.ws_replica.proofs.Numbered.{at_member, member_at}
use Rattle.ws_replica.proofs.OneBuild.{fate_of, at_fate}
use Rattle.ws_replica.proofs.OrderedPackages.{one_number, cut_at, number_of, package_of, one_good}
use Rattle.ws_replica.proofs.PlanMakes.{package_at, sound_edition, typed_edition}
use Rattle.ws_replica.proofs.SourceTexts.{files_are_text, trees_are_of_texts}
use Rattle.ws_replica.proofs.TargetPieces.{plan_inside}

all_members : (P : Package → Type 0) (ps : List Package) → ((p : Package) → Contains ps p → P p) → All P ps
all_members P [] h = All-nil P
all_members P (p ∷ ps) h = All-cons P p ps (h p (at_head ps p p refl)) (all_members P ps (λ q c. h q (later p ps q c)))

each_at : (P : Package → Type 0) (ps : List Package) → ((place : ℕ) (p : Package) → slice_get ps place ≡ Some p → P p) → All P ps
each_at P [] h = All-nil P
each_at P (p ∷ ps) h = All-cons P p ps (h 0 p refl) (each_at P ps (λ place q at. h (suc place) q at))

abbrev pub rows_of : List Directory → List (List ℕ)
rows_of ds = map (λ (d : Directory). d.imports) ds

-- numbers of good directories, each once and behind the good ones that it imports
pub record AreOrdered (ds : List Directory) (fates : List DirectoryOutcome) (ordered : List ℕ) : Type 0 where
  pub behind : (before after : List ℕ) (k j : ℕ) → ordered ≡ before ++ k ∷ after → Edge (rows_of ds) k j → j < length (rows_of ds) → (q : Package) → outcome_at fates j ≡ Good q → Contains before j
  pub once : (before after : List ℕ) (k : ℕ) → ordered ≡ before ++ k ∷ after → ¬ (Contains before k)

module _ (edition : Edition) (W : List Write) (has : HasFiles W) (target : List ℕ) (ds : List Directory) (fates : List DirectoryOutcome) (of : IsBuildPlanOf edition W target ds) (are : AreDirectoryOutcomes ds fates) (numbers : List ℕ) (stand : AreOrdered ds fates numbers) (packages : List Package) (order : ArePackages fates numbers packages) where
  -- the directory of a package, at that place in their order
  pub record Placed (place : ℕ) (p : Package) : Type 0 where
    pub number : ℕ
    pub at : slice_get numbers place ≡ Some number
    pub directory : Directory
    pub there : slice_get ds number ≡ Some directory
    pub path : p.path ≡ directory.path
    pub files : List Parsed
    pub imports : List Package
    pub ready : IsReady fates directory files imports
    pub good : AreGood directory.path files (map importable_of imports) p

  pub placed : (place : ℕ) (p : Package) → slice_get packages place ≡ Some p → Placed place p
  placed place p at =
      let k = number_of fates numbers packages order place p at in
      let d = package_at ds fates are k.0 p k.2 in
      let f = fate_of fates ds fates are k.0 d.0 d.1 in
      let is : IsDirectoryOutcome fates d.0 (Good p) = subst (IsDirectoryOutcome fates d.0) (sym (at_fate fates k.0 f.fate f.at) ∙ k.2) f.is in
      record { number = k.0; at = k.1; directory = d.0; there = d.1; path = d.2; files = is.0; imports = is.1; ready = is.2; good = is.3 }

  module _ (place : ℕ) (p : Package) (its : Placed place p) where
    abbrev directory : Directory
    directory = its.directory

    path_there : slice_get (paths_of ds) its.number ≡ Some directory.path
    path_there = slice_get-map (λ (d : Directory). d.path) ds its.number ∙ ap (option_map (λ (d : Directory). d.path)) its.there

    among : Contains ds directory
    among = at_member ds its.number directory its.there

    edge : (j : ℕ) → Contains directory.imports j → Edge (rows_of ds) its.number j
    edge j c = (directory.imports, slice_get-map (λ (d : Directory). d.imports) ds its.number ∙ ap (option_map (λ (d : Directory). d.imports)) its.there, c)

    inside : (j : ℕ) → Contains directory.imports j → j < length (rows_of ds)
    inside j c = (let lt = plan_inside edition W target ds of directory among j c in omega (arith, lt, length-map ds (λ (d : Directory). d.imports)))

    module _ (others : List Package) (same : AreBefore packages place others) where
      found_at : (i k : ℕ) → i < place → slice_get numbers i ≡ Some k → (q : Package) → outcome_at fates k ≡ Good q → Contains others q
      found_at i k lt at q is =
          let found = package_of fates numbers packages order i k at in
          (same q).1 (i, lt, found.1 ∙ ap Some (one_good fates k found.0 q found.2 is))

      -- what it imports stands before it
      stands_before : (q : Package) → Contains its.imports q → Contains others q
      stands_before q c =
          let at = member_at its.imports q c in
          let k = number_of fates directory.imports its.imports its.ready.good at.0 q at.1 in
          let import : Contains directory.imports k.0 = at_member directory.imports at.0 k.0 k.1 in
          let cut = cut_at numbers place its.number its.at in
          let before = cut.from k.0 (stand.behind cut.before cut.after its.number k.0 cut.whole (edge k.0 import) (inside k.0 import) q k.2) in
          found_at before.0 k.0 before.1 before.2 q k.2

    -- no other before it has its path
    not_again : (other : ℕ) (q : Package) → Placed other q → other < place → p.path ≢ q.path
    not_again other q second lt e =
        let paths : second.directory.path ≡ directory.path = sym second.path ∙ sym e ∙ its.path in
        let at : slice_get (paths_of ds) second.number ≡ Some directory.path =
        slice_get-map (λ (d : Directory). d.path) ds second.number ∙ ap (option_map (λ (d : Directory). d.path)) second.there ∙ ap Some paths in
        let one : second.number ≡ its.number = one_number (paths_of ds) of.2.ascending directory.path second.number its.number at path_there in
        let cut = cut_at numbers place its.number its.at in
        stand.once cut.before cut.after its.number cut.whole (cut.into other its.number lt (second.at ∙ ap Some one))

    -- its files are texts
    pub sound : IsSound edition (package_files directory.path of.0) its.files
    sound = by (of.2.planned directory among)
      where
        by : IsPlannedAs edition of.0 directory.path directory.planned → IsSound edition (package_files directory.path of.0) its.files
        by h = (subst (IsPlannedAs edition of.0 directory.path) its.ready.sound h).0

    -- it is of the edition of its files
    of_edition : p.edition ≡ edition
    of_edition = typed_edition directory.path its.files (map importable_of its.imports) p its.good ∙ sound_edition edition (package_files directory.path of.0) its.files sound

    abbrev trees : List File
    trees = its.good.are.trees

    texts : AreOfTexts (package_edition its.files) trees
    texts =
        subst (λ e. AreOfTexts e trees) (sym (sound_edition edition (package_files directory.path of.0) its.files sound))
        (trees_are_of_texts edition its.files trees sound.parses.parses its.good.are.parse (files_are_text edition W has of.0 of.1 directory.path its.files sound))

    is_checked : (others : List Package) → AreBefore packages place others → IsChecked others p
    is_checked others same = record {
      path = directory.path;
      edition = package_edition its.files;
      files = trees;
      names = map (λ (f : Parsed). f.name) its.files;
      libraries = fmt ∷ [];
      imported = its.imports;
      are_libraries = (refl, tt);
      stand_before = all_members (Contains others) its.imports (stands_before others same);
      sources = texts;
      typed = its.good.are.is;
      new = all_members (λ (q : Package). p.path ≢ q.path) others (λ q c. (let s = (same q).0 c in not_again s.0 q (placed s.0 q s.2) s.1));
      ordered = its.good.ordered;
    }

  pub ordered_edition : All (λ (p : Package). p.edition ≡ edition) packages
  ordered_edition = each_at (λ (p : Package). p.edition ≡ edition) packages (λ place p at. of_edition place p (placed place p at))

  pub ordered_checked : AreChecked packages
  ordered_checked = checked_each packages (λ place p at others same. is_checked place p (placed place p at) others same)

ordered_once : (ds : List Directory) (fates : List DirectoryOutcome) → AreOrdered ds fates (package_order (rows_of ds))
ordered_once ds fates = record { behind = λ before after k j whole leads lt q good. orders.behind (rows_of ds) before after k j whole leads lt; once = orders.once (rows_of ds) }

-- in package order, where all are good
pub all_edition : (edition : Edition) (W : List Write) → HasFiles W → (target : List ℕ) (ds : List Directory) (fates : List DirectoryOutcome) → IsBuildPlanOf edition W target ds → AreDirectoryOutcomes ds fates
    → (packages : List Package) → ArePackages fates (package_order (rows_of ds)) packages → All (λ (p : Package). p.edition ≡ edition) packages
all_edition edition W has target ds fates of are packages order = ordered_edition edition W has target ds fates of are (package_order (rows_of ds)) (ordered_once ds fates) packages order

pub all_checked : (edition : Edition) (W : List Write) → HasFiles W → (target : List ℕ) (ds : List Directory) (fates : List DirectoryOutcome) → IsBuildPlanOf edition W target ds → AreDirectoryOutcomes ds fates
    → (packages : List Package) → ArePackages fates (package_order (rows_of ds)) packages → AreChecked packages
all_checked edition W has target ds fates of are packages order = ordered_checked edition W has target ds fates of are (package_order (rows_of ds)) (ordered_once ds fates) packages order
