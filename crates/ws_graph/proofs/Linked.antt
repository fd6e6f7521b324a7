-- Directories with the faults of their imports are the plan of the build.
use Rattle.std.proofs.Common.{◌≡◌, ℕ, zero, suc, ◌+◌, ◌<◌, Bool, true, List, [], ◌∷◌, ◌++◌, map, length, Option, Some, None, refl, sym, ap, ◌∙◌, subst, inl, inr, arith}
use Rattle.std.specs.List.{AllZip, Contains, slice_get}
use Rattle.std.specs.List.Sorted.{IsStrictlySortedBy}
use Rattle.std.specs.Global.{Vec}
use Rattle.go_text.specs.declared.edition.Edition.{Edition}
use Rattle.go_text.specs.Faults.{Fault}
use Rattle.ws_version.specs.Writes.{path_cmp}
use Rattle.ws_reach.specs.Reach.{Edge, rows_of}
use Rattle.ws_reach.proofs.Reached.{reaches_more, reaches_stay, get_contains, contains_get}
use Rattle.ws_graph.specs.Packages.{package_files}
use Rattle.ws_graph.specs.Plan.{Planned, NoFiles, Faulty, Sound, IsPlan}
use Rattle.ws_graph.specs.BuildPlan.{Sources, Imports, HasImports, HasNoFiles, IsMainPackage, IsPlannedAs, Directory, paths_of, AreNumbers, IsReachedFromTargets, IsJointPlan}
use Rattle.std.proofs.lemmas.List.{length-append}
use Rattle.ws_graph.specs.Node.{planned_of, directory_of}
use Rattle.ws_graph.specs.declared.planning.Directory.{Directory as CodeDirectory}
use Rattle.ws_graph.specs.Discovery.{AreTargetsOf, AreNumbersOf, AreAll, AreLinks, IsFound, IsLinkedAt, ImportLeads, IsFaultAt, of_missing, of_cycle, of_program, TargetFault, planned_with}
use Rattle.ws_graph.specs.declared.target.Target.{Target}
use Rattle.ws_graph.specs.declared.wave.Found.{Found}
use Rattle.ws_graph.specs.declared.link.Links.{Links}
use Rattle.ws_graph.proofs.Leading.{IsClosed, HasImported, ToNumber, numbers_lead}
use Rattle.ws_graph.proofs.Faults.{Numbered, all_agree, fault_moved, sound_moved}
use Rattle.ws_graph.proofs.RankedPlan.{length-paths}

-- ---- lists by place

pub zip_left : {A B : Type 0} (R : A → B → Type 0) (xs : List A) (ys : List B) → AllZip R xs ys → (k : ℕ) (x : A) → slice_get xs k ≡ Some x → (y : B) × (slice_get ys k ≡ Some y) × R x y
zip_left R [] ys z k x at = cc (at)
zip_left R (x ∷ xs) [] z k w at = absurd z
zip_left R (x ∷ xs) (y ∷ ys) z zero w at = (y, refl, (let s : Some x ≡ Some w = at in let e : x ≡ w = cc in subst (λ v. R v y) e z.0))
zip_left R (x ∷ xs) (y ∷ ys) z (suc k) w at = zip_left R xs ys z.1 k w at

pub zip_right : {A B : Type 0} (R : A → B → Type 0) (xs : List A) (ys : List B) → AllZip R xs ys → (k : ℕ) (y : B) → slice_get ys k ≡ Some y → (x : A) × (slice_get xs k ≡ Some x) × R x y
zip_right R xs [] z k y at = cc (at)
zip_right R [] (y ∷ ys) z k w at = absurd z
zip_right R (x ∷ xs) (y ∷ ys) z zero w at = (x, refl, (let s : Some y ≡ Some w = at in let e : y ≡ w = cc in subst (R x) e z.0))
zip_right R (x ∷ xs) (y ∷ ys) z (suc k) w at = zip_right R xs ys z.1 k w at

pub map_left : {A B : Type 0} (f : A → B) (xs : List A) (k : ℕ) (y : B) → slice_get (map f xs) k ≡ Some y → (x : A) × (slice_get xs k ≡ Some x) × (y ≡ f x)
map_left f [] k y at = cc (at)
map_left f (x ∷ xs) zero y at = (x, refl, (let s : Some (f x) ≡ Some y = at in let e : f x ≡ y = cc in sym e))
map_left f (x ∷ xs) (suc k) y at = map_left f xs k y at

pub map_right : {A B : Type 0} (f : A → B) (xs : List A) (k : ℕ) (x : A) → slice_get xs k ≡ Some x → slice_get (map f xs) k ≡ Some (f x)
map_right f [] k x at = cc (at)
map_right f (y ∷ ys) zero x at = (let s : Some y ≡ Some x = at in let e : y ≡ x = cc in ap (λ z. Some (f z)) e)
map_right f (y ∷ ys) (suc k) x at = map_right f ys k x at

same_some : {A : Type 0} (x y : A) (o : Option A) → o ≡ Some x → o ≡ Some y → x ≡ y
same_some x y o e f = let both : Some x ≡ Some y = sym e ∙ f in cc

same_list : {A : Type 0} (xs ys : List A) → ((k : ℕ) (x : A) → slice_get xs k ≡ Some x → slice_get ys k ≡ Some x) → length xs ≡ length ys → xs ≡ ys
same_list [] [] h l = refl
same_list [] (y ∷ ys) h l = absurd (omega (arith, l))
same_list (x ∷ xs) [] h l = absurd (omega (arith, l))
same_list (x ∷ xs) (y ∷ ys) h l =
    let heads : Some y ≡ Some x = h 0 x refl in
    let e : x ≡ y = cc in
    ap (λ z. z ∷ xs) e ∙ ap (λ t. y ∷ t) (same_list xs ys (λ k. h (suc k)) (omega (arith, l)))

-- ---- each directory, from some number on

abbrev pub AreLinkedFrom : List (List ℕ) → Links → ℕ → List Found → List Directory → Type 0
AreLinkedFrom paths links k [] [] = Unit {0}
AreLinkedFrom paths links k [] (d ∷ ds) = ⊥
AreLinkedFrom paths links k (f ∷ fs) [] = ⊥
AreLinkedFrom paths links k (f ∷ fs) (d ∷ ds) = IsLinkedAt paths links k (planned_of f.node) d × AreLinkedFrom paths links (suc k) fs ds

pub linked_more : (paths : List (List ℕ)) (links : Links) (k j : ℕ) (fs : List Found) (ds : List Directory) (f : Found) (d : Directory) → j ≡ k + length fs → AreLinkedFrom paths links k fs ds → IsLinkedAt paths links j (planned_of f.node) d → AreLinkedFrom paths links k (fs ++ f ∷ []) (ds ++ d ∷ [])
linked_more paths links k j [] [] f d e all h = (let same : j ≡ k = omega (arith, e) in subst (λ n. IsLinkedAt paths links n (planned_of f.node) d) same h, tt)
linked_more paths links k j [] (x ∷ ds) f d e all h = absurd all
linked_more paths links k j (g ∷ fs) [] f d e all h = absurd all
linked_more paths links k j (g ∷ fs) (x ∷ ds) f d e all h = (all.0, linked_more paths links (suc k) j fs ds f d (omega (arith, e)) all.1 h)

pub linked_length : (paths : List (List ℕ)) (links : Links) (k : ℕ) (fs : List Found) (ds : List Directory) → AreLinkedFrom paths links k fs ds → length ds ≡ length fs
linked_length paths links k [] [] all = refl
linked_length paths links k [] (d ∷ ds) all = absurd all
linked_length paths links k (f ∷ fs) [] all = absurd all
linked_length paths links k (f ∷ fs) (d ∷ ds) all = ap suc (linked_length paths links (suc k) fs ds all.1)

linked_at : (paths : List (List ℕ)) (links : Links) (k j : ℕ) (fs : List Found) (ds : List Directory) (d : Directory) → AreLinkedFrom paths links k fs ds → slice_get ds j ≡ Some d → (f : Found) × (slice_get fs j ≡ Some f) × IsLinkedAt paths links (k + j) (planned_of f.node) d
linked_at paths links k j fs [] d all at = cc (at)
linked_at paths links k j [] (e ∷ ds) d all at = absurd all
linked_at paths links k zero (f ∷ fs) (e ∷ ds) d all at =
    let s : Some e ≡ Some d = at in
    let same : e ≡ d = cc in
    let place : k ≡ k + 0 = omega arith in
    (f, refl, subst (λ n. IsLinkedAt paths links n (planned_of f.node) d) place (subst (IsLinkedAt paths links k (planned_of f.node)) same all.0))
linked_at paths links k (suc j) (f ∷ fs) (e ∷ ds) d all at =
    let h = linked_at paths links (suc k) j fs ds d all.1 at in
    let place : suc k + j ≡ k + suc j = omega arith in
    (h.0, h.1, subst (λ n. IsLinkedAt paths links n (planned_of h.0.node) d) place h.2)

pub zip_length : {A B : Type 0} (R : A → B → Type 0) (xs : List A) (ys : List B) → AllZip R xs ys → length xs ≡ length ys
zip_length R [] [] z = refl
zip_length R [] (y ∷ ys) z = absurd z
zip_length R (x ∷ xs) [] z = absurd z
zip_length R (x ∷ xs) (y ∷ ys) z = ap suc (zip_length R xs ys z.1)

nothing_first : (xs : List Target) (y : Target) (ys : List Target) → xs ++ y ∷ ys ≡ [] → ⊥
nothing_first [] y ys e = cc (e)
nothing_first (x ∷ xs) y ys e = cc (e)

none_first : (closing : List (List ℕ)) (programs : List Bool) (here : ℕ) (targets : List Target) (target : Target) (fault : Fault) → targets ≡ [] → IsFaultAt closing programs here targets target fault → ⊥
none_first closing programs here targets target fault e (of_missing a is) = nothing_first a.front target a.rest (sym a.whole ∙ e)
none_first closing programs here targets target fault e (of_cycle n a is) = nothing_first a.front target a.rest (sym a.whole ∙ e)
none_first closing programs here targets target fault e (of_program n m a is) = nothing_first a.front target a.rest (sym a.whole ∙ e)

module _ (ed : Edition) (sources : Sources) (targets : List (List ℕ)) (paths : List (List ℕ)) (founds : List Found) (links : Links) (all : AreAll ed sources targets paths founds) (are : AreLinks paths founds links) where
  reached_files : (q : List ℕ) → Contains paths q → HasNoFiles sources q → ⊥
  reached_files q c =
      let way = (all.reached q).0 c in
      reaches_stay (Imports ed sources) (λ p. HasNoFiles sources p → ⊥) (λ y x h i. i.files) way.0 q way.2 (all.files way.0 way.1)

  closed : IsClosed ed sources paths
  closed a b here imports =
      let way = (all.reached a).0 here in
      (all.reached b).1 (way.0, way.1, reaches_more (Imports ed sources) way.0 a b way.2 imports)

  imported : (p : List ℕ) → Contains paths p → HasImported ed sources paths p
  imported p here = record { filed = λ q import c. reached_files q c; listed = λ q import files. closed p q here (record { import = import; files = files }) }

  -- the row at a number
  row_numbers : (k : ℕ) (path : List ℕ) (found : Found) (targets : Vec Target) (row : Vec ℕ) → slice_get paths k ≡ Some path → IsFound ed sources path found → AreTargetsOf paths (planned_of found.node) targets.items → AreNumbersOf targets row
      → (q : ℕ) → (Contains row.items q → ToNumber ed sources paths path q) × (ToNumber ed sources paths path q → Contains row.items q)
  row_numbers k path found targets row at is of numbers q =
      let lead = numbers_lead ed sources paths path (planned_of found.node) targets.items is.plan of all.ascending (imported path (get_contains paths k path at)) q in
      (λ c. lead.0 ((numbers.are q).0 c), λ t. (numbers.are q).1 (lead.1 t))

  rows_lead : (p q : ℕ) → Edge (rows_of links.rows.items) p q → ImportLeads ed sources paths p q
  rows_lead p q (row, at, c) =
      let v = map_left (λ (x : Vec ℕ). x.items) links.rows.items p row at in
      let targets = zip_right AreNumbersOf links.targets.items links.rows.items are.rows p v.0 v.1 in
      let found = zip_right (λ (f : Found) (ts : Vec Target). AreTargetsOf paths (planned_of f.node) ts.items) founds links.targets.items are.targets p targets.0 targets.1 in
      let path = zip_right (IsFound ed sources) paths founds all.founds_are p found.0 found.1 in
      let to = (row_numbers p path.0 found.0 targets.0 v.0 path.1 path.2 found.2 targets.2 q).0 (subst (λ (l : List ℕ). Contains l q) v.2 c) in
      record { from = path.0; to = to.0; at_from = path.1; at_to = to.1; imports = to.2 }

  lead_rows : (p q : ℕ) → ImportLeads ed sources paths p q → Edge (rows_of links.rows.items) p q
  lead_rows p q lead =
      let found = zip_left (IsFound ed sources) paths founds all.founds_are p lead.from lead.at_from in
      let targets = zip_left (λ (f : Found) (ts : Vec Target). AreTargetsOf paths (planned_of f.node) ts.items) founds links.targets.items are.targets p found.0 found.1 in
      let row = zip_left AreNumbersOf links.targets.items links.rows.items are.rows p targets.0 targets.1 in (
        row.0.items,
        map_right (λ (x : Vec ℕ). x.items) links.rows.items p row.0 row.1,
        (row_numbers p lead.from found.0 targets.0 row.0 lead.at_from found.2 targets.2 row.2 q).1 (lead.to, lead.at_to, lead.imports),
      )

  numbered : Numbered ed sources paths (rows_of links.rows.items) (rows_of links.closing.items) links.programs.items
  numbered = record {
    sorted = all.ascending;
    closed = closed;
    rows_lead = rows_lead;
    lead_rows = lead_rows;
    closing_from = λ q p e. (are.closing q p).0 e;
    closing_to = λ q p e r. (are.closing q p).1 (e, r);
    program_from = λ k q at is. (
        let f = map_left (λ (x : Found). x.program) founds k true (ap (λ (l : List Bool). slice_get l k) (sym are.programs) ∙ is) in
        let path = zip_right (IsFound ed sources) paths founds all.founds_are k f.0 f.1 in
        let same = same_some path.0 q (slice_get paths k) path.1 at in
        subst (IsMainPackage ed sources) same (path.2.program.0 (sym f.2)));
    program_to = λ k q at is. (
        let f = zip_left (IsFound ed sources) paths founds all.founds_are k q at in
        ap (λ (l : List Bool). slice_get l k) are.programs ∙ map_right (λ (x : Found). x.program) founds k f.0 f.1 ∙ ap Some (f.2.program.1 is));
  }

  planned_right : (here : ℕ) (path : List ℕ) → slice_get paths here ≡ Some path → (planned : Planned) (targets : List Target) (fault : Option Fault) → IsPlan ed (package_files path sources) planned → AreTargetsOf paths planned targets
      → TargetFault (rows_of links.closing.items) links.programs.items here targets fault → IsPlannedAs ed sources path (planned_with planned fault)
  planned_right here path at NoFiles targets fault plan of is = absurd (reached_files path (get_contains paths here path at) plan)
  planned_right here path at (Faulty f) targets None plan of is = inl plan
  planned_right here path at (Faulty f) targets (Some g) plan of is = absurd (none_first (rows_of links.closing.items) links.programs.items here targets is.0 g of is.1)
  planned_right here path at (Sound parsed) targets None plan of is =
      let has : HasImports ed sources path of.imports = record { parsed = parsed; sound = plan; are = of.are } in
      let agree = all_agree ed sources paths (rows_of links.rows.items) (rows_of links.closing.items) links.programs.items numbered path here at (imported path (get_contains paths here path at)) of.imports targets has of.targets_are in
      (plan, sound_moved ed sources path (rows_of links.closing.items) links.programs.items here of.imports targets agree has is)
  planned_right here path at (Sound parsed) targets (Some fault) plan of is =
      let has : HasImports ed sources path of.imports = record { parsed = parsed; sound = plan; are = of.are } in
      let agree = all_agree ed sources paths (rows_of links.rows.items) (rows_of links.closing.items) links.programs.items numbered path here at (imported path (get_contains paths here path at)) of.imports targets has of.targets_are in
      inr (record { imports = of.imports; has = has; is = fault_moved ed sources path (rows_of links.closing.items) links.programs.items here of.imports targets agree is.0 fault is.1 })

  -- one directory
  record IsRight (d : Directory) : Type 0 where
    planned : IsPlannedAs ed sources d.path d.planned
    numbers : AreNumbers ed sources paths d.path d.imports

  right_at : (k : ℕ) (found : Found) (d : Directory) → slice_get founds k ≡ Some found → IsLinkedAt paths links k (planned_of found.node) d → IsRight d
  right_at k found d at h =
      let path = zip_right (IsFound ed sources) paths founds all.founds_are k found at in
      let same = same_some path.0 d.path (slice_get paths k) path.1 h.path in
      let is : IsFound ed sources d.path found = subst (λ p. IsFound ed sources p found) same path.2 in
      let targets = zip_left (λ (f : Found) (ts : Vec Target). AreTargetsOf paths (planned_of f.node) ts.items) founds links.targets.items are.targets k found at in
      let same_targets = same_some targets.0 h.targets (slice_get links.targets.items k) targets.1 h.targets_at in
      let of : AreTargetsOf paths (planned_of found.node) h.targets.items = subst (λ (ts : Vec Target). AreTargetsOf paths (planned_of found.node) ts.items) same_targets targets.2 in
      let row = zip_left AreNumbersOf links.targets.items links.rows.items are.rows k h.targets h.targets_at in
      let same_row = same_some row.0 h.row (slice_get links.rows.items k) row.1 h.row_at in
      let numbers : AreNumbersOf h.targets h.row = subst (AreNumbersOf h.targets) same_row row.2 in
      record {
        planned = subst (IsPlannedAs ed sources d.path) (sym h.planned_is) (planned_right k d.path h.path (planned_of found.node) h.targets.items h.fault is.plan of h.fault_is);
        numbers = subst (AreNumbers ed sources paths d.path) (sym h.imports_are) (record {
          ascending = numbers.ascending;
          are = λ q. row_numbers k d.path found h.targets h.row h.path is of numbers q;
        });
      }

  pub build_plan : (ds : List Directory) → AreLinkedFrom paths links 0 founds ds → IsJointPlan ed sources targets ds
  build_plan ds linked =
      let same : paths_of ds ≡ paths = same_list (paths_of ds) paths (λ k p at. (
      let d = map_left (λ (x : Directory). x.path) ds k p at in
      let f = linked_at paths links 0 k founds ds d.0 linked d.1 in
      let place : 0 + k ≡ k = omega arith in
      subst (λ n. slice_get paths n ≡ Some p) place (f.2.path ∙ ap Some (sym d.2))))
      (length-paths ds ∙ linked_length paths links 0 founds ds linked ∙ sym (zip_length (IsFound ed sources) paths founds all.founds_are)) in
      let right : (d : Directory) → Contains ds d → IsRight d = λ d c. (
      let f = linked_at paths links 0 c.0 founds ds d linked (contains_get ds d c) in
      let place : 0 + c.0 ≡ c.0 = omega arith in
      right_at c.0 f.0 d f.1 (subst (λ n. IsLinkedAt paths links n (planned_of f.0.node) d) place f.2)) in
      record {
        files = all.files;
        ascending = subst (IsStrictlySortedBy path_cmp) (sym same) all.ascending;
        reached = subst (λ (ps : List (List ℕ)). (q : List ℕ) → (Contains ps q → IsReachedFromTargets ed sources targets q) × (IsReachedFromTargets ed sources targets q → Contains ps q)) (sym same) all.reached;
        planned = λ d c. (right d c).planned;
        imports = λ d c. subst (λ (ps : List (List ℕ)). AreNumbers ed sources ps d.path d.imports) (sym same) (right d c).numbers;
      }

-- ---- the directories of the code

pub length-directories : (ds : List CodeDirectory) → length (map directory_of ds) ≡ length ds
length-directories [] = refl
length-directories (d ∷ ds) = ap suc (length-directories ds)

pub below_founds : (paths : List (List ℕ)) (links : Links) (founds done rest : List Found) (f : Found) (ds : List CodeDirectory) → founds ≡ done ++ f ∷ rest → AreLinkedFrom paths links 0 done (map directory_of ds) → length ds < length founds
below_founds paths links founds done rest f ds e linked =
    omega (arith, ap length e, length-append done (f ∷ rest), linked_length paths links 0 done (map directory_of ds) linked, length-directories ds)
