-- The plans of the replicas' targets, one replica after another, and each target's part of them.
use Rattle.std.proofs.Common.{◌≡◌, ◌+◌, ◌<◌, ◌==◌, ℕ, zero, suc, Bool, true, false, List, [], ◌∷◌, ◌++◌, map, length, take, Some, refl, sym, ap, subst, ◌∙◌, inl, inr, arith, append-nil}
use Rattle.std.specs.Prelude.{Vec}
use Rattle.std.specs.List.{AllZip, Contains, slice_get}
use Rattle.std.specs.List.Sorted.{IsStrictlySortedBy, IsStrictlyIncreasing}
use Rattle.std.specs.FinMap.{entries}
use Rattle.std.specs.Global.{Global}
use Rattle.std.proofs.lemmas.List.{length-map, map-append}
use Rattle.std.proofs.lemmas.List.Elements.{Contains-push_cases}
use Rattle.std.proofs.lemmas.Option.{slice_get_within}
use Rattle.go_text.specs.declared.edition.Edition.{Edition}
use Rattle.ws_version.specs.Writes.{Write, held_cmp, path_cmp}
use Rattle.ws_version.proofs.Writes.{path_cmp_total, path_cmp-IsAntisymmetric}
use Rattle.ws_version.specs.Laws.{held_cmp_total}
use Rattle.ws_map.specs.Kept.{StandsFor}
use Rattle.ws_map.proofs.Itself.{stands_for-entries}
use Rattle.ws_register.specs.Edits.{Contents}
use Rattle.ws_action.proofs.Members.{none_in_empty}
use Rattle.ws_graph.specs.BuildPlan.{Directory, paths_of, IsJointPlanOf, SomeHasNoFiles}
use Rattle.ws_graph.proofs.Linked.{map_left, map_right}
use Rattle.ws_graph.proofs.RankedPlan.{length-paths}
use Rattle.ws_graph.proofs.Sorted.{one_place}
use Rattle.ws_reach.specs.Reach.{Edge, Reaches, EdgesStayWithin, rows_of}
use Rattle.ws_reach.proofs.Reached.{get_contains}
use Rattle.ws_replica.specs.Builds.{took_at, target_of, LacksPackage}
use Rattle.ws_replica.specs.Holdings.{Replica, Took, AllStandFor}
use Rattle.ws_replica.specs.Jobs.{ReachedDirectory}
use Rattle.ws_replica.specs.Parts.{target_part, reached_paths, reached_rows, all_rows_of, ArePart, IsPartOf, AllPartsWithin}
use Rattle.ws_replica.specs.Targets.{directories_at, IsReachedBy, IsReached, AreReachedOf, AreInOrder}
use Rattle.ws_replica.specs.declared.building.Target.{Target}
use Rattle.ws_replica.specs.declared.parts.Part.{Part as RustPart}
use Rattle.ws_replica.proofs.Numbered.{some_same}
use Rattle.ws_replica.proofs.TargetParts.{kept, from_directories, paths_same, rows_same}
use Rattle.ws_replica.proofs.TargetPieces.{stands_at}
use Rattle.ws_replica.proofs.TargetSteps.{target_at, targets_next, zip_push}

abbrev Pair : Type 0
Pair = ℕ × List ℕ

-- ---- directories

directories_step : (k : ℕ) (t : Pair) (ts us : List Pair) (b : Bool) → (t.0 == k) ≡ b → directories_at (ts ++ us) k ≡ directories_at ts k ++ directories_at us k → directories_at (t ∷ ts ++ us) k ≡ directories_at (t ∷ ts) k ++ directories_at us k
directories_step k t ts us true e h = kept k t (ts ++ us) true e ∙ ap (λ ds. t.1 ∷ ds) h ∙ ap (λ ds. ds ++ directories_at us k) (sym (kept k t ts true e))
directories_step k t ts us false e h = kept k t (ts ++ us) false e ∙ h ∙ ap (λ ds. ds ++ directories_at us k) (sym (kept k t ts false e))

directories_append : (k : ℕ) (ts us : List Pair) → directories_at (ts ++ us) k ≡ directories_at ts k ++ directories_at us k
directories_append k [] us = refl
directories_append k (t ∷ ts) us = directories_step k t ts us (t.0 == k) refl (directories_append k ts us)

-- one more target
pub directories_next : (targets : List Target) (i k : ℕ) (old new : List (List ℕ)) → i < length targets → new ≡ old ++ directories_at (target_of (target_at targets i) ∷ []) k → old ≡ directories_at (map target_of (take i targets)) k
    → new ≡ directories_at (map target_of (take (i + 1) targets)) k
directories_next targets i k old new within more h =
    more ∙ ap (λ ds. ds ++ directories_at (target_of (target_at targets i) ∷ []) k) h
    ∙ sym (directories_append k (map target_of (take i targets)) (target_of (target_at targets i) ∷ []))
    ∙ sym (ap (λ ts. directories_at ts k) (targets_next targets i within))

pub directories_other : (t : Pair) (k : ℕ) (old : List (List ℕ)) → (t.0 == k) ≡ false → old ≡ old ++ directories_at (t ∷ []) k
directories_other t k old e = sym (append-nil old) ∙ ap (λ ds. old ++ ds) (sym (kept k t [] false e))

pub directories_one : (t : Pair) (k : ℕ) (old new : List (List ℕ)) → (t.0 == k) ≡ true → new ≡ old ++ t.1 ∷ [] → new ≡ old ++ directories_at (t ∷ []) k
directories_one t k old new e more = more ∙ ap (λ ds. old ++ ds) (sym (kept k t [] true e))

-- ---- plans

at_push : {A : Type 0} (P : ℕ → A → Type 0) (xs : List A) (x : A) → ((k : ℕ) (y : A) → slice_get xs k ≡ Some y → P k y) → P (length xs) x → (k : ℕ) (y : A) → slice_get (xs ++ x ∷ []) k ≡ Some y → P k y
at_push P [] x h p zero y e = subst (P 0) (some_same x y e) p
at_push P [] x h p (suc k) y e = cc (e)
at_push P (z ∷ xs) x h p zero y e = h 0 y e
at_push P (z ∷ xs) x h p (suc k) y e = at_push (λ j. P (suc j)) xs x (λ j w at. h (suc j) w at) p k y e

-- one more replica's
pub planned_next : (edition : Edition) (replicas : List Replica) (targets : List Pair) (done new : List (List ReachedDirectory)) (x : List ReachedDirectory) → new ≡ done ++ x ∷ [] → IsReached edition replicas targets (length done) x → AreReachedOf edition replicas targets done → AreReachedOf edition replicas targets new
planned_next edition replicas targets done new x push is h k rs at =
    at_push (IsReached edition replicas targets) done x h is k rs (subst (λ zs. slice_get zs k ≡ Some rs) push at)

-- a replica without package files in a target's directory
pub lacks_at : (edition : Edition) (replicas : List Replica) (targets : List Pair) (k : ℕ) (r : Replica) (ds : List (List ℕ)) → slice_get replicas k ≡ Some r → ds ≡ directories_at targets k → ((W : List Write) → StandsFor held_cmp r.registers W → SomeHasNoFiles edition W ds)
    → (took : List Took) → AllStandFor replicas took → LacksPackage edition took targets
lacks_at edition replicas targets k r ds at same none took stand =
    let lacks = none (took_at took k).writes (stands_at replicas took stand k r at).registers in
    (k, lacks.0, from_directories k targets lacks.0 (subst (λ xs. Contains xs lacks.0) same lacks.1), lacks.2)

-- what was reached is in order
pub in_order : (edition : Edition) (registers : Contents) (targets : List (List ℕ)) (reached : List ReachedDirectory) → IsReachedBy edition registers targets reached → AreInOrder reached
in_order edition registers targets reached h = record {
  ascending = subst (IsStrictlySortedBy path_cmp) (sym paths) joint.2.ascending;
  within = subst EdgesStayWithin (sym rows) (λ p q e.
      let d = map_left (λ (x : Directory). x.imports) ds p e.0 e.1 in
      let there = ((joint.2.imports d.0 (get_contains ds p d.0 d.1)).are q).0 (subst (λ (l : List ℕ). Contains l q) d.2 e.2) in
      let lt = slice_get_within (paths_of ds) q there.0 there.1 in
      omega (arith, lt, length-paths ds, length-map ds (λ (d : Directory). d.imports)));
}
  where
    ds : List Directory
    ds = h.directories

    joint : IsJointPlanOf edition (entries registers) targets ds
    joint = h.planned (entries registers) (stands_for-entries path_cmp_total path_cmp-IsAntisymmetric held_cmp_total registers)

    paths : reached_paths reached ≡ paths_of ds
    paths = ap reached_paths h.same ∙ paths_same edition ds

    rows : reached_rows reached ≡ map (λ (d : Directory). d.imports) ds
    rows = ap reached_rows h.same ∙ rows_same edition ds

-- ---- parts

-- the numbers that a directory's number reaches
pub part_found : (paths rows : List (List ℕ)) (target : List ℕ) (start : ℕ) (numbers : List ℕ) → IsStrictlySortedBy path_cmp paths → slice_get paths start ≡ Some target → IsStrictlyIncreasing numbers
    → ((k : ℕ) → (Contains numbers k → Reaches (Edge rows) start k) × (Reaches (Edge rows) start k → Contains numbers k)) → ArePart paths rows target numbers
part_found paths rows target start numbers sorted at ascending are = record {
  ascending = ascending;
  are = λ k. (
    λ c. (start, at, (are k).0 c),
    λ (n, there, way). (are k).1 (subst (λ m. Reaches (Edge rows) m k) (one_place path_cmp path_cmp_total paths sorted target n start there at) way),
  );
}

-- a directory that isn't reached
pub part_none : (paths rows : List (List ℕ)) (target : List ℕ) (numbers : List ℕ) → ¬ (Contains paths target) → numbers ≡ [] → ArePart paths rows target numbers
part_none paths rows target numbers none empty = record {
  ascending = subst IsStrictlyIncreasing (sym empty) (λ i lt. absurd (omega (arith, lt)));
  are = λ k. (
    λ c. absurd (none_in_empty k (subst (λ ks. Contains ks k) empty c)),
    λ (n, there, way). absurd (none (get_contains paths n target there)),
  );
}

-- a path's number is a row's
pub rows_length : (reached : List ReachedDirectory) (rows : List (Vec ℕ Global)) (k : ℕ) (path : List ℕ) → rows_of rows ≡ reached_rows reached → slice_get (reached_paths reached) k ≡ Some path → k < length rows
rows_length reached rows k path same at =
    let lt = slice_get_within (reached_paths reached) k path at in
    let long : length rows ≡ length reached = sym (length-map rows (λ (v : Vec ℕ Global). v.items)) ∙ ap length same ∙ length-map reached (λ (r : ReachedDirectory). r.imports) in
    omega (arith, lt, long, length-map reached (λ (r : ReachedDirectory). r.place.path))

-- the rows at a replica's number are those of what is reached from it
pub rows_found : (rows shown : List (Vec (Vec ℕ Global) Global)) (all : List (List ReachedDirectory)) (k : ℕ) (found : List (Vec ℕ Global)) (reached : List ReachedDirectory) → shown ≡ rows → all_rows_of rows ≡ map reached_rows all → slice_get (all_rows_of shown) k ≡ Some (rows_of found) → slice_get all k ≡ Some reached → rows_of found ≡ reached_rows reached
rows_found rows shown all k found reached same are at there =
    some_same (rows_of found) (reached_rows reached) (sym at ∙ ap (λ rs. slice_get (all_rows_of rs) k) same ∙ ap (λ rs. slice_get rs k) are ∙ map_right reached_rows all k reached there)

-- one more target's part
pub parts_next : (all : List (List ReachedDirectory)) (targets : List Target) (i : ℕ) (done new : List RustPart) (x : RustPart) (reached : List ReachedDirectory) → i < length targets → new ≡ done ++ x ∷ [] → x.replica ≡ (target_at targets i).replica → slice_get all (target_at targets i).replica ≡ Some reached
    → ArePart (reached_paths reached) (reached_rows reached) (target_at targets i).directory.now x.numbers.items → AllZip (IsPartOf all) (map target_of (take i targets)) (map target_part done) → AllZip (IsPartOf all) (map target_of (take (i + 1) targets)) (map target_part new)
parts_next all targets i done new x reached within push replica at are h =
    subst (λ ts. AllZip (IsPartOf all) ts (map target_part new)) (sym (targets_next targets i within))
    (subst (AllZip (IsPartOf all) (map target_of (take i targets) ++ target_of (target_at targets i) ∷ [])) (sym (ap (map target_part) push ∙ map-append target_part done (x ∷ [])))
    (zip_push (IsPartOf all) (map target_of (take i targets)) (map target_part done) (target_of (target_at targets i)) (target_part x) h (record { reached = reached; at = at; replica = replica; are = are })))

pub within_next : (count : ℕ) (done new : List RustPart) (x : RustPart) → new ≡ done ++ x ∷ [] → x.replica < count → AllPartsWithin count done → AllPartsWithin count new
within_next count done new x push lt h p c = elim (Contains-push_cases done x p (subst (λ (ps : List RustPart). Contains ps p) push c)) [
  | inl l ↦ h p l
  | inr same ↦ subst (λ (q : RustPart). q.replica < count) same lt
]

pub within_none : (count : ℕ) (parts : List RustPart) → parts ≡ [] → AllPartsWithin count parts
within_none count parts none p c = absurd (none_in_empty p (subst (λ (ps : List RustPart). Contains ps p) none c))
