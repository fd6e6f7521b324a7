-- What a build of several targets says, and what the replicas then hold.
use Rattle.std.proofs.Common.{◌≡◌, ℕ, zero, suc, ◌+◌, Bool, true, false, ◌||◌, ◌==◌, List, [], ◌∷◌, ◌++◌, map, Option, Some, None, refl, sym, ap, subst, ◌∙◌, inl, inr, arith}
use Rattle.std.specs.Prelude.{if◌then◌else◌, option_map}
use Rattle.std.specs.List.{AllZip, slice_get, Contains, flat_map}
use Rattle.std.specs.FinMap.{FinMap}
use Rattle.std.proofs.lemmas.Bool.{eqb-true}
use Rattle.std.proofs.lemmas.Option.{slice_get-map}
use Rattle.std.proofs.lemmas.List.Elements.{Contains-append_left, Contains-append_right, Contains-append_cases}
use Rattle.go_text.specs.declared.edition.Edition.{Edition}
use Rattle.ws_version.specs.Writes.{held_cmp}
use Rattle.ws_map.specs.Kept.{StandsFor, SameMembers, joined}
use Rattle.ws_register.specs.Edits.{Contents}
use Rattle.ws_action.specs.Actions.{Action}
use Rattle.ws_action.specs.Clash.{NoClash, AllSized, hashed, hashed_actions}
use Rattle.ws_action.proofs.Members.{none_in_empty, head_or_later, at_head, later}
use Rattle.ws_board.specs.Ends.{AreClear}
use Rattle.ws_cache.specs.Count.{compiled_count}
use Rattle.ws_cache.specs.Held.{id_cmp, IsHeld, CacheStandsFor}
use Rattle.ws_cache.specs.Joined.{lesser}
use Rattle.ws_cache.proofs.Joined.{one_cache}
use Rattle.ws_report.specs.declared.Report.{Report}
use Rattle.ws_replica.specs.Builds.{took_at, held_at, held_by, builds, StandsAfter, AreBuildsOfTargets, AreBuilt, AreBuiltFrom, AllTookSized, HoldAll}
use Rattle.ws_replica.specs.Holdings.{Replica, ReplicaStandsFor, Took, AllStandFor}
use Rattle.ws_replica.specs.Jobs.{ReachedDirectory, report_rows, IsRun}
use Rattle.ws_replica.specs.Parts.{TargetPart, IsPartOf, IsRunOf}
use Rattle.ws_replica.specs.Reports.{TargetBuild, report_of, all_actions}
use Rattle.ws_replica.specs.Targets.{directories_at, IsReached, AreReached, IsOpening, HaveCache, TakeResults}
use Rattle.ws_replica.proofs.Numbered.{some_same}
use Rattle.ws_replica.proofs.SameCounts.{same_count}
use Rattle.ws_replica.proofs.TargetParts.{Owns, owns_of, own_builds, owns_are, owns_tell, owns_count, same_actions}
use Rattle.ws_replica.proofs.TargetPieces.{Piece, Pieces, pieces_of, builds_of, reached_of_all, run_says, run_counts, run_sized, run_holds}

-- ---- sets of actions

hashed_by : (E : List Action) (s : List ℕ) → Contains (hashed_actions E) s → (a : Action) × Contains E a × Contains (hashed a) s
hashed_by [] s c = absurd (none_in_empty s c)
hashed_by (x ∷ E) s c = elim (Contains-append_cases (hashed x) (hashed_actions E) s c) [
  | inl l ↦ (x, at_head E x x refl, l)
  | inr r ↦ (let rest = hashed_by E s r in (rest.0, later x E rest.0 rest.1, rest.2))
]

hashed_from : (E : List Action) (a : Action) → Contains E a → (s : List ℕ) → Contains (hashed a) s → Contains (hashed_actions E) s
hashed_from [] a c s h = absurd (none_in_empty a c)
hashed_from (x ∷ E) a c s h = elim (head_or_later x E a c) [
  | inl e ↦ Contains-append_left (hashed x) (hashed_actions E) s (subst (λ (z : Action). Contains (hashed z) s) (sym e) h)
  | inr l ↦ Contains-append_right (hashed x) (hashed_actions E) s (hashed_from E a l s h)
]

members_hold : (E F : List Action) → ((a : Action) → Contains E a → Contains F a) → ((a : Action) → Contains F a → Contains E a) → (id : List ℕ) (held : Option Action) → IsHeld E id held → IsHeld F id held
members_hold E F to from id None h = λ a c e. h a (from a c) e
members_hold E F to from id (Some a) h = record { among = to a h.among; known = h.known; least = λ b c e. h.least b (from b c) e }

-- a cache stands for any list of the same members
pub same_stands : (m : FinMap id_cmp Action) (E F : List Action) → SameMembers E F → CacheStandsFor m E → CacheStandsFor m F
unfolding CacheStandsFor
same_stands m E F same h id = members_hold E F (λ a. (same a).0) (λ a. (same a).1) id _ (h id)

-- ---- what the replicas of targets took

taken_at : (took : List Took) (k : ℕ) (a : Action) → Contains (took_at took k).actions a → Contains (flat_map (λ (t : Took). t.actions) took) a
taken_at [] k a c = absurd (none_in_empty a c)
taken_at (t ∷ took) zero a c = Contains-append_left t.actions (flat_map (λ (t : Took). t.actions) took) a c
taken_at (t ∷ took) (suc k) a c = Contains-append_right t.actions (flat_map (λ (t : Took). t.actions) took) a (taken_at took k a c)

held_taken : (took : List Took) (targets : List (ℕ × List ℕ)) (a : Action) → Contains (held_by took targets) a → Contains (flat_map (λ (t : Took). t.actions) took) a
held_taken took [] a c = absurd (none_in_empty a c)
held_taken took (t ∷ targets) a c = elim (Contains-append_cases (took_at took t.0).actions (held_by took targets) a c) [
  | inl l ↦ taken_at took t.0 a l
  | inr r ↦ held_taken took targets a r
]

pub held_sized : (took : List Took) (targets : List (ℕ × List ℕ)) → AllTookSized took → AllSized (held_by took targets)
held_sized took targets sized a c = sized a (held_taken took targets a c)

-- what a replica that builds took is held by the targets
named_held : (took : List Took) (targets : List (ℕ × List ℕ)) (k : ℕ) → builds targets k ≡ true → (a : Action) → Contains (took_at took k).actions a → Contains (held_by took targets) a
named_held took [] k named a c = cc
named_held took (t ∷ targets) k named a c = by_test (t.0 == k) refl named (λ h. named_held took targets k h a c)
  where
    by_test : (b : Bool) → (t.0 == k) ≡ b → (b || builds targets k) ≡ true → (builds targets k ≡ true → Contains (held_by took targets) a) → Contains (held_by took (t ∷ targets)) a
    by_test true e h rest = Contains-append_left (took_at took t.0).actions (held_by took targets) a (subst (λ j. Contains (took_at took j).actions a) (sym (eqb-true t.0 k e)) c)
    by_test false e h rest = Contains-append_right (took_at took t.0).actions (held_by took targets) a (rest h)

-- ---- replicas by number

stands_with : (replicas : List Replica) (took : List Took) → AllStandFor replicas took → (k : ℕ) (t : Took) → slice_get took k ≡ Some t → (r : Replica) × (slice_get replicas k ≡ Some r) × ReplicaStandsFor r t.writes t.actions
stands_with [] [] all k t e = cc
stands_with [] (x ∷ took) all k t e = absurd all
stands_with (r ∷ replicas) [] all k t e = absurd all
stands_with (r ∷ replicas) (x ∷ took) all zero t e = (r, refl, subst (λ (z : Took). ReplicaStandsFor r z.writes z.actions) (some_same x t e) all.0)
stands_with (r ∷ replicas) (x ∷ took) all (suc k) t e = stands_with replicas took all.1 k t e

took_is : (took : List Took) (k : ℕ) (t : Took) → slice_get took k ≡ Some t → took_at took k ≡ t
took_is [] k t e = cc
took_is (x ∷ took) zero t e = some_same x t e
took_is (x ∷ took) (suc k) t e = took_is took k t e

mapped_at : {A B : Type 0} (f : A → B) (xs ys : List A) → map f xs ≡ map f ys → (k : ℕ) (x y : A) → slice_get xs k ≡ Some x → slice_get ys k ≡ Some y → f x ≡ f y
mapped_at f xs ys same k x y at also =
    some_same (f x) (f y) (sym (slice_get-map f xs k ∙ ap (option_map f) at) ∙ ap (λ zs. slice_get zs k) same ∙ slice_get-map f ys k ∙ ap (option_map f) also)

-- ---- the build

hashed_same : (E A B : List Action) → ((a : Action) → Contains B a → Contains A a) → NoClash (hashed_actions (E ++ A)) → NoClash (hashed_actions (E ++ B))
hashed_same E A B from clear s t c d = clear s t (among s c) (among t d)
  where
    member : (a : Action) → Contains (E ++ B) a → Contains (E ++ A) a
    member a c = elim (Contains-append_cases E B a c) [
      | inl l ↦ Contains-append_left E A a l
      | inr r ↦ Contains-append_right E A a (from a r)
    ]

    among : (s : List ℕ) → Contains (hashed_actions (E ++ B)) s → Contains (hashed_actions (E ++ A)) s
    among s c = let a = hashed_by (E ++ B) s c in hashed_from (E ++ A) a.0 (member a.0 a.1) s a.2

actions_same : (E A B : List Action) → SameMembers A B → SameMembers (E ++ A) (E ++ B)
actions_same E A B same a = (one_way A B (λ x. (same x).0) a, one_way B A (λ x. (same x).1) a)
  where
    one_way : (X Y : List Action) → ((x : Action) → Contains X x → Contains Y x) → (a : Action) → Contains (E ++ X) a → Contains (E ++ Y) a
    one_way X Y h a c = elim (Contains-append_cases E X a c) [
      | inl l ↦ Contains-append_left E Y a l
      | inr r ↦ Contains-append_right E Y a (h a r)
    ]

pub are_built_from : (edition : Edition) (old : List Replica) (took : List Took) (targets : List (ℕ × List ℕ)) → AllStandFor old took → AllTookSized took → (all : List (List ReachedDirectory)) → AreReached edition old targets all → (parts : List TargetPart) → AllZip (IsPartOf all) targets parts
    → (opening : FinMap id_cmp Action) → CacheStandsFor opening (held_by took targets) → (reports : List Report) (added : FinMap id_cmp Action) → IsRunOf opening all parts reports added → AreBuiltFrom edition took targets reports (joined lesser opening added)
are_built_from edition old took targets stand sized all reached parts parts_are opening stands reports added run =
    let pieces : Pieces edition took targets 0 all = pieces_of edition old took stand targets 0 all (λ k rs at. subst (λ n. IsReached edition old targets n rs) (let z : k ≡ 0 + k = omega arith in z) (reached.are k rs at)) in
    let ps : List (Piece edition took) = pieces.list in
    let each : (k : ℕ) (p : Piece edition took) → slice_get ps k ≡ Some p → (p.number ≡ k) × (p.targets ≡ directories_at targets k) =
    λ k p at. (let its = pieces.each k p at in let z : 0 + k ≡ k = omega arith in (its.0 ∙ z, its.1 ∙ ap (directories_at targets) z)) in
    let owns : Owns edition took ps run.told targets reports = owns_of edition took ps run.told targets all pieces.all_are each targets parts reports (λ t c. c) parts_are run.reports_are in
    let os = owns.list in
    let bs : List TargetBuild = own_builds edition took ps run.told os in
    let us : List TargetBuild = builds_of edition took ps in
    let same : SameMembers (all_actions edition bs) (all_actions edition us) = same_actions edition took ps run.told targets each os owns.targets_are in
    let its_run : IsRun opening (reached_of_all edition took ps) run.told added = subst (λ rs. IsRun opening rs run.told added) (sym pieces.all_are) run.run in
    let E : List Action = held_by took targets in
    record {
      all = bs;
      are = subst (λ ts. AreBuildsOfTargets edition took ts bs) owns.targets_are (owns_are edition took ps run.told os);
      right = λ no_clash.
          let clear : AreClear E (all_actions edition us) = record { sized = held_sized took targets sized; clear = hashed_same E (all_actions edition bs) (all_actions edition us) (λ a. (same a).1) no_clash } in
          let says : map report_rows run.told ≡ map report_of us = run_says edition took ps opening E stands run.told added its_run clear in
          let counts : (r : Report) → Contains run.told r → r.compiled ≡ compiled_count E (all_actions edition bs) =
          λ r c. run_counts edition took ps opening E stands run.told added its_run clear r c ∙ sym (same_count E (all_actions edition bs) (all_actions edition us) same) in
          record {
            told = record {
              reports = subst (λ rs. map report_rows rs ≡ map report_of bs) owns.reports_are (owns_tell edition took ps run.told says os);
              counts = subst (λ (rs : List Report). (r : Report) → Contains rs r → r.compiled ≡ compiled_count E (all_actions edition bs)) owns.reports_are
                  (owns_count edition took ps run.told (compiled_count E (all_actions edition bs)) counts os);
            };
            sized = λ a c. run_sized edition took ps opening E stands run.told added its_run clear a ((same a).0 c);
            stands = same_stands (joined lesser opening added) (E ++ all_actions edition us) (E ++ all_actions edition bs) (actions_same E (all_actions edition us) (all_actions edition bs) (λ a. ((same a).1, (same a).0)))
                (run_holds edition took ps opening E stands run.told added its_run clear);
          };
    }

module _ (edition : Edition) (old new : List Replica) (took : List Took) (targets : List (ℕ × List ℕ)) (stand : AllStandFor old took) where
  module _ (cache : FinMap id_cmp Action) (C : List Action) (holds : CacheStandsFor cache (held_by took targets ++ C)) (have : HaveCache targets cache old new) where
    -- what it took as well changes nothing
    with_own : (t : Took) (k : ℕ) → took_at took k ≡ t → builds targets k ≡ true → SameMembers (held_by took targets ++ C) (t.actions ++ (held_by took targets ++ C))
    with_own t k is named a = (
      λ c. Contains-append_right t.actions (held_by took targets ++ C) a c,
      λ c. elim (Contains-append_cases t.actions (held_by took targets ++ C) a c) [
        | inl l ↦ Contains-append_left (held_by took targets) C a (named_held took targets k named a (subst (λ (z : Took). Contains z.actions a) (sym is) l))
        | inr r ↦ r
      ],
    )

    stands_if : (k : ℕ) (t : Took) (r : Replica) → slice_get took k ≡ Some t → slice_get new k ≡ Some r → (b : Bool) → builds targets k ≡ b → ReplicaStandsFor r t.writes (if b then t.actions ++ (held_by took targets ++ C) else t.actions)
    stands_if k t r its at true named =
        let before = stands_with old took stand k t its in
        let registers : r.registers ≡ before.0.registers = mapped_at (λ (z : Replica). z.registers) new old have.registers k r before.0 at before.1 in
        record {
          registers = subst (λ (m : Contents). StandsFor held_cmp m t.writes) (sym registers) before.2.registers;
          cache = subst (λ (m : FinMap id_cmp Action). CacheStandsFor m (t.actions ++ (held_by took targets ++ C))) (sym (have.named k r named at))
              (same_stands cache (held_by took targets ++ C) (t.actions ++ (held_by took targets ++ C)) (with_own t k (took_is took k t its) named) holds);
        }
    stands_if k t r its at false not_named =
        let before = stands_with old took stand k t its in
        let same : before.0 ≡ r = some_same before.0 r (sym (have.others k not_named ∙ before.1) ∙ at) in
        subst (λ (z : Replica). ReplicaStandsFor z t.writes t.actions) same before.2

    stand_after : (k : ℕ) (t : Took) (r : Replica) → slice_get took k ≡ Some t → slice_get new k ≡ Some r → StandsAfter targets (held_by took targets ++ C) k t r
    stand_after k t r its at =
        subst (λ b. ReplicaStandsFor r t.writes (if b then t.actions ++ (held_by took targets ++ C) else t.actions)) refl (stands_if k t r its at (builds targets k) refl)

  pub are_built : AllTookSized took → (all : List (List ReachedDirectory)) → AreReached edition old targets all → (parts : List TargetPart) → AllZip (IsPartOf all) targets parts → (holders : List ℕ) → HoldAll took holders targets → (opening : FinMap id_cmp Action) → IsOpening old holders opening
      → (reports : List Report) (added : FinMap id_cmp Action) → IsRunOf opening all parts reports added → TakeResults holders targets added old new → AreBuilt edition took targets reports new
  are_built sized all reached parts parts_are holders hold opening opens reports added run take =
      let E : List Action = held_by took targets in
      let stands : CacheStandsFor opening E = same_stands opening (held_at took holders) E hold (opens took stand) in
      let from = are_built_from edition old took targets stand sized all reached parts parts_are opening stands reports added run in
      let one : take.opening ≡ opening = one_cache take.opening opening E E (λ a. (λ c. c, λ c. c)) (take.opens took stand hold) stands in
      let have : HaveCache targets (joined lesser opening added) old new = subst (λ (m : FinMap id_cmp Action). HaveCache targets (joined lesser m added) old new) one take.have in
      record {
        all = from.all;
        are = from.are;
        right = λ no_clash.
            let right = from.right no_clash in
            record {
              told = right.told;
              sized = right.sized;
              stand = stand_after (joined lesser opening added) (all_actions edition from.all) right.stands have;
            };
      }
