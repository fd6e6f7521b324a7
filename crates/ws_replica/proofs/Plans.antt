-- Plans that are kept: of which edition and which targets they are, and what is reached by them.
use denote.Enum.Bare.{same_true}
use Rattle.std.proofs.Common.{◌≡◌, ℕ, Bool, true, false, List, [], ◌∷◌, map, Option, Some, refl, sym, ap, subst, ◌∙◌}
use Rattle.std.specs.Prelude.{String, string_bytes, string_eq}
use Rattle.std.specs.Global.{Global}
use Rattle.std.specs.Bool.{OnTrue}
use Rattle.std.specs.Cmp.Lexicographic.{pointwise}
use Rattle.std.proofs.lemmas.Bool.{and_parts}
use Rattle.std.proofs.lemmas.Slice.Eq.{bytes_eq-Decides}
use Rattle.go_text.specs.contracts.edition.Edition as editions
use Rattle.go_text.specs.contracts.edition.EditionPartialEq.TheImpl as comparison
use Rattle.go_text.specs.declared.edition.Edition.{Edition}
use Rattle.ws_register.specs.Edits.{Contents}
use Rattle.ws_version.specs.Writes.{Write, held_cmp}
use Rattle.ws_map.specs.Kept.{StandsFor}
use Rattle.ws_graph.specs.Plan.{NoFiles, IsPlanOf}
use Rattle.ws_graph.specs.BuildPlan.{Directory, IsBuildPlanOf, IsJointPlanFor, SomeHasNoFiles}
use Rattle.ws_graph.specs.Discovery.{string_texts}
use Rattle.ws_graph.proofs.Joint.{joint_of_one, lacks_one}
use Rattle.ws_replica.specs.declared.plan.Plan.{Plan}
use Rattle.ws_replica.specs.declared.reached.Shared.{Shared}
use Rattle.ws_replica.specs.Jobs.{ReachedDirectory, shared_of, reached_by}
use Rattle.ws_replica.specs.Plans.{IsKeptPlan, KeepsPlan}
use Rattle.ws_replica.specs.Targets.{IsReachedBy}

-- ---- tests

-- editions are the same where a test says so
pub told_editions : (is : Bool) (a b : Edition) → is ≡ (comparison.ghosts).eq a b → OnTrue is (a ≡ b)
told_editions true a b e = same_true editions.the_type tt a b (sym e)
told_editions false a b e = tt

same_texts : (xs ys : List (String Global)) → pointwise string_eq xs ys ≡ true → string_texts xs ≡ string_texts ys
same_texts [] [] e = refl
same_texts [] (y ∷ ys) e = cc (e)
same_texts (x ∷ xs) [] e = cc (e)
same_texts (x ∷ xs) (y ∷ ys) e =
    let both = and_parts (string_eq x y) (pointwise string_eq xs ys) e in
    ap (λ t. t ∷ string_texts xs) ((bytes_eq-Decides (string_bytes x) (string_bytes y)).0 both.0) ∙ ap (λ ts. string_bytes y ∷ ts) (same_texts xs ys both.1)

-- so are texts
pub told_texts : (is : Bool) (xs ys : List (String Global)) → is ≡ pointwise string_eq xs ys → OnTrue is (string_texts xs ≡ string_texts ys)
told_texts true xs ys e = same_texts xs ys (sym e)
told_texts false xs ys e = tt

-- ---- plans

-- a plan is one of the same targets in the same edition
pub plan_moved : (registers : Contents) (edition : Edition) (targets : List (List ℕ)) (plan : Plan) → plan.edition ≡ edition → string_texts plan.targets.items ≡ targets → KeepsPlan registers (Some plan) → IsKeptPlan edition registers targets plan
plan_moved registers edition targets plan is_in same h =
    subst (λ ts. IsKeptPlan edition registers ts plan) same (subst (λ ed. IsKeptPlan ed registers (string_texts plan.targets.items) plan) is_in h)

-- what is reached by a plan
pub reached_by_plan : (edition : Edition) (registers own : Contents) (targets others : List (List ℕ)) (plan : Plan) (shown : List Shared) (reached : List ReachedDirectory) → registers ≡ own → targets ≡ others → shown ≡ plan.directories.items → IsKeptPlan edition registers targets plan
    → reached ≡ map (reached_by edition) (map shared_of shown) → IsReachedBy edition own others reached
reached_by_plan edition registers own targets others plan shown reached here same is h reached_is =
    let moved : IsKeptPlan edition own others plan = subst (λ m. IsKeptPlan edition m others plan) here (subst (λ ts. IsKeptPlan edition registers ts plan) same h) in
    record { directories = map shared_of plan.directories.items; planned = moved.planned; files = moved.files; same = reached_is ∙ ap (λ ds. map (reached_by edition) (map shared_of ds)) is }

-- one that is kept
pub kept_plan : (registers own : Contents) (kept : Option Plan) (plan : Plan) (edition : Edition) (targets : List (List ℕ)) → registers ≡ own → Some plan ≡ kept → plan.edition ≡ edition → string_texts plan.targets.items ≡ targets → KeepsPlan registers kept → IsKeptPlan edition own targets plan
kept_plan registers own kept plan edition targets here is is_in same h =
    subst (λ m. IsKeptPlan edition m targets plan) here (plan_moved registers edition targets plan is_in same (subst (KeepsPlan registers) (sym is) h))

-- the plan of one target, by the joint plan
pub one_plan : (edition : Edition) (registers : Contents) (target : List ℕ) (ds : List Directory) → IsJointPlanFor edition registers (target ∷ []) ds → (W : List Write) → StandsFor held_cmp registers W → IsBuildPlanOf edition W target ds
one_plan edition registers target ds planned W stands = let h = planned W stands in (h.0, h.1, joint_of_one edition h.0 target ds h.2)

-- and none where it has no files
pub lacks_plan : (edition : Edition) (registers : Contents) (target : List ℕ) → ((W : List Write) → StandsFor held_cmp registers W → SomeHasNoFiles edition W (target ∷ [])) → (W : List Write) → StandsFor held_cmp registers W → IsPlanOf edition W target NoFiles
lacks_plan edition registers target none W stands = lacks_one edition W target (none W stands)
