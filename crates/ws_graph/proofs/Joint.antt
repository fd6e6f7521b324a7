-- Joint plans: of one target, and of targets with the same members.
use Rattle.std.proofs.Common.{◌≡◌, ℕ, List, [], ◌∷◌, refl, subst, inl, inr}
use Rattle.std.specs.List.{Contains}
use Rattle.ws_version.specs.Writes.{Write}
use Rattle.go_text.specs.declared.edition.Edition.{Edition}
use Rattle.ws_graph.specs.Plan.{NoFiles, IsPlanOf}
use Rattle.ws_graph.specs.BuildPlan.{Sources, ReachesByImports, Directory, IsBuildPlan, IsJointPlan, SomeHasNoFiles}
use Rattle.ws_graph.proofs.Sorted.{one_of, contained}

only_one : (t p : List ℕ) → Contains (t ∷ []) p → p ≡ t
only_one t p c = elim (one_of (t ∷ []) p c) [
  | inl same ↦ same
  | inr o ↦ absurd o
]

-- that of one target is its plan
pub joint_of_one : (ed : Edition) (sources : Sources) (target : List ℕ) (ds : List Directory) → IsJointPlan ed sources (target ∷ []) ds → IsBuildPlan ed sources target ds
joint_of_one ed sources target ds h = record {
  files = h.files target (contained (target ∷ []) target (inl refl));
  ascending = h.ascending;
  reached = λ p. (
    λ c. (let way = (h.reached p).0 c in subst (λ t. ReachesByImports ed sources t p) (only_one target way.0 way.1) way.2),
    λ way. (h.reached p).1 (target, contained (target ∷ []) target (inl refl), way),
  );
  planned = h.planned;
  imports = h.imports;
}

-- of targets it depends on which they are alone
pub joint_same : (ed : Edition) (sources : Sources) (ts us : List (List ℕ)) (ds : List Directory) → ((t : List ℕ) → (Contains ts t → Contains us t) × (Contains us t → Contains ts t)) → IsJointPlan ed sources ts ds → IsJointPlan ed sources us ds
joint_same ed sources ts us ds same h = record {
  files = λ t c. h.files t ((same t).1 c);
  ascending = h.ascending;
  reached = λ p. (
    λ c. (let way = (h.reached p).0 c in (way.0, (same way.0).0 way.1, way.2)),
    λ (t, c, way). (h.reached p).1 (t, (same t).1 c, way),
  );
  planned = h.planned;
  imports = h.imports;
}

-- the one target has no files
pub lacks_one : (ed : Edition) (W : List Write) (target : List ℕ) → SomeHasNoFiles ed W (target ∷ []) → IsPlanOf ed W target NoFiles
lacks_one ed W target (t, c, none) = subst (λ p. IsPlanOf ed W p NoFiles) (only_one target t c) none
