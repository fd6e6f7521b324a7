-- What follows for sources and maps from the members of the sets alone.
use Rattle.std.specs.Prelude.{◌≡◌, ℕ, List, [], ◌∷◌, ◌++◌}
use Rattle.std.specs.FinMap.{entries}
use Rattle.std.proofs.lemmas.List.Elements.{Contains-append_left, Contains-append_right, Contains-append_cases}
use Rattle.std.proofs.Common.{sym, ap, ◌∙◌, inl, inr}
use Rattle.ws_version.specs.Writes.{Write, held_cmp}
use Rattle.ws_version.specs.Laws.{held_cmp_total, held_cmp-IsAntisymmetric}
use Rattle.ws_version.proofs.Writes.{path_cmp_total, path_cmp-IsAntisymmetric}
use Rattle.ws_map.specs.Kept.{StandsFor, SameMembers}
use Rattle.ws_map.proofs.Kept.{one_map}
use Rattle.ws_register.specs.Edits.{Contents}
use Rattle.ws_register.specs.Sources.{texts_of, IsSources}

-- maps that stand for sets with the same members are one
pub one_contents : (m n : Contents) (V W : List Write) → SameMembers V W → StandsFor held_cmp m V → StandsFor held_cmp n W → m ≡ n
one_contents = one_map held_cmp_total path_cmp_total path_cmp-IsAntisymmetric held_cmp-IsAntisymmetric

pub SameMembers-itself : {A : Type 0} (W : List A) → SameMembers W W
SameMembers-itself W a = (λ c. c, λ c. c)

-- sets with the same members have the same sources
pub same_sources : (V W : List Write) (S T : List (List ℕ × List ℕ)) → SameMembers V W → IsSources V S → IsSources W T → S ≡ T
same_sources V W S T same s t = s.2 ∙ ap (λ (m : Contents). texts_of (entries m)) (one_contents s.0 t.0 V W same s.1 t.1) ∙ sym t.2

-- a set has one list of sources
pub one_sources : (W : List Write) (S T : List (List ℕ × List ℕ)) → IsSources W S → IsSources W T → S ≡ T
one_sources W S T = same_sources W W S T (SameMembers-itself W)

-- a member that is put in again is no new member
pub same_twice : {A : Type 0} (W : List A) (w : A) → SameMembers (W ++ w ∷ []) (W ++ w ∷ w ∷ [])
same_twice W w a = (
  λ c. elim (Contains-append_cases W (w ∷ []) a c) [
    | inl old ↦ Contains-append_left W (w ∷ w ∷ []) a old
    | inr new ↦ Contains-append_right W (w ∷ w ∷ []) a (Contains-append_left (w ∷ []) (w ∷ []) a new)
  ],
  λ c. elim (Contains-append_cases W (w ∷ w ∷ []) a c) [
    | inl old ↦ Contains-append_left W (w ∷ []) a old
    | inr new ↦ elim (Contains-append_cases (w ∷ []) (w ∷ []) a new) [
      | inl first ↦ Contains-append_right W (w ∷ []) a first
      | inr second ↦ Contains-append_right W (w ∷ []) a second
    ]
  ],
)
