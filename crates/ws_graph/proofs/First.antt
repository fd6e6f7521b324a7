-- The first wave of a walk: the directories of the targets, each once.
use Rattle.std.proofs.Common.{◌≡◌, ℕ, List, [], ◌∷◌, ◌++◌, sym, ap, ◌∙◌, refl, subst, inl, append-nil, append_assoc}
use Rattle.std.specs.Prelude.{string_bytes}
use Rattle.std.specs.List.{Contains}
use Rattle.std.proofs.lemmas.List.Elements.{Contains-append_right}
use Rattle.std.proofs.lemmas.List.{map_push}
use Rattle.ws_graph.specs.BuildPlan.{Sources, HasNoFiles}
use Rattle.ws_graph.specs.Discovery.{waiting_paths, IsWaitingAt, AreWaiting, IsFirstWave, LacksFiles}
use Rattle.ws_graph.specs.declared.waiting.Waiting.{Waiting}
use Rattle.ws_graph.proofs.Next.{waiting_more}
use Rattle.ws_graph.proofs.Sorted.{contained}

abbrev Path : Type 0
Path = List ℕ

abbrev pub SameAs : List Path → List Path → Type 0
SameAs ps qs = (p : Path) → (Contains ps p → Contains qs p) × (Contains qs p → Contains ps p)

-- those that wait and those that are left to look at are the targets
pub record FirstSoFar (sources : Sources) (targets rest : List Path) (wave : List Waiting) : Type 0 where
  pub waiting : AreWaiting sources wave
  pub are : SameAs (waiting_paths wave ++ rest) targets

pub first_begun : (sources : Sources) (targets rest : List Path) (wave : List Waiting) → wave ≡ [] → SameAs rest targets → FirstSoFar sources targets rest wave
first_begun sources targets rest wave none same = subst (FirstSoFar sources targets rest) (sym none) (record { waiting = tt; are = same })

pub first_more : (sources : Sources) (targets left rest : List Path) (wave new : List Waiting) (path : Path) (w : Waiting) → left ≡ path ∷ rest → IsWaitingAt sources path w → new ≡ wave ++ w ∷ [] → FirstSoFar sources targets left wave → FirstSoFar sources targets rest new
first_more sources targets left rest wave new path w taken at pushed h =
    let named : waiting_paths new ≡ waiting_paths wave ++ path ∷ [] = ap waiting_paths pushed ∙ map_push (λ (v : Waiting). string_bytes v.path) wave w ∙ ap (λ p. waiting_paths wave ++ p ∷ []) at.0 in
    let whole : waiting_paths new ++ rest ≡ waiting_paths wave ++ left = ap (λ l. l ++ rest) named ∙ append_assoc (waiting_paths wave) (path ∷ []) rest ∙ ap (λ l. waiting_paths wave ++ l) (sym taken) in
    record {
      waiting = subst (AreWaiting sources) (sym pushed) (waiting_more sources wave w h.waiting at.1);
      are = subst (λ l. SameAs l targets) (sym whole) h.are;
    }

-- one that is left has no files
pub first_lacks : (sources : Sources) (targets left rest : List Path) (wave : List Waiting) (path : Path) → left ≡ path ∷ rest → HasNoFiles sources path → FirstSoFar sources targets left wave → LacksFiles sources targets
first_lacks sources targets left rest wave path taken none h =
    let here : Contains left path = subst (λ l. Contains l path) (sym taken) (contained (path ∷ rest) path (inl refl)) in
    (path, (h.are path).0 (Contains-append_right (waiting_paths wave) left path here), none)

pub first_done : (sources : Sources) (targets rest : List Path) (wave : List Waiting) → rest ≡ [] → FirstSoFar sources targets rest wave → IsFirstWave sources targets wave
first_done sources targets rest wave none h = record {
  waiting = h.waiting;
  are = subst (λ l. SameAs l targets) (ap (λ l. waiting_paths wave ++ l) none ∙ append-nil (waiting_paths wave)) h.are;
}
