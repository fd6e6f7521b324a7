-- The directories of the next wave, path by path.
use Rattle.std.proofs.Common.{◌≡◌, ◌⊎◌, ℕ, List, [], ◌∷◌, ◌++◌, sym, ap, ◌∙◌, subst, inl, inr}
use Rattle.std.specs.Prelude.{string_bytes}
use Rattle.std.specs.List.{Contains}
use Rattle.std.proofs.lemmas.List.Elements.{Contains-append_left, Contains-push, Contains-push_cases}
use Rattle.std.proofs.lemmas.List.{map_push}
use Rattle.ws_graph.specs.BuildPlan.{Sources, HasNoFiles}
use Rattle.ws_graph.specs.Discovery.{waiting_paths, IsWaiting, AreWaiting, AddsUnmet, IsNextWave}
use Rattle.ws_graph.specs.declared.waiting.Waiting.{Waiting}
use Rattle.ws_graph.proofs.Sorted.{one_of, contained}

abbrev Path : Type 0
Path = List ℕ

-- of some paths these are left to look at, and the directories of the others wait as they should
pub record NextSoFar (sources : Sources) (met paths rest : List Path) (wave : List Waiting) : Type 0 where
  pub waiting : AreWaiting sources wave
  pub from : (path : Path) → Contains (waiting_paths wave) path → Contains paths path × (Contains met path → ⊥)
  pub left : (path : Path) → Contains rest path → Contains paths path
  pub all : (path : Path) → Contains paths path → (HasNoFiles sources path ⊎ (Contains met path ⊎ Contains (waiting_paths wave) path)) ⊎ Contains rest path

pub next_begun : (sources : Sources) (met paths rest : List Path) (wave : List Waiting) → wave ≡ [] → ((path : Path) → (Contains rest path → Contains paths path) × (Contains paths path → Contains rest path)) → NextSoFar sources met paths rest wave
next_begun sources met paths rest wave none same = record {
  waiting = subst (AreWaiting sources) (sym none) tt;
  from = λ path c. absurd (one_of [] path (subst (λ l. Contains (waiting_paths l) path) none c));
  left = λ path. (same path).0;
  all = λ path c. inr ((same path).1 c);
}

pub waiting_more : (sources : Sources) (wave : List Waiting) (w : Waiting) → AreWaiting sources wave → IsWaiting sources w → AreWaiting sources (wave ++ w ∷ [])
waiting_more sources [] w are is = (is, tt)
waiting_more sources (v ∷ vs) w are is = (are.0, waiting_more sources vs w are.1 is)

rest_cases : (path p : Path) (rest : List Path) → Contains (path ∷ rest) p → (p ≡ path) ⊎ Contains rest p
rest_cases path p rest c = elim (one_of (path ∷ rest) p c) [
  | inl same ↦ inl same
  | inr o ↦ inr (contained rest p o)
]

in_rest : (path p : Path) (rest : List Path) → Contains rest p → Contains (path ∷ rest) p
in_rest path p rest c = contained (path ∷ rest) p (inr (one_of rest p c))

pub next_more : (sources : Sources) (met paths whole rest : List Path) (wave new : List Waiting) (path : Path) → whole ≡ path ∷ rest → AddsUnmet sources met path wave new → NextSoFar sources met paths whole wave → NextSoFar sources met paths rest new
next_more sources met paths whole rest wave new path taken adds h = by_adds adds (subst (λ l. NextSoFar sources met paths l wave) taken h)
  where
    by_adds : AddsUnmet sources met path wave new → NextSoFar sources met paths (path ∷ rest) wave → NextSoFar sources met paths rest new
    by_adds (inl (w, at, fresh, pushed)) h =
        let named : waiting_paths new ≡ waiting_paths wave ++ path ∷ [] = ap waiting_paths pushed ∙ map_push (λ (v : Waiting). string_bytes v.path) wave w ∙ ap (λ p. waiting_paths wave ++ p ∷ []) at.0 in
        record {
          waiting = subst (AreWaiting sources) (sym pushed) (waiting_more sources wave w h.waiting at.1);
          from = λ p c. elim (Contains-push_cases (waiting_paths wave) path p (subst (λ (l : List Path). Contains l p) named c)) [
            | inl o ↦ h.from p o
            | inr same ↦ (h.left p (contained (path ∷ rest) p (inl (sym same))), subst (λ q. Contains met q → ⊥) same fresh)
          ];
          left = λ p c. h.left p (in_rest path p rest c);
          all = λ p c. elim (h.all p c) [
            | inl (inl none) ↦ inl (inl none)
            | inl (inr (inl m)) ↦ inl (inr (inl m))
            | inl (inr (inr o)) ↦ inl (inr (inr (subst (λ (l : List Path). Contains l p) (sym named) (Contains-append_left (waiting_paths wave) (path ∷ []) p o))))
            | inr r ↦ elim (rest_cases path p rest r) [
              | inl same ↦ inl (inr (inr (subst (λ (l : List Path). Contains l p) (sym named) (subst (Contains (waiting_paths wave ++ path ∷ [])) (sym same) (Contains-push (waiting_paths wave) path)))))
              | inr later ↦ inr later
            ]
          ];
        }
    by_adds (inr (why, same_wave)) h = record {
      waiting = subst (AreWaiting sources) (sym same_wave) h.waiting;
      from = λ p c. h.from p (subst (λ l. Contains (waiting_paths l) p) same_wave c);
      left = λ p c. h.left p (in_rest path p rest c);
      all = λ p c. elim (h.all p c) [
        | inl (inl none) ↦ inl (inl none)
        | inl (inr (inl m)) ↦ inl (inr (inl m))
        | inl (inr (inr o)) ↦ inl (inr (inr (subst (λ l. Contains (waiting_paths l) p) (sym same_wave) o)))
        | inr r ↦ elim (rest_cases path p rest r) [
          | inl same ↦ inl (elim why [
            | inl none ↦ inl (subst (HasNoFiles sources) (sym same) none)
            | inr m ↦ inr (inl (subst (Contains met) (sym same) m))
          ])
          | inr later ↦ inr later
        ]
      ];
    }

pub next_done : (sources : Sources) (met paths rest : List Path) (wave : List Waiting) → rest ≡ [] → NextSoFar sources met paths rest wave → IsNextWave sources met paths wave
next_done sources met paths rest wave none h = record {
  waiting = h.waiting;
  from = h.from;
  all = λ p c. elim (h.all p c) [
    | inl known ↦ known
    | inr r ↦ absurd (one_of [] p (subst (λ (l : List Path). Contains l p) none r))
  ];
}
