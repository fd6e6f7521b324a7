-- Many runs, each of which goes on from what the one before kept.
use Rattle.std.specs.Prelude.{ℕ, List, [], ◌∷◌, ◌++◌}
use Rattle.std.specs.List.{flat_map}
use Rattle.go_text.specs.declared.edition.Edition.TheVariants.{One}
use Rattle.ws_session.specs.Text.{IsClear, SessionText}
use Rattle.ws_keep.specs.Keeping.{Continues, IsClearBehind, IsComplete, RestoresBehind}

-- a run: its script, what it writes, and what it keeps
pub record Run : Type 0 where
  pub script : List ℕ
  pub text : List ℕ
  pub kept : List ℕ

-- If no texts clash, each run writes what its script means behind what was kept, and keeps what restores the world that it leaves.
abbrev pub AreRuns : List ℕ → List Run → Type 0
AreRuns kept [] = Unit {0}
AreRuns kept (run ∷ runs) = (IsClearBehind kept run.script → Continues kept run.script run.text × RestoresBehind kept run.script run.kept) × AreRuns run.kept runs

-- each script but the last is complete
abbrev pub HaveTexts : List Run → Type 0
HaveTexts [] = Unit {0}
HaveTexts (run ∷ []) = Unit {0}
HaveTexts (run ∷ next ∷ runs) = IsComplete run.script × HaveTexts (next ∷ runs)

-- all their scripts as one, and all that they write
abbrev pub scripts_of : List Run → List ℕ
scripts_of runs = flat_map (λ r. r.script) runs

abbrev pub run_texts : List Run → List ℕ
run_texts runs = flat_map (λ r. r.text) runs

-- if no texts clash, they write behind a kept script what one session writes behind it
abbrev pub WriteAsOne : List ℕ → List ℕ → List Run → Type 0
WriteAsOne kept told runs = SessionText One kept told → IsClear One (kept ++ scripts_of runs) → SessionText One (kept ++ scripts_of runs) (told ++ run_texts runs)
