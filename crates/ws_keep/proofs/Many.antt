-- Many runs write what one session writes for all their scripts.
use Rattle.std.proofs.Common.{◌≡◌, ℕ, zero, suc, List, [], ◌∷◌, ◌++◌, sym, ap, ◌∙◌, subst, refl, append_assoc, append-nil}
use Rattle.go_text.specs.declared.edition.Edition.TheVariants.{One}
use Rattle.ws_command.specs.Lines.{lines_of}
use Rattle.ws_command.specs.Commands.{command_of, text_lines, text_of}
use Rattle.ws_session.specs.World.{World, After, Prints, empty_world}
use Rattle.ws_session.specs.Text.{TextFrom, ReachedFrom, SessionText, IsClear}
use Rattle.ws_session.proofs.OneText.{one_after}
use Rattle.ws_keep.specs.Keeping.{Continues, EndsFrom, IsClearBehind, IsClearFrom, IsComplete, IsCompleteFrom, IsLike, Leaves, LeavesFrom, Restores, RestoresBehind, WritesFrom}
use Rattle.ws_keep.specs.Runs.{AreRuns, HaveTexts, Run, scripts_of, run_texts}
use Rattle.ws_keep.proofs.Forever.{like_chain, like_clear, like_ends_other, like_itself, like_text_other}
use Rattle.ws_keep.proofs.Growing.{ends_once, kept_clear}
use Rattle.ws_keep.proofs.Parting.{clear_behind, itself, lines_part, reached_behind, reached_first, text_first}

-- ---- two scripts

-- what is written for lines and for others behind them
text_both : (taken : ℕ) (xs ys : List (List ℕ)) (world last : World) (a b : List ℕ) → IsCompleteFrom taken xs → TextFrom taken xs world a → EndsFrom taken xs world last → TextFrom 0 ys last b
    → TextFrom taken (xs ++ ys) world (a ++ b)
unfolding TextFrom EndsFrom
text_both zero [] ys world last a b complete g e h =
    subst (λ (w : World). TextFrom 0 ys w (a ++ b)) e (subst (λ (t : List ℕ). TextFrom 0 ys last (t ++ b)) (sym g) h)
text_both (suc taken) [] ys world last a b complete g e h = absurd complete
text_both (suc taken) (line ∷ xs) ys world last a b complete g e h = text_both taken xs ys world last a b complete g e h
text_both zero (line ∷ xs) ys world last a b complete g (mid, after, e) h =
    let n = text_lines (command_of line) in
    let all = sym (text_first n xs ys complete) in
    let same : mid ≡ g.2 = one_after (command_of line) (text_of n xs) world mid g.2 after g.4 in (
      g.0,
      g.1 ++ b,
      g.2,
      subst (λ t. Prints (command_of line) t world g.0) all g.3,
      subst (λ t. After (command_of line) t world g.2) all g.4,
      text_both n xs ys g.2 last g.1 b complete g.5 (subst (λ w. EndsFrom n xs w last) same e) h,
      ap (λ (l : List ℕ). l ++ b) g.6 ∙ append_assoc g.0 g.1 b,
    )

writes_both : (script more : List ℕ) (world last : World) (a b : List ℕ) → IsComplete script → WritesFrom world script a → LeavesFrom world script last → WritesFrom last more b
    → WritesFrom world (script ++ more) (a ++ b)
writes_both script more world last a b complete g e h =
    subst (λ (ls : List (List ℕ)). TextFrom 0 ls world (a ++ b)) (sym (lines_part script more complete)) (text_both 0 (lines_of script) (lines_of more) world last a b complete.texts g e h)

-- what is written leads to a world
text_ends : (taken : ℕ) (lines : List (List ℕ)) (world : World) (told : List ℕ) → TextFrom taken lines world told → (last : World) × EndsFrom taken lines world last
unfolding TextFrom EndsFrom
text_ends taken [] world told g = (world, refl)
text_ends (suc taken) (line ∷ lines) world told g = text_ends taken lines world told g
text_ends zero (line ∷ lines) world told g = let rest = text_ends (text_lines (command_of line)) lines g.2 g.1 g.5 in (rest.0, (g.2, g.4, rest.1))

clear_first : (script more : List ℕ) (world : World) → IsComplete script → IsClearFrom world (script ++ more) → IsClearFrom world script
clear_first script more world complete clear other g =
    clear other (subst (λ (ls : List (List ℕ)). ReachedFrom 0 ls world other) (sym (lines_part script more complete)) (reached_first 0 (lines_of script) (lines_of more) world other complete.texts g))

clear_second : (script more : List ℕ) (world last : World) → IsComplete script → LeavesFrom world script last → IsClearFrom world (script ++ more) → IsClearFrom last more
clear_second script more world last complete leaves clear other g =
    clear other (subst (λ (ls : List (List ℕ)). ReachedFrom 0 ls world other) (sym (lines_part script more complete))
    (reached_behind 0 (lines_of script) (lines_of more) world last other complete.texts leaves g))

-- ---- one run

-- the script of a run behind a world: its text, and the world that is left and that is restored by what is kept
record First (world : World) (script text new : List ℕ) : Type 0 where
  pub writes : WritesFrom world script text
  pub last : World
  pub leaves : LeavesFrom world script last
  pub restores : Restores new last

first_run : (kept script text new : List ℕ) (lean world : World) → Leaves kept lean → IsLike lean world → IsClearFrom (empty_world One) kept → IsClearFrom world script
    → (IsClearBehind kept script → Continues kept script text × RestoresBehind kept script new) → First world script text new
first_run kept script text new lean world leaves like before clear ran =
    let one : (w : World) → Leaves kept w → w ≡ lean = λ w l. ends_once 0 (lines_of kept) (empty_world One) w lean l leaves in
    let did = ran (record {
      before = before;
      behind = λ w l other g. like_clear lean world script like clear other (subst (λ (v : World). ReachedFrom 0 (lines_of script) v other) (one w l) g);
    }) in
    let writes : WritesFrom lean script text = subst (λ (w : World). WritesFrom w script text) (one did.0.0 did.0.1) did.0.2 in
    let restored = did.1 in
    let left : LeavesFrom lean script restored.1 = subst (λ (w : World). LeavesFrom w script restored.1) (one restored.0 restored.2) restored.3 in
    let last = like_ends_other 0 (lines_of script) lean world restored.1 like left in
    let kept_world = restored.4 in
    record {
      writes = like_text_other lean world (lines_of script) text like writes;
      last = last.0;
      leaves = last.1;
      restores = record { complete = kept_world.complete; left = kept_world.left; leaves = kept_world.leaves; like = like_chain kept_world.left restored.1 last.0 kept_world.like last.2 };
    }

-- ---- many

runs_write : (kept : List ℕ) (runs : List Run) (lean world : World) → Leaves kept lean → IsLike lean world → IsClearFrom (empty_world One) kept → IsClearFrom world (scripts_of runs)
    → AreRuns kept runs → HaveTexts runs → WritesFrom world (scripts_of runs) (run_texts runs)
unfolding TextFrom
runs_write kept [] lean world leaves like before clear are whole = refl
runs_write kept (run ∷ []) lean world leaves like before clear are whole =
    let alone : IsClearFrom world run.script = subst (λ (s : List ℕ). IsClearFrom world s) (append-nil run.script) clear in
    let first = first_run kept run.script run.text run.kept lean world leaves like before alone are.0 in
    subst (λ (s : List ℕ). WritesFrom world s (run.text ++ [])) (sym (append-nil run.script))
    (subst (λ (t : List ℕ). WritesFrom world run.script t) (sym (append-nil run.text)) first.writes)
runs_write kept (run ∷ next ∷ runs) lean world leaves like before clear are whole =
    let more = scripts_of (next ∷ runs) in
    let first = first_run kept run.script run.text run.kept lean world leaves like before (clear_first run.script more world whole.0 clear) are.0 in
    let behind : IsClearFrom first.last more = clear_second run.script more world first.last whole.0 first.leaves clear in
    let again = kept_clear run.kept first.last first.restores (behind first.last (itself (lines_of more) first.last)) in
    writes_both run.script more world first.last run.text (run_texts (next ∷ runs)) whole.0 first.writes first.leaves
    (runs_write run.kept (next ∷ runs) first.restores.left first.last first.restores.leaves first.restores.like again behind are.1 whole.1)

pub runs_are_one : (kept told : List ℕ) (runs : List Run) → IsComplete kept → AreRuns kept runs → HaveTexts runs → SessionText One kept told → IsClear One (kept ++ scripts_of runs)
    → SessionText One (kept ++ scripts_of runs) (told ++ run_texts runs)
runs_are_one kept told runs complete are whole session clear =
    let left = text_ends 0 (lines_of kept) (empty_world One) told session in
    let parts = clear_behind kept (scripts_of runs) complete clear in
    writes_both kept (scripts_of runs) (empty_world One) left.0 told (run_texts runs) complete session left.1
    (runs_write kept runs left.0 left.0 left.1 (like_itself left.0) parts.before (parts.behind left.0 left.1) are whole)
