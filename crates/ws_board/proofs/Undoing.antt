-- Rows that were written are put back.
use Rattle.std.proofs.Common.{◌≡◌, ◌<◌, ℕ, List, [], ◌∷◌, ◌++◌, length, Some, refl, sym, ap, ◌∙◌, set-set}
use Rattle.std.proofs.lemmas.List.{set-get_or}
use Rattle.std.proofs.lemmas.List.Elements.{All-pop}
use Rattle.std.proofs.Math.ListN.{set}
use Rattle.ws_board.specs.declared.table.Row.{Row}
use Rattle.ws_board.specs.declared.rows.moves.Change.{Change}
use Rattle.ws_board.specs.Rows.{undone, AreWritten}
use Rattle.ws_board.specs.Table.{blank, row_at}

pub undone_more : (log : List Change) (change : Change) (rows : List Row) → undone (log ++ change ∷ []) rows ≡ undone log (set rows change.job change.was)
undone_more [] change rows = refl
undone_more (first ∷ log) change rows = ap (λ r. set r first.job first.was) (undone_more log change rows)

-- what was written is put back
pub put_back : (rows : List Row) (k : ℕ) (new : Row) → k < length rows → set (set rows k new) k (row_at rows k) ≡ rows
put_back rows k new inside = set-set rows k new (row_at rows k) ∙ set-get_or rows k blank

-- the last row that was written is put back
pub undone_popped : (log rest : List Change) (change : Change) (rows new : List Row) → log ≡ rest ++ change ∷ [] → new ≡ set rows change.job change.was → undone rest new ≡ undone log rows
undone_popped log rest change rows new is put = ap (undone rest) put ∙ sym (undone_more rest change rows) ∙ ap (λ l. undone l rows) (sym is)

pub written_last : (n : ℕ) (log rest : List Change) (change : Change) → log ≡ rest ++ change ∷ [] → AreWritten n log → change.job < n
written_last n log rest change is all = (All-pop (λ (x : Change). x.job < n) log rest (Some change) is all).1

pub written_rest : (n : ℕ) (log rest : List Change) (change : Change) → log ≡ rest ++ change ∷ [] → AreWritten n log → AreWritten n rest
written_rest n log rest change is all = (All-pop (λ (x : Change). x.job < n) log rest (Some change) is all).0
