use Rattle.ws_reach.specs.Reach.{Edge, Reaches, rows_of}
use Rattle.ws_reach.proofs.Rows.{RowsAre}
use Rattle.ws_reach.proofs.cycles.closing_by_walks.Given as goal

abbrev pub invariant-loop-q : goal.invariant-loop-q
invariant-loop-q l = RowsAre (λ q p. Edge (rows_of l.rows) p q × Reaches (Edge (rows_of l.rows)) q p) (rows_of l.closing.items) l.q
