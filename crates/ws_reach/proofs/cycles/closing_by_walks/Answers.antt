use Rattle.std.proofs.Common.{ap, ◌∙◌, arith}
use Rattle.ws_reach.specs.Reach.{Edge, Reaches, rows_of}
use Rattle.ws_reach.proofs.Rows.{rows-push, rows_next, rows_edges, length-rows}
use Rattle.ws_reach.proofs.cycles.closing_by_walks.Goals as goal

pub loop-q-preserved : goal.loop-q-preserved
loop-q-preserved c =
    let rows = rows_of c.args.rows.now in
    rows_next (λ q p. Edge rows p q × Reaches (Edge rows) q p) (rows_of c.loop-q.closing.items) (rows_of c.push.new.self.items) c.in_ok-closing_at.field-0.items c.loop-q.q
    (ap rows_of c.in_ok-push.ensures.items ∙ rows-push c.loop-q.closing.items c.in_ok-closing_at.field-0) c.loop-q.invariant c.in_ok-closing_at.ensures

pub returns : goal.returns
returns c =
    let rows = rows_of c.args.rows.now in
    rows_edges (λ q p. Edge rows p q × Reaches (Edge rows) q p) (rows_of c.loop-q.closing.items) c.loop-q.q c.loop-q.invariant
    (λ q p h. (let below = c.requires p q h.0 in omega (arith, below, length-rows c.args.rows.now, c.loop-q-test.false)))
