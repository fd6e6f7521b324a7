use Rattle.std.proofs.Common.{map, ap, ◌∙◌, arith}
use Rattle.std.proofs.lemmas.List.{length-map}
use Rattle.std.proofs.lemmas.Option.{slice_get_within}
use Rattle.ws_reach.specs.Reach.{rows_of}
use Rattle.ws_reach.proofs.Rows.{rows-push, rows_next, rows_edges}
use Rattle.go_init.specs.Nodes.{Refers}
use Rattle.go_init.specs.Views.{node_of}
use Rattle.go_init.proofs.Bearers.{row_refers}
use Rattle.go_init.proofs.edges.edges.Goals as goal

pub loop-number-preserved : goal.loop-number-preserved
loop-number-preserved c =
    let nodes = c.args.nodes.now in
    let n = c.loop-number.number in
    let row = c.in_ok-row_of.field-0.items in
    rows_next (Refers (map node_of nodes)) (rows_of c.loop-number.rows.items) (rows_of c.push.new.self.items) row n
    (ap rows_of c.in_ok-push.ensures.items ∙ rows-push c.loop-number.rows.items c.in_ok-row_of.field-0) c.loop-number.invariant
    (row_refers nodes c.in_ok-named.named c.in_ok-named.ensures n c.node_at-node.result.now c.node_at-node.ensures row c.in_ok-row_of.ensures)

pub returns-clause-edges : goal.returns-clause-edges
returns-clause-edges c =
    let nodes = c.args.nodes.now in
    rows_edges (Refers (map node_of nodes)) (rows_of c.loop-number.rows.items) c.loop-number.number c.loop-number.invariant
    (λ k q h. (let lt = slice_get_within (map node_of nodes) k h.0 h.3 in omega (arith, lt, length-map nodes node_of, c.loop-number-test.false)))
