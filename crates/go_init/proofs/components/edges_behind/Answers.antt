use Rattle.std.proofs.Common.{◌+◌, ap, ◌∙◌, arith}
use Rattle.std.proofs.lemmas.Option.{slice_get_within}
use Rattle.ws_reach.specs.Reach.{Edge, rows_of}
use Rattle.ws_reach.proofs.Rows.{length-rows, rows-push, rows_next, rows_edges}
use Rattle.go_init.proofs.components.edges_behind.Goals as goal

pub loop-node-preserved : goal.loop-node-preserved
loop-node-preserved c =
    let rows = rows_of c.args.rows.now in
    let n = c.loop-node.node in
    let its = c.in_ok-nodes_behind.field-0 in
    rows_next (λ x y. Edge rows (c.args.count + x) (c.args.count + y)) (rows_of c.loop-node.behind.items) (rows_of c.push.new.self.items) its.items n
    (ap rows_of c.in_ok-push.ensures.items ∙ rows-push c.loop-node.behind.items its) c.loop-node.invariant
    (λ y. (λ k. (c.row_of.ensures (c.args.count + y)).0 ((c.in_ok-nodes_behind.ensures y).0 k), λ e. (c.in_ok-nodes_behind.ensures y).1 ((c.row_of.ensures (c.args.count + y)).1 e)))

pub returns-clause-edges : goal.returns-clause-edges
returns-clause-edges c =
    let rows = rows_of c.args.rows.now in
    rows_edges (λ x y. Edge rows (c.args.count + x) (c.args.count + y)) (rows_of c.loop-node.behind.items) c.loop-node.node c.loop-node.invariant
    (λ x y e. (let lt = slice_get_within rows (c.args.count + x) e.0 e.1 in omega (arith, lt, length-rows c.args.rows.now, c.loop-node-test.false)))
