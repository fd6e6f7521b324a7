use Rattle.std.proofs.Common.{◌≡◌, true, false, sym, ◌∙◌, arith}
use Rattle.ws_reach.specs.Reach.{rows_of}
use Rattle.ws_reach.proofs.Rows.{length-rows}
use Rattle.go_scope.proofs.Orders.{order_grounded, grounded_placed}
use Rattle.go_scope.proofs.order.order_of.Goals as goal

pub returns-clause-only : goal.returns-clause-only
returns-clause-only c i k = order_grounded _ _ c.in_ok-sweep.ensures.placing.ordered i k

pub returns-clause-all : goal.returns-clause-all
returns-clause-all c i lt g =
    let size = length-rows c.args.rows.now in
    let end : c.in_ok-sweep.field-0 ≡ true → ⊥ = λ h. (let no : true ≡ false = sym h ∙ c.if-branch.false in cc (no)) in
    grounded_placed (rows_of c.args.rows.now) c.sweep.new.placed c.requires
    (λ j l. c.in_ok-sweep.ensures.settled end j (omega (arith, l, size)))
    c.in_ok-sweep.ensures.placing i (omega (arith, lt, size)) g
