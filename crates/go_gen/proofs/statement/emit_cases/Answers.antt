use Rattle.std.proofs.Common.{arith, ◌∙◌}
use Rattle.go_types.specs.Views.{go_type}
use Rattle.go_gen.specs.Views.{places_of}
use Rattle.std.proofs.lemmas.Grind.{common_steps}
use Rattle.go_gen.proofs.Closed.{cases_step}
use Rattle.go_gen.proofs.Emitted.{row_back, exprs_left}
use Rattle.go_gen.proofs.statement.emit_cases.Goals as goal

pub loop-i-preserved : goal.loop-i-preserved
loop-i-preserved c =
    let p = places_of c.args.layout.now in
    let row = row_back c.args.cases.now c.loop-i.i _ c.index-cases-i.is (omega arith) (omega arith) in
    record {
      code = cases_step p c.args.at (go_type c.args.of.now) c.args.far c.args.cases.now c.loop-i.i _ c.loop-i.behind _ _ _ _ _ _ _ _ _ _ _ _ _ row
          c.in_ok-expr_temps.ensures c.in_ok-behind-2.ensures c.loop-i.invariant.code c.len-end.ensures (c.in_ok-difference.ensures ∙ c.len.ensures) c.in_ok-passed.ensures c.in_ok-put.ensures c.in_ok-put_binary.ensures c.in_ok-emit_expr.ensures c.in_ok-count.ensures c.load.ensures c.in_ok-put-2.ensures;
      behind = exprs_left p c.args.k c.args.cases.now c.loop-i.i _ c.loop-i.behind _ _ _ row c.in_ok-expr_temps.ensures c.in_ok-behind-2.ensures c.loop-i.invariant.behind;
    }

pub returns : goal.returns
returns c = grind (arith, common_steps)
