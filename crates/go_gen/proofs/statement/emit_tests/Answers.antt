use Rattle.std.proofs.Common.{◌∙◌, arith}
use Rattle.go_types.specs.Views.{go_type}
use Rattle.go_gen.specs.Views.{places_of}
use Rattle.std.proofs.lemmas.Grind.{common_steps}
use Rattle.go_gen.proofs.Closed.{row_value, tests_step, tests_left, before_left}
use Rattle.go_gen.proofs.Emitted.{row_back}
use Rattle.go_gen.proofs.statement.emit_tests.Goals as goal

pub loop-i-preserved : goal.loop-i-preserved
loop-i-preserved c =
    let p = places_of c.args.layout.now in
    let row = row_back c.args.clauses.now c.loop-i.i _ c.index-clauses-i.is (omega arith) (omega arith) in
    let sized = row_value c.args.sizes.now c.loop-i.i (omega arith) (omega arith) in
    record {
      code = tests_step p c.args.at (go_type c.args.of.now) c.args.clauses.now c.args.sizes.now c.loop-i.i _ _ c.loop-i.behind _ _ c.loop-i.before _ _ _ _ _ _ _ _ row sized
          c.in_ok-case_temps.ensures c.in_ok-behind-2.ensures c.in_ok-before-2.ensures c.loop-i.invariant.code c.len-end.ensures (c.in_ok-difference.ensures ∙ c.len.ensures) c.in_ok-sum.ensures c.in_ok-far.ensures c.in_ok-emit_case.ensures;
      behind = tests_left c.args.clauses.now c.loop-i.i _ c.loop-i.behind _ _ _ row c.in_ok-case_temps.ensures c.in_ok-behind-2.ensures c.loop-i.invariant.behind;
      before = before_left c.args.sizes.now c.loop-i.i _ c.loop-i.before _ _ sized c.in_ok-before-2.ensures c.loop-i.invariant.before;
    }

pub returns : goal.returns
returns c = grind (arith, common_steps)
