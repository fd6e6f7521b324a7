use Rattle.std.proofs.Common.{◌∙◌, ap, drop, length, arith}
use Rattle.std.proofs.lemmas.List.{length-drop}
use Rattle.std.proofs.lemmas.Result.{on_ok_weaker}
use Rattle.go_gen.specs.Views.{places_of}
use Rattle.go_gen.proofs.Arms.{if_emitted, for_emitted, range_emitted, switch_emitted, range_same, switch_same, block_emitted, bodies_count, stmts_step, stmts_left, bodies_step, bodies_left, sizes_step}
use Rattle.go_gen.proofs.Emitted.{row_back}
use Rattle.go_gen.proofs.statement.+statements.Goals as goal

pub emit_if-returns : goal.emit_if-returns
emit_if-returns t c =
    on_ok_weaker c.emit_expr.result
    (if_emitted (places_of c.args.layout.now) c.args.k c.args.s.now c.args.b c.args.c c.in-If.e c.in-If.one c.in-If.two _ _ _ _ _ _ _ _ _ _ _ _ _ _ _ _ _ _ _ _ _ _ _
    c.in-If.is c.deref.ensures.value c.deref-3.ensures.value c.deref-2.ensures.value
    c.in_ok-expr_temps.ensures c.in_ok-first.ensures c.len-end.ensures c.in_ok-stmts_temps.ensures c.in_ok-second.ensures c.in_ok-emit_stmts.ensures c.len.ensures c.in_ok-passed.ensures c.in_ok-put.ensures c.len-middle.ensures
    c.in_ok-over.ensures c.in_ok-end_b.ensures c.in_ok-end_c.ensures c.in_ok-emit_stmts-2.ensures c.len-2.ensures c.in_ok-difference.ensures c.in_ok-far.ensures c.in_ok-put-2.ensures)
    c.emit_expr.ensures

pub emit_for-returns : goal.emit_for-returns
emit_for-returns t c =
    on_ok_weaker c.close_loop.result
    (for_emitted (places_of c.args.layout.now) c.args.k c.args.s.now c.args.b c.args.c c.in-For.condition c.in-For.post c.in-For.body _ _ _ _ _ _ _ _ _ _ _ _ _ _ _ _ _ _ _ _ _ _
    c.in-For.is c.deref-2.ensures.value c.deref-3.ensures.value c.deref.ensures.value c.deref-4.ensures.value
    c.in_ok-stmts_temps.ensures c.in_ok-behind.ensures c.in_ok-stmts_temps-2.ensures c.in_ok-last.ensures c.len-end.ensures c.in_ok-put.ensures c.in_ok-emit_condition.ensures c.len-test.ensures c.in_ok-over.ensures
    c.in_ok-end_b.ensures c.in_ok-end_c.ensures c.in_ok-emit_stmts.ensures c.len.ensures c.in_ok-turn.ensures c.in_ok-emit_stmts-2.ensures)
    c.close_loop.ensures

pub emit_range-returns : goal.emit_range-returns
emit_range-returns t c =
    on_ok_weaker c.emit_expr.result
    (range_emitted (places_of c.args.layout.now) c.args.k c.args.s.now 0 0 c.in-Range.name c.in-Range.of c.in-Range.e c.in-Range.body _ _ _ _ _ _ _ _ _ _ _ _ _ _ _ _ _ _
    c.in-Range.is c.deref.ensures.value
    c.in_ok-expr_temps.ensures c.in_ok-at.ensures c.len-end.ensures c.in_ok-put.ensures c.in_ok-put_within.ensures c.len-test.ensures c.in_ok-put_count.ensures c.len.ensures c.in_ok-turn.ensures c.in_ok-sum.ensures c.in_ok-emit_stmts.ensures
    c.in_ok-put_counted.ensures c.in_ok-close_loop.ensures c.in_ok-put_begin.ensures)
    c.emit_expr.ensures

pub emit_switch-returns : goal.emit_switch-returns
emit_switch-returns t c =
    on_ok_weaker c.emit_expr.result
    (switch_emitted (places_of c.args.layout.now) c.args.k c.args.s.now 0 c.args.c c.in-Switch.e c.in-Switch.clauses _ _ _ _ _ _ _ _ _ _ _ _ _ _ _ _ _ _ _ _ _ _ _ _
    c.in-Switch.is c.deref.ensures.value c.deref-2.ensures.value c.deref-3.ensures.value c.deref-5.ensures.value
    c.in_ok-expr_temps.ensures c.in_ok-at.ensures c.in_ok-count.ensures c.in_ok-first.ensures c.in_ok-cases_temps.ensures c.in_ok-bodies.ensures c.len-end.ensures c.in_ok-sizes.ensures.sizes c.in_ok-sizes.ensures.code c.len.ensures c.in_ok-other.ensures
    c.deref-4.ensures.value c.in_ok-place.ensures c.in_ok-put.ensures c.deref-6.ensures.value c.in_ok-emit_tests.ensures c.store.ensures c.in_ok-put-2.ensures)
    c.emit_expr.ensures

pub emit_stmt-returns-in-Range : goal.emit_stmt-returns-in-Range
emit_stmt-returns-in-Range t c =
    on_ok_weaker c.emit_range.result
    (range_same (places_of c.args.layout.now) c.args.k c.args.s.now c.args.b c.args.c _ _ _ _ _ _ c.in-Range.is) c.emit_range.ensures

pub emit_stmt-returns-in-Switch : goal.emit_stmt-returns-in-Switch
emit_stmt-returns-in-Switch t c =
    on_ok_weaker c.emit_switch.result
    (switch_same (places_of c.args.layout.now) c.args.k c.args.s.now c.args.b c.args.c _ _ _ _ c.in-Switch.is) c.emit_switch.ensures

pub emit_stmt-returns-in-Block : goal.emit_stmt-returns-in-Block
emit_stmt-returns-in-Block t c =
    on_ok_weaker c.emit_stmts.result
    (block_emitted (places_of c.args.layout.now) c.args.k c.args.s.now c.args.b c.args.c c.in-Block.body _ _ _ c.in-Block.is c.deref.ensures.value) c.emit_stmts.ensures

pub emit_stmts-loop-i-preserved : goal.emit_stmts-loop-i-preserved
emit_stmts-loop-i-preserved t c =
    let p = places_of c.args.layout.now in
    let row = row_back c.args.statements.now c.loop-i.i _ c.index-statements-i.is (omega arith) (omega arith) in
    record {
      code = stmts_step p c.args.b c.args.c c.args.statements.now c.loop-i.i _ c.loop-i.behind _ _ _ _ _ _ _ _ _ _ row
          c.in_ok-stmt_temps.ensures c.in_ok-behind-2.ensures c.loop-i.invariant.code c.len-end.ensures c.len.ensures c.in_ok-rest.ensures c.in_ok-sum.ensures c.in_ok-sum-2.ensures c.in_ok-emit_stmt.ensures;
      behind = stmts_left p c.args.statements.now c.loop-i.i _ c.loop-i.behind _ _ _ row c.in_ok-stmt_temps.ensures c.in_ok-behind-2.ensures c.loop-i.invariant.behind;
    }

pub emit_bodies-loop-i-preserved : goal.emit_bodies-loop-i-preserved
emit_bodies-loop-i-preserved t c =
    let p = places_of c.args.layout.now in
    let row = row_back c.args.clauses.now c.loop-i.i _ c.index-clauses-i.is (omega arith) (omega arith) in
    record {
      code = bodies_step p c.args.c c.args.clauses.now c.loop-i.i _ _ _ c.loop-i.behind _ _ _ _ _ _ _ _ _ _ _ _ _ _ _ row
          c.deref.ensures.value c.deref-in-loop-i.ensures.value c.in_ok-stmts_temps.ensures c.in_ok-behind-2.ensures c.loop-i.invariant.code c.len-end.ensures c.len.ensures c.in_ok-rest.ensures c.in_ok-put_leave.ensures
          c.len-in-loop-i.ensures c.in_ok-after.ensures c.in_ok-sum.ensures c.in_ok-emit_stmts.ensures c.len-in-loop-i-2.ensures c.in_ok-difference.ensures c.in_ok-difference-2.ensures;
      behind = bodies_left p c.args.c c.args.clauses.now c.loop-i.i _ _ _ c.loop-i.behind _ _ _ _ _ _ _ _ _ _ _ _ _ _ _ row
          c.deref.ensures.value c.deref-in-loop-i.ensures.value c.in_ok-stmts_temps.ensures c.in_ok-behind-2.ensures c.loop-i.invariant.code c.len-end.ensures c.len.ensures c.in_ok-rest.ensures c.in_ok-put_leave.ensures
          c.len-in-loop-i.ensures c.in_ok-after.ensures c.in_ok-sum.ensures c.in_ok-emit_stmts.ensures c.len-in-loop-i-2.ensures c.in_ok-difference.ensures c.in_ok-difference-2.ensures
          _ c.loop-i.invariant.behind;
      sizes = sizes_step p c.args.c c.args.clauses.now c.loop-i.i _ _ _ c.loop-i.behind _ _ _ _ _ _ _ _ _ _ _ _ _ _ _ row
          c.deref.ensures.value c.deref-in-loop-i.ensures.value c.in_ok-stmts_temps.ensures c.in_ok-behind-2.ensures c.loop-i.invariant.code c.len-end.ensures c.len.ensures c.in_ok-rest.ensures c.in_ok-put_leave.ensures
          c.len-in-loop-i.ensures c.in_ok-after.ensures c.in_ok-sum.ensures c.in_ok-emit_stmts.ensures c.len-in-loop-i-2.ensures c.in_ok-difference.ensures c.in_ok-difference-2.ensures
          _ _ c.loop-i.invariant.sizes c.in_ok-push.ensures.items;
    }

pub emit_bodies-returns-clause-count : goal.emit_bodies-returns-clause-count
emit_bodies-returns-clause-count t c =
    let rest = drop c.loop-i.i c.args.clauses.now in
    let counted = ap length c.reverse.ensures.items ∙ ap length c.loop-i.invariant.sizes ∙ bodies_count (places_of c.args.layout.now) c.args.c c.loop-i.behind rest in
    omega (arith, counted, length-drop c.loop-i.i c.args.clauses.now)
