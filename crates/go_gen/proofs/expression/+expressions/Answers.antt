use Rattle.std.proofs.Common.{refl, sym, subst, arith}
use Rattle.std.proofs.lemmas.Result.{on_ok_weaker}
use Rattle.go_gen.specs.Translation.{AreOffsets}
use Rattle.go_gen.specs.Views.{places_of}
use Rattle.go_types.specs.Views.{go_type}
use Rattle.go_gen.proofs.Emitted.{row_back, field_emitted, index_emitted, binary_emitted, both_emitted, either_emitted, literal_emitted, call_emitted, exprs_step, exprs_left, parts_step, parts_left}
use Rattle.go_gen.proofs.Sliced.{length_emitted, elements_emitted, elements_form, tail_form, cut_form, make_within_form, append_form}
use Rattle.go_gen.proofs.expression.+expressions.Goals as goal

pub emit_expr-returns-in-Elements : goal.emit_expr-returns-in-Elements
emit_expr-returns-in-Elements t c =
    on_ok_weaker c.emit_elements.result
    (elements_form (places_of c.args.layout.now) c.args.k c.args.e.now c.in-Elements.es _ _ _ c.in-Elements.is c.deref-in-Elements.ensures.value)
    c.emit_elements.ensures

pub emit_expr-returns-in_ok-put_field-in-Field : goal.emit_expr-returns-in_ok-put_field-in-Field
emit_expr-returns-in_ok-put_field-in-Field t c =
    on_ok_weaker c.emit_expr.result
    (field_emitted (places_of c.args.layout.now) c.args.k c.args.e.now c.in-Field.operand c.in-Field.number _ _ _ _ _ c.in-Field.is c.deref.ensures c.deref-in-Field.ensures c.in_ok-put_field-in-Field.ensures)
    c.emit_expr.ensures

pub emit_expr-returns-in_ok-emit_expr-in-Index : goal.emit_expr-returns-in_ok-emit_expr-in-Index
emit_expr-returns-in_ok-emit_expr-in-Index t c =
    on_ok_weaker c.emit_expr-in-Index-2.result
    (index_emitted (places_of c.args.layout.now) c.args.k c.args.e.now c.in-Index.operand c.in-Index.index _ _ _ _ _ _ _ _ _ _ _ c.in-Index.is
    c.deref-in-Index.ensures c.deref-in-Index-2.ensures c.deref-in-Index-4.ensures c.deref-in-Index-3.ensures
    refl c.in_ok-behind-in-Index.ensures c.underlying.ensures c.in_ok-put_index-in-Index.ensures c.in_ok-emit_expr-in-Index.ensures)
    c.emit_expr-in-Index-2.ensures

pub emit_expr-returns-in_ok-emit_expr-in-Binary : goal.emit_expr-returns-in_ok-emit_expr-in-Binary
emit_expr-returns-in_ok-emit_expr-in-Binary t c =
    on_ok_weaker c.emit_expr-in-Binary-2.result
    (binary_emitted (places_of c.args.layout.now) c.args.k c.args.e.now c.in-Binary.operator c.in-Binary.a c.in-Binary.b _ _ _ _ _ _ _ _ _ _ c.in-Binary.is
    c.deref-in-Binary.ensures c.deref-in-Binary-2.ensures c.deref-in-Binary-4.ensures c.deref-in-Binary-3.ensures
    refl c.in_ok-behind-in-Binary.ensures c.in_ok-put_binary-in-Binary.ensures c.in_ok-emit_expr-in-Binary.ensures)
    c.emit_expr-in-Binary-2.ensures

pub emit_expr-returns-in_ok-put-in-Both : goal.emit_expr-returns-in_ok-put-in-Both
emit_expr-returns-in_ok-put-in-Both t c =
    on_ok_weaker c.emit_expr-in-Both-2.result
    (both_emitted (places_of c.args.layout.now) c.args.k c.args.e.now c.in-Both.a c.in-Both.b _ _ _ _ _ _ _ _ _ _ _ _ c.in-Both.is
    c.deref-in-Both.ensures c.deref-in-Both-3.ensures c.deref-in-Both-2.ensures
    refl c.in_ok-behind-in-Both.ensures c.in_ok-put_answer-in-Both.ensures c.len-end.ensures c.in_ok-emit_expr-in-Both.ensures c.len.ensures c.in_ok-put-in-Both.ensures)
    c.emit_expr-in-Both-2.ensures

pub emit_expr-returns-in_ok-put-in-Either : goal.emit_expr-returns-in_ok-put-in-Either
emit_expr-returns-in_ok-put-in-Either t c =
    on_ok_weaker c.emit_expr-in-Either-2.result
    (either_emitted (places_of c.args.layout.now) c.args.k c.args.e.now c.in-Either.a c.in-Either.b _ _ _ _ _ _ _ _ _ _ _ _ c.in-Either.is
    c.deref-in-Either.ensures c.deref-in-Either-3.ensures c.deref-in-Either-2.ensures
    refl c.in_ok-behind-in-Either.ensures c.in_ok-put_answer-in-Either.ensures c.len-end-in-Either.ensures c.in_ok-emit_expr-in-Either.ensures c.len-in-Either.ensures c.in_ok-put-in-Either.ensures)
    c.emit_expr-in-Either-2.ensures

pub emit_expr-returns-in_ok-put-in-Literal-2 : goal.emit_expr-returns-in_ok-put-in-Literal-2
emit_expr-returns-in_ok-put-in-Literal-2 t c =
    on_ok_weaker c.emit_zero.result
    (literal_emitted (places_of c.args.layout.now) c.args.k c.args.e.now c.in-Literal.parts _ _ _ _ _ _ _ _ _ _ _ c.in-Literal.is c.deref-in-Literal.ensures.value
    c.in_ok-count-in-Literal.ensures c.in_ok-sum-in-Literal.ensures c.underlying-in-Literal.ensures c.load-in-Literal.ensures c.in_ok-put-in-Literal.ensures c.in_ok-emit_parts-in-Literal.ensures c.store.ensures c.in_ok-put-in-Literal-2.ensures)
    c.emit_zero.ensures

pub emit_expr-returns-in_ok-put-in-Call : goal.emit_expr-returns-in_ok-put-in-Call
emit_expr-returns-in_ok-put-in-Call t c =
    on_ok_weaker c.emit_exprs.result
    (call_emitted (places_of c.args.layout.now) c.args.k c.args.e.now c.in-Call.function c.in-Call.arguments _ _ _ _ _ c.in-Call.is c.deref-in-Call.ensures.value c.in_ok-call-in-Call.ensures c.in_ok-put-in-Call.ensures)
    c.emit_exprs.ensures

pub emit_expr-returns-in_ok-put_kept-in-Tail : goal.emit_expr-returns-in_ok-put_kept-in-Tail
emit_expr-returns-in_ok-put_kept-in-Tail t c =
    on_ok_weaker c.emit_expr-in-Tail-2.result
    (tail_form (places_of c.args.layout.now) c.args.k c.args.e.now c.in-Tail.operand c.in-Tail.low _ _ _ _ _ _ _ _ _ _ _ _ _ c.in-Tail.is
    c.deref-in-Tail.ensures c.deref-in-Tail-2.ensures c.deref-in-Tail-4.ensures c.deref-in-Tail-3.ensures
    refl c.in_ok-temp-in-Tail.ensures.0 c.in_ok-temp-in-Tail.ensures.1 c.underlying-in-Tail.ensures
    c.in_ok-put_tail-in-Tail.ensures c.in_ok-emit_expr-in-Tail.ensures c.in_ok-put_kept-in-Tail.ensures)
    c.emit_expr-in-Tail-2.ensures

pub emit_expr-returns-in_ok-put_kept-in-Cut : goal.emit_expr-returns-in_ok-put_kept-in-Cut
emit_expr-returns-in_ok-put_kept-in-Cut t c =
    on_ok_weaker c.emit_expr-in-Cut-3.result
    (cut_form (places_of c.args.layout.now) c.args.k c.args.e.now c.in-Cut.operand c.in-Cut.low c.in-Cut.high _ _ _ _ _ _ _ _ _ _ _ _ _ _ _ _ _ _ c.in-Cut.is
    c.deref-in-Cut.ensures c.deref-in-Cut-3.ensures c.deref-in-Cut-6.ensures c.deref-in-Cut-2.ensures c.deref-in-Cut-5.ensures c.deref-in-Cut-4.ensures
    refl c.in_ok-temp-in-Cut.ensures.0 c.in_ok-temp-in-Cut.ensures.1 refl c.in_ok-last-in-Cut.ensures c.underlying-in-Cut.ensures
    c.in_ok-put_cut-in-Cut.ensures c.in_ok-emit_expr-in-Cut.ensures c.in_ok-emit_expr-in-Cut-2.ensures c.in_ok-put_kept-in-Cut.ensures)
    c.emit_expr-in-Cut-3.ensures

pub emit_expr-returns-in_ok-emit_expr-in-MakeWithin-2 : goal.emit_expr-returns-in_ok-emit_expr-in-MakeWithin-2
emit_expr-returns-in_ok-emit_expr-in-MakeWithin-2 t c =
    on_ok_weaker c.emit_element_zero.result
    (make_within_form (places_of c.args.layout.now) c.args.k c.args.e.now c.in-MakeWithin.length c.in-MakeWithin.room _ _ _ _ _ _ _ _ _ _ _ _ c.in-MakeWithin.is
    c.deref-in-MakeWithin.ensures c.deref-in-MakeWithin-3.ensures c.deref-in-MakeWithin-2.ensures
    refl c.in_ok-temp-in-MakeWithin.ensures.0 c.in_ok-temp-in-MakeWithin.ensures.1
    c.in_ok-put_make-in-MakeWithin.ensures c.in_ok-emit_expr-in-MakeWithin.ensures c.in_ok-put_kept-in-MakeWithin.ensures c.in_ok-emit_expr-in-MakeWithin-2.ensures)
    c.emit_element_zero.ensures

pub emit_expr-returns-in_ok-emit_exprs-in-Append : goal.emit_expr-returns-in_ok-emit_exprs-in-Append
emit_expr-returns-in_ok-emit_exprs-in-Append t c =
    on_ok_weaker c.emit_expr-in-Append.result
    (append_form (places_of c.args.layout.now) c.args.k c.args.e.now c.in-Append.slice c.in-Append.es _ _ _ _ _ _ _ _ _ _ c.in-Append.is
    c.deref-in-Append.ensures c.deref-in-Append-4.ensures c.deref-in-Append-2.ensures.value c.deref-in-Append-3.ensures.value
    refl c.in_ok-behind-in-Append.ensures c.in_ok-put_append-in-Append.ensures c.in_ok-emit_exprs-in-Append.ensures)
    c.emit_expr-in-Append.ensures

pub emit_exprs-loop-i-preserved : goal.emit_exprs-loop-i-preserved
emit_exprs-loop-i-preserved t c =
    let p = places_of c.args.layout.now in
    let row = row_back c.args.es.now c.loop-i.i _ c.index-es-i.is (omega arith) (omega arith) in
    record {
      code = exprs_step p c.args.k c.args.es.now c.loop-i.i _ c.loop-i.behind _ _ _ _ _ row c.in_ok-expr_temps.ensures c.in_ok-behind-2.ensures c.loop-i.invariant.code c.in_ok-emit_expr.ensures;
      behind = exprs_left p c.args.k c.args.es.now c.loop-i.i _ c.loop-i.behind _ _ _ row c.in_ok-expr_temps.ensures c.in_ok-behind-2.ensures c.loop-i.invariant.behind;
    }

pub emit_parts-loop-i-preserved : goal.emit_parts-loop-i-preserved
emit_parts-loop-i-preserved t c =
    let p = places_of c.args.layout.now in
    let row = row_back c.args.parts.now c.loop-i.i _ c.index-parts-i.is (omega arith) (omega arith) in
    record {
      code = parts_step p c.args.k (go_type c.args.of.now) c.args.at c.args.parts.now c.loop-i.i _ c.loop-i.behind _ _ _ _ _ _ _ _ _ _ row
          c.in_ok-expr_temps.ensures c.in_ok-behind-2.ensures c.in_ok-offset_by.ensures c.in_ok-first.ensures c.in_ok-cells.ensures c.store.ensures c.loop-i.invariant.code c.in_ok-put.ensures c.in_ok-emit_expr.ensures;
      behind = parts_left p c.args.k c.args.parts.now c.loop-i.i _ c.loop-i.behind _ _ _ row c.in_ok-expr_temps.ensures c.in_ok-behind-2.ensures c.loop-i.invariant.behind;
    }

pub emit_length-returns : goal.emit_length-returns
emit_length-returns t c =
    on_ok_weaker c.emit_expr.result
    (length_emitted (places_of c.args.layout.now) c.args.k (go_type c.args.of.now) c.args.operand.now _ _ _ _ c.underlying.ensures c.in_ok-put_length.ensures)
    c.emit_expr.ensures

pub emit_elements-returns : goal.emit_elements-returns
emit_elements-returns t c =
    on_ok_weaker c.emit_zero.result
    (elements_emitted (places_of c.args.layout.now) c.args.k (go_type c.args.of.now) c.args.es.now _ _ _ _ c.in_ok-put_append.ensures c.in_ok-emit_exprs.ensures)
    c.emit_zero.ensures

pub emit_parts-offset_by-requires : goal.emit_parts-offset_by-requires
emit_parts-offset_by-requires t c = subst (AreOffsets (go_type c.args.of.now)) (sym c.as_slice.ensures.value) c.in_ok-offsets.ensures
