-- Answers at lists: fields, arguments and elements.
use Rattle.std.proofs.Common.{◌+◌, ◌-◌, false, List, [], ◌∷◌, ◌++◌, map, Some, refl, sym, ap, ◌∙◌, arith}
use Rattle.std.proofs.lemmas.Result.{IfOk-weaker}
use Rattle.go_ast.specs.declared.expression.Element.{Element}
use Rattle.go_ast.specs.declared.expression.Expr.{Expr}
use Rattle.go_ast.specs.declared.expression.Field.{Field}
use Rattle.go_ast.specs.Expected.{an_operand, another}
use Rattle.go_ast.specs.Grammar.{opening_brace}
use Rattle.go_ast.specs.Machine.{expr, names, list_start, fields, arguments, elements, run_parser}
use Rattle.go_ast.specs.Views.{type_of, expr_of, field_of, element_of, value_of}
use Rattle.go_pexpr.specs.Tall.{fields_tall, exprs_tall, elements_tall}
use Rattle.go_pexpr.specs.Turns.{behind_value, behind_first, behind_last, read_value}
use Rattle.go_pexpr.specs.Reads.{left}
use Rattle.go_pexpr.proofs.Pushed.{map_push, fields_push, exprs_push, elements_push}
use Rattle.go_pexpr.proofs.ElementTurns.{no_colon_ends, key_takes}
use Rattle.go_pexpr.proofs.Reading.{then_reads, then_fails, then_makes, was_read, was_failing}
use Rattle.go_pexpr.proofs.Steps.{optional_some, optional_none}
use Rattle.go_pexpr.proofs.ListTurns.{list_closes, list_item}
use Rattle.go_pexpr.proofs.TreeStates.{false_true, field_end, field_type, argument_end, element_next, element_end, pushed, value_braces, value_alone}
use Rattle.go_pexpr.proofs.parser.Parser.+tree.Goals as goal

-- fields

pub fields-returns-in_err-names-clause-reads : goal.fields-returns-in_err-names-clause-reads
fields-returns-in_err-names-clause-reads t c = λ next.
    let l = c.args.level in
    let front = map field_of c.fields.items.items in
    then_fails (c.fields.invariant.reads next
    ∙ list_item c.fields.self.edition (fields l) front (λ fs _. next fs) (names l (field_type l next front)) (left c.fields.self) (λ u. refl) refl (λ h. false_true (c.fields-test.ensures.1 h)))
    (c.in_err-names.ensures.reads (field_end l next front)) c.from_residual.ensures.1

pub fields-returns-in_err-separate-clause-reads : goal.fields-returns-in_err-separate-clause-reads
fields-returns-in_err-separate-clause-reads t c = λ next.
    let l = c.args.level in
    let front = map field_of c.fields.items.items in
    let more = front ++ (c.in_ok-names.names.items, type_of c.in_ok-names.item.type_expr) ∷ [] in
    then_fails (c.fields.invariant.reads next
    ∙ list_item c.fields.self.edition (fields l) front (λ fs _. next fs) (names l (field_type l next front)) (left c.fields.self) (λ u. refl) refl (λ h. false_true (c.fields-test.ensures.1 h))
    ∙ (c.in_ok-names.ensures.reads (field_end l next front)).by)
    (c.in_err-separate.ensures.reads (fields l) more (λ fs _. next fs) refl refl) c.from_residual-in_err-separate.ensures.1

pub fields-fields-preserved : goal.fields-fields-preserved
fields-fields-preserved t c =
    let l = c.args.level in
    let front = map field_of c.fields.items.items in
    let f : Field = record { names = c.in_ok-names.names; type_expr = c.in_ok-names.item.type_expr } in
    let more = front ++ (c.in_ok-names.names.items, type_of c.in_ok-names.item.type_expr) ∷ [] in
    record {
      reads = λ next.
          c.fields.invariant.reads next
          ∙ list_item c.fields.self.edition (fields l) front (λ fs _. next fs) (names l (field_type l next front)) (left c.fields.self) (λ u. refl) refl (λ h. false_true (c.fields-test.ensures.1 h))
          ∙ (c.in_ok-names.ensures.reads (field_end l next front)).by
          ∙ (c.in_ok-separate.ensures.reads (fields l) more (λ fs _. next fs) refl refl).by
          ∙ ap (λ fs. run_parser c.separate.new.self.edition 250 (list_start (fields l) fs (λ gs _. next gs)) (left c.separate.new.self)) (sym (ap (λ fs. map field_of fs) c.in_ok-push.ensures.items ∙ map_push field_of c.fields.items.items f));
      counted = omega (arith, ap (λ fs. fields_tall fs) c.in_ok-push.ensures.items, fields_push c.fields.items.items f, c.fields.invariant.counted, c.in_ok-names.item.counted);
      fits = omega (arith, c.in_ok-names.ensures.fits, c.fields.invariant.fits);
      shorter = omega (arith, c.fields.invariant.shorter, c.in_ok-names.ensures.shorter, c.in_ok-separate.ensures.no_longer);
    }

pub fields-returns-in_err-expect-clause-reads : goal.fields-returns-in_err-expect-clause-reads
fields-returns-in_err-expect-clause-reads t c = λ next.
    let front = map field_of c.fields.items.items in
    then_fails (c.fields.invariant.reads next ∙ list_closes c.fields.self.edition (fields c.args.level) front (λ fs _. next fs) (left c.fields.self) (c.fields-test.ensures.0 refl))
    (c.in_err-expect.ensures.reads (λ _. next front)) c.from_residual-in_err-expect.ensures.1

pub fields-returns-clause-reads : goal.fields-returns-clause-reads
fields-returns-clause-reads t c = λ next.
    let front = map field_of c.fields.items.items in
    record {
      by = c.fields.invariant.reads next ∙ list_closes c.fields.self.edition (fields c.args.level) front (λ fs _. next fs) (left c.fields.self) (c.fields-test.ensures.0 refl)
          ∙ (c.in_ok-expect.ensures.reads (λ _. next front)).by
          ∙ ap (λ (xs : List Field). run_parser c.expect.new.self.edition 250 (next (map field_of xs)) (left c.expect.new.self)) (sym c.shrink_to_fit.ensures.items);
    }

-- arguments

pub arguments-returns-in_err-item-clause-reads : goal.arguments-returns-in_err-item-clause-reads
arguments-returns-in_err-item-clause-reads t c = λ next.
    let l = c.args.level in
    let front = map expr_of c.arguments.items.items in
    then_fails (c.arguments.invariant.reads next
    ∙ list_item c.arguments.self.edition (arguments l) front (λ es _. next es) (expr 5 false l an_operand (argument_end l next front)) (left c.arguments.self) (λ u. refl) refl (λ h. false_true (c.arguments-test.ensures.1 h)))
    (c.in_err-item.ensures.reads (argument_end l next front)) c.from_residual.ensures.1

pub arguments-returns-in_err-separate-clause-reads : goal.arguments-returns-in_err-separate-clause-reads
arguments-returns-in_err-separate-clause-reads t c = λ next.
    let l = c.args.level in
    let front = map expr_of c.arguments.items.items in
    let more = front ++ expr_of c.in_ok-item.item.expr ∷ [] in
    then_fails (c.arguments.invariant.reads next
    ∙ list_item c.arguments.self.edition (arguments l) front (λ es _. next es) (expr 5 false l an_operand (argument_end l next front)) (left c.arguments.self) (λ u. refl) refl (λ h. false_true (c.arguments-test.ensures.1 h))
    ∙ (c.in_ok-item.ensures.reads (argument_end l next front)).by)
    (c.in_err-separate.ensures.reads (arguments l) more (λ es _. next es) refl refl) c.from_residual-in_err-separate.ensures.1

pub arguments-arguments-init : goal.arguments-arguments-init
arguments-arguments-init t c = record { reads = λ next. refl; counted = c.args.front.counted; fits = c.requires.fits; shorter = omega arith }

pub arguments-arguments-preserved : goal.arguments-arguments-preserved
arguments-arguments-preserved t c =
    let l = c.args.level in
    let front = map expr_of c.arguments.items.items in
    let e = c.in_ok-item.item.expr in
    record {
      reads = λ next.
          c.arguments.invariant.reads next
          ∙ list_item c.arguments.self.edition (arguments l) front (λ es _. next es) (expr 5 false l an_operand (argument_end l next front)) (left c.arguments.self) (λ u. refl) refl (λ h. false_true (c.arguments-test.ensures.1 h))
          ∙ (c.in_ok-item.ensures.reads (argument_end l next front)).by
          ∙ (c.in_ok-separate.ensures.reads (arguments l) (front ++ expr_of e ∷ []) (λ es _. next es) refl refl).by
          ∙ ap (λ es. run_parser c.separate.new.self.edition 250 (list_start (arguments l) es (λ fs _. next fs)) (left c.separate.new.self)) (sym (ap (λ es. map expr_of es) c.in_ok-push.ensures.items ∙ map_push expr_of c.arguments.items.items e));
      counted = omega (arith, ap (λ es. exprs_tall es) c.in_ok-push.ensures.items, exprs_push c.arguments.items.items e, c.arguments.invariant.counted, c.in_ok-item.item.counted);
      fits = omega (arith, c.in_ok-item.ensures.fits, c.arguments.invariant.fits);
      shorter = omega (arith, c.arguments.invariant.shorter, c.in_ok-item.ensures.shorter, c.in_ok-separate.ensures.no_longer);
    }

pub arguments-returns-in_err-expect-clause-reads : goal.arguments-returns-in_err-expect-clause-reads
arguments-returns-in_err-expect-clause-reads t c = λ next.
    let front = map expr_of c.arguments.items.items in
    then_fails (c.arguments.invariant.reads next ∙ list_closes c.arguments.self.edition (arguments c.args.level) front (λ es _. next es) (left c.arguments.self) (c.arguments-test.ensures.0 refl))
    (c.in_err-expect.ensures.reads (λ _. next front)) c.from_residual-in_err-expect.ensures.1

pub arguments-returns-clause-reads : goal.arguments-returns-clause-reads
arguments-returns-clause-reads t c = λ next.
    let front = map expr_of c.arguments.items.items in
    record {
      by = c.arguments.invariant.reads next ∙ list_closes c.arguments.self.edition (arguments c.args.level) front (λ es _. next es) (left c.arguments.self) (c.arguments-test.ensures.0 refl)
          ∙ (c.in_ok-expect.ensures.reads (λ _. next front)).by
          ∙ ap (λ (xs : List Expr). run_parser c.expect.new.self.edition 250 (next (map expr_of xs)) (left c.expect.new.self)) (sym c.shrink_to_fit.ensures.items);
    }

-- elements of a literal

pub elements-returns-in_err-item-clause-reads : goal.elements-returns-in_err-item-clause-reads
elements-returns-in_err-item-clause-reads t c = λ next.
    let l = c.args.level in
    let front = map element_of c.elements.items.items in
    then_fails (c.elements.invariant.reads next
    ∙ list_item c.elements.self.edition (elements l) front (λ es _. next es) (element_next l front next) (left c.elements.self) (λ u. refl) refl (λ h. false_true (c.elements-test.ensures.1 h)))
    (c.in_err-item.ensures.reads front (λ es _. next es)) c.from_residual.ensures.1

pub elements-returns-in_err-separate-clause-reads : goal.elements-returns-in_err-separate-clause-reads
elements-returns-in_err-separate-clause-reads t c = λ next.
    let l = c.args.level in
    let front = map element_of c.elements.items.items in
    let more = front ++ element_of c.in_ok-item.item.element ∷ [] in
    then_fails (c.elements.invariant.reads next
    ∙ list_item c.elements.self.edition (elements l) front (λ es _. next es) (element_next l front next) (left c.elements.self) (λ u. refl) refl (λ h. false_true (c.elements-test.ensures.1 h))
    ∙ (c.in_ok-item.ensures.reads front (λ es _. next es)).by)
    (c.in_err-separate.ensures.reads (elements l) more (λ es _. next es) refl refl) c.from_residual-in_err-separate.ensures.1

pub elements-elements-preserved : goal.elements-elements-preserved
elements-elements-preserved t c =
    let l = c.args.level in
    let front = map element_of c.elements.items.items in
    let e = c.in_ok-item.item.element in
    record {
      reads = λ next.
          c.elements.invariant.reads next
          ∙ list_item c.elements.self.edition (elements l) front (λ es _. next es) (element_next l front next) (left c.elements.self) (λ u. refl) refl (λ h. false_true (c.elements-test.ensures.1 h))
          ∙ (c.in_ok-item.ensures.reads front (λ es _. next es)).by
          ∙ (c.in_ok-separate.ensures.reads (elements l) (front ++ element_of e ∷ []) (λ es _. next es) refl refl).by
          ∙ ap (λ es. run_parser c.separate.new.self.edition 250 (element_end l es next) (left c.separate.new.self)) (sym (ap (λ es. map element_of es) c.in_ok-push.ensures.items ∙ map_push element_of c.elements.items.items e));
      counted = omega (arith, ap (λ es. elements_tall es) c.in_ok-push.ensures.items, elements_push c.elements.items.items e, c.elements.invariant.counted, c.in_ok-item.item.counted);
      fits = λ h. omega (arith, c.in_ok-item.ensures.fits, c.elements.invariant.fits h);
      shorter = omega (arith, c.elements.invariant.shorter, c.in_ok-item.ensures.shorter, c.in_ok-separate.ensures.no_longer);
    }

pub elements-returns-in_err-expect-clause-reads : goal.elements-returns-in_err-expect-clause-reads
elements-returns-in_err-expect-clause-reads t c = λ next.
    let front = map element_of c.elements.items.items in
    then_fails (c.elements.invariant.reads next ∙ list_closes c.elements.self.edition (elements c.args.level) front (λ es _. next es) (left c.elements.self) (c.elements-test.ensures.0 refl))
    (c.in_err-expect.ensures.reads (λ _. next front)) c.from_residual-in_err-expect.ensures.1

pub elements-returns-clause-reads : goal.elements-returns-clause-reads
elements-returns-clause-reads t c = λ next.
    let front = map element_of c.elements.items.items in
    record {
      by = c.elements.invariant.reads next ∙ list_closes c.elements.self.edition (elements c.args.level) front (λ es _. next es) (left c.elements.self) (c.elements-test.ensures.0 refl)
          ∙ (c.in_ok-expect.ensures.reads (λ _. next front)).by
          ∙ ap (λ (xs : List Element). run_parser c.expect.new.self.edition 250 (next (map element_of xs)) (left c.expect.new.self)) (sym c.shrink_to_fit.ensures.items);
    }

-- an element

pub element-returns-then-not-is_next-clause-reads : goal.element-returns-then-not-is_next-clause-reads
element-returns-then-not-is_next-clause-reads t c = λ front next.
    let l = c.args.level in
    let ts = left c.value.new.self in
    record {
      by = (c.in_ok-first.ensures.reads (behind_first l front next)).by
          ∙ no_colon_ends c.value.new.self.edition l front next (value_of c.in_ok-first.first.value) ts (λ h. false_true (c.if-not-is_next.ensures.1 h))
          ∙ ap (λ e. run_parser c.value.new.self.edition 250 (pushed l front next e) ts) (sym c.element.ensures.element);
    }

pub element-returns-in_err-key-in-Ok-clause-reads : goal.element-returns-in_err-key-in-Ok-clause-reads
element-returns-in_err-key-in-Ok-clause-reads t c = λ front next.
    let l = c.args.level in
    let n = c.in-Ok.key in
    then_fails ((c.in_ok-first.ensures.reads (behind_first l front next)).by
    ∙ key_takes c.value.new.self.edition l front next (value_of c.in_ok-first.first.value) n (left c.value.new.self) c.in-Ok.ensures.key (c.if-not-is_next.ensures.0 refl))
    (was_failing (c.keyed.ensures.reads (behind_last l front next (Some n))) c.in_err-key-in-Ok.ensures.err) c.from_residual-in_err-key-in-Ok.ensures.1

pub element-returns-in_ok-key-in-Ok-clause-reads : goal.element-returns-in_ok-key-in-Ok-clause-reads
element-returns-in_ok-key-in-Ok-clause-reads t c = λ front next.
    let l = c.args.level in
    let n = c.in-Ok.key in
    let v = value_of c.in_ok-key-in-Ok.value.value in
    then_makes c.keyed_element.result (pushed l front next (Some n, v))
    ((c.in_ok-first.ensures.reads (behind_first l front next)).by
    ∙ key_takes c.value.new.self.edition l front next (value_of c.in_ok-first.first.value) n (left c.value.new.self) c.in-Ok.ensures.key (c.if-not-is_next.ensures.0 refl)
    ∙ was_read (c.keyed.ensures.reads (behind_last l front next (Some n))) c.in_ok-key-in-Ok.ensures.read)
    (IfOk-weaker c.keyed_element.result _ _ (λ e h. ap (pushed l front next) (h ∙ ap (λ k. (Some k, v)) c.in_ok-key-in-Ok.ensures.first)) c.keyed_element.ensures.element) c.keyed_element.ensures.err

-- the value behind a key

pub keyed-returns-clause-reads : goal.keyed-returns-clause-reads
keyed-returns-clause-reads t c = λ next.
    then_reads c.value.result (c.in_ok-expect.ensures.reads (λ _. read_value c.args.level next)).by (c.value.ensures.reads next)

-- the value of an element

pub value-returns-in_err-place-clause-reads : goal.value-returns-in_err-place-clause-reads
value-returns-in_err-place-clause-reads t c = λ next.
    let l = c.args.level in
    then_fails (optional_some c.args.self.now.edition opening_brace l another (behind_value l next) (expr 5 false l an_operand (value_alone next)) (left c.args.self.now) (c.if-is_next.ensures.0 refl))
    (c.in_err-place.ensures.reads (value_braces next)) c.from_residual.ensures.1

pub value-returns-then-is_next-clause-reads : goal.value-returns-then-is_next-clause-reads
value-returns-then-is_next-clause-reads t c = λ next.
    let l = c.args.level in
    record {
      by = optional_some c.args.self.now.edition opening_brace l another (behind_value l next) (expr 5 false l an_operand (value_alone next)) (left c.args.self.now) (c.if-is_next.ensures.0 refl)
          ∙ (c.in_ok-place.ensures.reads (value_braces next)).by
          ∙ ap (λ v. run_parser c.braced.new.self.edition 250 (next v) (left c.braced.new.self)) (sym c.braced_value.ensures.value);
    }

pub value-returns-in_err-expr-clause-reads : goal.value-returns-in_err-expr-clause-reads
value-returns-in_err-expr-clause-reads t c = λ next.
    let l = c.args.level in
    then_fails (optional_none c.args.self.now.edition opening_brace l (behind_value l next) (expr 5 false l an_operand (value_alone next)) (left c.args.self.now) (λ h. false_true (c.if-is_next.ensures.1 h)))
    (c.in_err-expr.ensures.reads (value_alone next)) c.from_residual-in_err-expr.ensures.1

pub value-returns-clause-reads : goal.value-returns-clause-reads
value-returns-clause-reads t c = λ next.
    let l = c.args.level in
    record {
      by = optional_none c.args.self.now.edition opening_brace l (behind_value l next) (expr 5 false l an_operand (value_alone next)) (left c.args.self.now) (λ h. false_true (c.if-is_next.ensures.1 h))
          ∙ (c.in_ok-expr.ensures.reads (value_alone next)).by
          ∙ ap (λ v. run_parser c.binary.new.self.edition 250 (next v) (left c.binary.new.self)) (sym c.expression_value.ensures.value);
    }
