-- Answers at the operands of calls.
use Rattle.std.proofs.Common.{◌+◌, ◌-◌, false, [], ◌∷◌, map, refl, sym, ap, ◌∙◌}
use Rattle.std.proofs.lemmas.Result.{IfOk-weaker}
use Rattle.go_pexpr.specs.declared.operators.Beginning.TheVariants as begins
use Rattle.go_pexpr.proofs.Begins.{begins_as, bracket_first, structure_first}
use Rattle.go_scan.specs.declared.keyword.Keyword.TheVariants as keywords
use Rattle.go_ast.specs.Trees as trees
use Rattle.go_ast.specs.Expected.{another}
use Rattle.go_ast.specs.Grammar.{type_place, opening, opening_bracket}
use Rattle.go_ast.specs.Machine.{expr, list_start, arguments, keyword, run_parser, behind_operand, behind_operand_type}
use Rattle.go_ast.specs.Views.{type_of, expr_of, element_of}
use Rattle.go_pexpr.specs.Turns.{behind_conversion}
use Rattle.go_pexpr.specs.Reads.{left}
use Rattle.go_pexpr.proofs.Reading.{then_reads, then_fails, then_makes, was_read, was_failing}
use Rattle.go_pexpr.proofs.Steps.{optional_some, optional_none}
use Rattle.go_pexpr.proofs.ListTurns.{operand_end, operands_close, operands_old, operands_bracket, operands_struct, operands_expr}
use Rattle.go_pexpr.proofs.TreeStates.{false_true, operand_by_brace, operand_of_slice, operand_of_other, literal_front, converted_front}
use Rattle.go_pexpr.proofs.parser.Parser.+tree.Goals as goal

-- the operands of a call

pub operands-returns-in_err-expect-clause-reads : goal.operands-returns-in_err-expect-clause-reads
operands-returns-in_err-expect-clause-reads t c = λ next.
    then_fails (operands_close c.args.self.now.edition c.args.level (λ es _. next es) (left c.args.self.now) (c.if-is_next.ensures.0 refl))
    (c.in_err-expect.ensures.reads (λ _. next [])) c.from_residual.ensures.1

pub operands-returns-then-is_next-clause-reads : goal.operands-returns-then-is_next-clause-reads
operands-returns-then-is_next-clause-reads t c = λ next.
    record {
      by = operands_close c.args.self.now.edition c.args.level (λ es _. next es) (left c.args.self.now) (c.if-is_next.ensures.0 refl)
          ∙ (c.in_ok-expect.ensures.reads (λ _. next [])).by
          ∙ ap (λ es. run_parser c.expect.new.self.edition 250 (next (map expr_of es)) (left c.expect.new.self)) (sym c.no_arguments.ensures.items);
    }

pub operands-returns-in_err-first-clause-reads : goal.operands-returns-in_err-first-clause-reads
operands-returns-in_err-first-clause-reads t c = λ next.
    then_fails refl (c.in_err-first.ensures.reads (λ es _. next es) (λ h. false_true (c.if-is_next.ensures.1 h))) c.from_residual-in_err-first.ensures.1

pub operands-returns-in_err-operand-clause-reads : goal.operands-returns-in_err-operand-clause-reads
operands-returns-in_err-operand-clause-reads t c = λ next.
    let l = c.args.level in
    let e = expr_of c.in_ok-first.first.expr in
    then_fails (c.in_ok-first.ensures.reads (λ es _. next es) (λ h. false_true (c.if-is_next.ensures.1 h))).by
    (was_failing (c.separate.ensures.reads (arguments l) (e ∷ []) (λ es _. next es) refl refl) c.in_err-operand.ensures.err) c.from_residual-in_err-operand.ensures.1

pub operands-returns-clause-reads : goal.operands-returns-clause-reads
operands-returns-clause-reads t c = λ next.
    let l = c.args.level in
    let e = expr_of c.in_ok-first.first.expr in
    let same = ap (λ es. map expr_of es) c.in_ok-front.ensures.items ∙ ap (λ x. expr_of x.expr ∷ []) c.in_ok-operand.ensures.first in
    then_reads c.arguments.result
    ((c.in_ok-first.ensures.reads (λ es _. next es) (λ h. false_true (c.if-is_next.ensures.1 h))).by
    ∙ was_read (c.separate.ensures.reads (arguments l) (e ∷ []) (λ es _. next es) refl refl) c.in_ok-operand.ensures.read
    ∙ ap (λ es. run_parser c.separate.new.self.edition 250 (list_start (arguments l) es (λ fs _. next fs)) (left c.separate.new.self)) (sym same))
    (c.arguments.ensures.reads next)

-- the first of them

pub first_operand-returns-then-not-has_slices-clause-reads : goal.first_operand-returns-then-not-has_slices-clause-reads
first_operand-returns-then-not-has_slices-clause-reads t c = λ next more.
    then_reads c.binary.result (operands_old c.args.self.now.edition c.args.level next (left c.args.self.now) (sym c.if-not-has_slices.ensures) more)
    (c.binary.ensures.reads (operand_end c.args.level next))

pub first_operand-returns-clause-reads : goal.first_operand-returns-clause-reads
first_operand-returns-clause-reads t c = λ next more. then_reads c.type_or_operand.result refl (c.type_or_operand.ensures.reads (sym c.if-not-has_slices.ensures) next more)

pub type_or_operand-returns-in_err-bracket-in-Bracket-clause-reads : goal.type_or_operand-returns-in_err-bracket-in-Bracket-clause-reads
type_or_operand-returns-in_err-bracket-in-Bracket-clause-reads t c = λ newer next more.
    let l = c.args.level in
    let ts = left c.args.self.now in
    then_fails (operands_bracket c.args.self.now.edition l next ts newer (bracket_first ts (sym c.beginning.ensures ∙ c.in-Bracket.is)))
    (c.in_err-bracket-in-Bracket.ensures.reads (behind_operand_type l (operand_end l next))) c.from_residual.ensures.1

pub type_or_operand-returns-in_ok-bracket-in-Bracket-clause-reads : goal.type_or_operand-returns-in_ok-bracket-in-Bracket-clause-reads
type_or_operand-returns-in_ok-bracket-in-Bracket-clause-reads t c = λ newer next more.
    let l = c.args.level in
    let ts = left c.args.self.now in
    then_reads c.operand_of_type.result
    (operands_bracket c.args.self.now.edition l next ts newer (bracket_first ts (sym c.beginning.ensures ∙ c.in-Bracket.is))
    ∙ (c.in_ok-bracket-in-Bracket.ensures.reads (behind_operand_type l (operand_end l next))).by)
    (c.operand_of_type.ensures.reads (operand_end l next))

pub type_or_operand-returns-in_err-structure-in-Structure-clause-reads : goal.type_or_operand-returns-in_err-structure-in-Structure-clause-reads
type_or_operand-returns-in_err-structure-in-Structure-clause-reads t c = λ newer next more.
    let l = c.args.level in
    let ts = left c.args.self.now in
    then_fails (operands_struct c.args.self.now.edition l next ts newer (structure_first ts (sym c.beginning.ensures ∙ c.in-Structure.is)))
    (c.in_err-structure-in-Structure.ensures.reads (behind_operand_type l (operand_end l next))) c.from_residual-in_err-structure-in-Structure.ensures.1

pub type_or_operand-returns-in_ok-structure-in-Structure-clause-reads : goal.type_or_operand-returns-in_ok-structure-in-Structure-clause-reads
type_or_operand-returns-in_ok-structure-in-Structure-clause-reads t c = λ newer next more.
    let l = c.args.level in
    let ts = left c.args.self.now in
    then_reads c.operand_of_type-in-Structure.result
    (operands_struct c.args.self.now.edition l next ts newer (structure_first ts (sym c.beginning.ensures ∙ c.in-Structure.is))
    ∙ (c.in_ok-structure-in-Structure.ensures.reads (behind_operand_type l (operand_end l next))).by)
    (c.operand_of_type-in-Structure.ensures.reads (operand_end l next))

pub type_or_operand-returns-in_default-clause-reads : goal.type_or_operand-returns-in_default-clause-reads
type_or_operand-returns-in_default-clause-reads t c = λ newer next more.
    let l = c.args.level in
    let ts = left c.args.self.now in
    then_reads c.binary.result
    (operands_expr c.args.self.now.edition l next ts newer more
    (λ h. c.in_default.not-Bracket (c.beginning.ensures ∙ begins_as opening_bracket begins.Bracket ts refl h))
    (λ h. c.in_default.not-Structure (c.beginning.ensures ∙ begins_as (keyword keywords.Struct) begins.Structure ts refl h)))
    (c.binary.ensures.reads (operand_end l next))

-- behind a type that it begins with

pub operand_of_type-returns-then-is_next-clause-reads : goal.operand_of_type-returns-then-is_next-clause-reads
operand_of_type-returns-then-is_next-clause-reads t c = λ next.
    then_reads c.literal_operand.result
    (operand_by_brace c.args.self.now.edition c.args.level c.args.a.height next (type_of c.args.a.type_expr) (left c.args.self.now) c.args.a.counted (c.if-is_next.ensures.0 refl))
    (c.literal_operand.ensures.reads next)

pub operand_of_type-returns-then-is_slice-clause-reads : goal.operand_of_type-returns-then-is_slice-clause-reads
operand_of_type-returns-then-is_slice-clause-reads t c = λ next.
    let a = type_of c.args.a.type_expr in
    then_makes c.type_operand.result (next (trees.type_operand (type_place a) a))
    (operand_of_slice c.args.self.now.edition c.args.level next a (left c.args.self.now) (sym c.if-is_slice.ensures) (λ h. false_true (c.if-is_next.ensures.1 h)))
    (IfOk-weaker c.type_operand.result _ _ (λ x h. ap next h) c.type_operand.ensures.expr) c.type_operand.ensures.err

pub operand_of_type-returns-clause-reads : goal.operand_of_type-returns-clause-reads
operand_of_type-returns-clause-reads t c = λ next.
    then_reads c.converted_operand.result
    (operand_of_other c.args.self.now.edition c.args.level c.args.a.height next (type_of c.args.a.type_expr) (left c.args.self.now) c.args.a.counted (sym c.if-is_slice.ensures)
    (λ h. false_true (c.if-is_next.ensures.1 h))) (c.converted_operand.ensures.reads next)

pub literal_operand-returns-in_err-of-clause-reads : goal.literal_operand-returns-in_err-of-clause-reads
literal_operand-returns-in_err-of-clause-reads t c = λ next.
    let a = type_of c.args.a.type_expr in
    then_fails refl (was_failing (c.braced.ensures.reads (literal_front c.args.level next a)) c.in_err-of.ensures.err) c.from_residual.ensures.1

pub literal_operand-returns-clause-reads : goal.literal_operand-returns-clause-reads
literal_operand-returns-clause-reads t c = λ next.
    let l = c.args.level in
    let a = type_of c.args.a.type_expr in
    let q = c.in_ok-of.braced.0 in
    let es = map element_of c.in_ok-of.braced.1.items.items in
    let same = ap (λ b. type_of b.type_expr) c.in_ok-of.ensures.first in
    let made = c.in_ok-literal.ensures.expr ∙ ap (λ b. trees.composite_lit (type_place b) b q (trees.pack_elements es)) same in
    then_reads c.behind.result
    (was_read (c.braced.ensures.reads (literal_front l next a)) c.in_ok-of.ensures.read
    ∙ ap (λ e. run_parser c.braced.new.self.edition 250 (behind_operand 5 false l next e) (left c.braced.new.self)) (sym made))
    (c.behind.ensures.reads next)

pub converted_operand-returns-then-not-is_next-clause-reads : goal.converted_operand-returns-then-not-is_next-clause-reads
converted_operand-returns-then-not-is_next-clause-reads t c = λ next.
    let l = c.args.level in
    let a = type_of c.args.a.type_expr in
    then_makes c.type_operand.result (next (trees.type_operand (type_place a) a))
    (optional_none c.args.self.now.edition opening (l + c.args.a.height) (behind_conversion l (converted_front l next a)) (next (trees.type_operand (type_place a) a)) (left c.args.self.now) (λ h. false_true (c.if-not-is_next.ensures.1 h)))
    (IfOk-weaker c.type_operand.result _ _ (λ x h. ap next h) c.type_operand.ensures.expr) c.type_operand.ensures.err

pub converted_operand-returns-in_err-to-clause-reads : goal.converted_operand-returns-in_err-to-clause-reads
converted_operand-returns-in_err-to-clause-reads t c = λ next.
    let l = c.args.level in
    let a = type_of c.args.a.type_expr in
    then_fails (optional_some c.args.self.now.edition opening (l + c.args.a.height) another (behind_conversion l (converted_front l next a)) (next (trees.type_operand (type_place a) a)) (left c.args.self.now) (c.if-not-is_next.ensures.0 refl))
    (was_failing (c.converted.ensures.reads (converted_front l next a)) c.in_err-to.ensures.err) c.from_residual.ensures.1

pub converted_operand-returns-clause-reads : goal.converted_operand-returns-clause-reads
converted_operand-returns-clause-reads t c = λ next.
    let l = c.args.level in
    let a = type_of c.args.a.type_expr in
    let v = expr_of c.in_ok-to.value.expr in
    let same = ap (λ b. type_of b.type_expr) c.in_ok-to.ensures.first in
    let made = c.in_ok-converted.ensures.expr ∙ ap (λ b. trees.conversion (type_place b) b v) same in
    then_reads c.behind.result
    (optional_some c.args.self.now.edition opening (l + c.args.a.height) another (behind_conversion l (converted_front l next a)) (next (trees.type_operand (type_place a) a)) (left c.args.self.now) (c.if-not-is_next.ensures.0 refl)
    ∙ was_read (c.converted.ensures.reads (converted_front l next a)) c.in_ok-to.ensures.read
    ∙ ap (λ e. run_parser c.converted.new.self.edition 250 (behind_operand 5 false l next e) (left c.converted.new.self)) (sym made))
    (c.behind.ensures.reads next)
