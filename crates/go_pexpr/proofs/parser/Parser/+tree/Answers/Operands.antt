-- Answers at operators and operands.
use Rattle.std.proofs.Common.{◌≡◌, ◌+◌, ◌-◌, ◌<◌, ◌≤◌, false, [], map, Some, refl, sym, ap, ◌∙◌, arith}
use Rattle.std.proofs.lemmas.Result.{IfOk-weaker}
use Rattle.go_pexpr.specs.declared.operators.Beginning.TheVariants as begins
use Rattle.go_pexpr.proofs.Begins.{begins_as, name_first, integer_first, rune_first, string_first, parenthesis_first, bracket_first, structure_first}
use Rattle.go_scan.specs.declared.token.TokenKind.TheVariants as kinds
use Rattle.go_scan.specs.declared.keyword.Keyword.TheVariants as keywords
use Rattle.go_ast.specs.Trees as trees
use Rattle.go_ast.specs.Expected.{an_operand, another}
use Rattle.go_ast.specs.Grammar.{type_place, opening, opening_bracket, opening_brace}
use Rattle.go_ast.specs.Machine.{token, expr, suffixes, list_start, elements, keyword, behind_literal_type, run_parser}
use Rattle.go_ast.specs.Views.{type_of, expr_of, element_of}
use Rattle.go_pexpr.specs.Turns.{behind_brace}
use Rattle.go_pexpr.specs.Reads.{left, size, expected_of}
use Rattle.go_pexpr.proofs.Reading.{then_reads, then_fails, then_makes, then_refuses, was_read, was_failing, if_read, on_read}
use Rattle.go_pexpr.proofs.Turns.{kind_at, expr_as_name, expr_as_integer, expr_as_rune, expr_as_string, expr_as_paren, expr_as_array, expr_as_struct, expr_fails, sign_first, expr_as_sign}
use Rattle.go_pexpr.proofs.OperatorTurns.{followed, splits_all, operator_first, operator_within, operator_due, operators_end, tails_all}
use Rattle.go_pexpr.proofs.TreeStates.{false_true, other_not, behind_sign, typed_elements, typed_value, converted_value, typed_by_brace, typed_by_parenthesis, slice_by_brace}
use Rattle.go_pexpr.proofs.parser.Parser.+tree.Goals as goal

-- operators

pub binary-returns-in_err-front-clause-reads : goal.binary-returns-in_err-front-clause-reads
binary-returns-in_err-front-clause-reads t c = λ next.
    then_fails (splits_all c.args.self.now.edition c.args.limit c.args.header c.args.level (expected_of c.args.expected) next (left c.args.self.now))
    (c.in_err-front.ensures.reads (λ a. followed 0 (c.args.limit - 0) c.args.header c.args.level next a)) c.from_residual.ensures.1

pub binary-returns-clause-reads : goal.binary-returns-clause-reads
binary-returns-clause-reads t c = λ next.
    let n = c.args.limit in
    let h = c.args.header in
    let l = c.args.level in
    then_reads c.operators.result
    (splits_all c.args.self.now.edition n h l (expected_of c.args.expected) next (left c.args.self.now)
    ∙ (c.in_ok-front.ensures.reads (λ a. followed 0 (n - 0) h l next a)).by
    ∙ ap (λ s. run_parser c.unary.new.self.edition 250 s (left c.unary.new.self)) (sym (tails_all n h l next (expr_of c.in_ok-front.front.expr))))
    (c.operators.ensures.reads next)

pub operators-operators-init : goal.operators-operators-init
operators-operators-init t c =
    let n = c.args.limit in
    record {
      reads = λ next.
          ap (λ s. run_parser c.args.self.now.edition 250 s (left c.args.self.now)) (tails_all n c.args.header c.args.level next (expr_of c.args.front.expr));
      within = omega arith;
      fits = c.requires.fits;
      shorter = omega arith;
    }

pub operators-returns-in_err-front-clause-reads : goal.operators-returns-in_err-front-clause-reads
operators-returns-in_err-front-clause-reads t c = λ next.
    let h = c.args.header in
    let l = c.args.level in
    let j = c.tighter-tightest.result in
    let a = expr_of c.operators.left.expr in
    let op = c.in-Some.operator in
    let ts = left c.operators.self in
    let q = sym c.operator.ensures ∙ c.in-Some.is in
    then_fails (c.operators.invariant.reads next ∙ operator_due c.operators.self.edition c.operators.tightest c.args.limit j c.operators.left.height h l a next ts op q c.tighter-tightest.ensures c.operators.left.counted)
    (was_failing (c.right.ensures.reads (kind_at ts) another (λ r. followed j (c.args.limit - j) h l next (trees.binary (trees.place_of a) op a r)) (operator_first c.operators.tightest c.args.limit ts op q)) c.in_err-front.ensures.err)
    c.from_residual.ensures.1

pub operators-operators-preserved : goal.operators-operators-preserved
operators-operators-preserved t c =
    let h = c.args.header in
    let l = c.args.level in
    let j = c.tighter-tightest.result in
    let a = expr_of c.operators.left.expr in
    let op = c.in-Some.operator in
    let ts = left c.operators.self in
    let q = sym c.operator.ensures ∙ c.in-Some.is in
    record {
      reads = λ next.
          c.operators.invariant.reads next ∙ operator_due c.operators.self.edition c.operators.tightest c.args.limit j c.operators.left.height h l a next ts op q c.tighter-tightest.ensures c.operators.left.counted
          ∙ was_read (c.right.ensures.reads (kind_at ts) another (λ r. followed j (c.args.limit - j) h l next (trees.binary (trees.place_of a) op a r)) (operator_first c.operators.tightest c.args.limit ts op q)) c.in_ok-front.ensures.read
          ∙ ap (λ e. run_parser c.right.new.self.edition 250 (followed j (c.args.limit - j) h l next e) (left c.right.new.self)) (sym (c.in_ok-left.ensures.expr
          ∙ ap (λ o. trees.binary (trees.place_of (expr_of o.expr)) op (expr_of o.expr) (expr_of c.in_ok-front.right.expr)) c.in_ok-front.ensures.first));
      within = omega (arith, (operator_within c.operators.tightest c.args.limit ts op q).1, c.tighter-tightest.ensures);
      fits = omega (arith, on_read (l + c.operators.left.height ≤ 250) c.right.ensures.need c.in_ok-front.ensures.read, c.in_ok-left.ensures.height, if_read (λ e. l + 1 + e.height ≤ 251) c.right.ensures.fits c.in_ok-front.ensures.read, ap (λ o. o.height) c.in_ok-front.ensures.first);
      shorter = omega (arith, c.operators.invariant.shorter, on_read (size c.right.new.self < size c.operators.self) c.right.ensures.shorter c.in_ok-front.ensures.read);
    }

pub right-returns-in_err-bump-clause-reads : goal.right-returns-in_err-bump-clause-reads
right-returns-in_err-bump-clause-reads t c = λ k x next first.
    then_fails refl (c.in_err-bump.ensures.reads k x (λ _. expr c.args.limit c.args.header c.args.level an_operand next) first) c.from_residual.ensures.1

pub right-returns-clause-reads : goal.right-returns-clause-reads
right-returns-clause-reads t c = λ k x next first.
    then_reads c.binary.result (c.in_ok-bump.ensures.reads k x (λ _. expr c.args.limit c.args.header c.args.level an_operand next) first).by (c.binary.ensures.reads next)

pub operators-returns-clause-reads : goal.operators-returns-clause-reads
operators-returns-clause-reads t c = λ next. record {
  by = c.operators.invariant.reads next
      ∙ operators_end c.operators.self.edition c.operators.tightest c.args.limit c.args.header c.args.level (expr_of c.operators.left.expr) next (left c.operators.self) c.operators.invariant.within
      (sym c.operator.ensures ∙ c.in_default.is);
}

-- operands

pub operand-returns-in-Name-clause-reads : goal.operand-returns-in-Name-clause-reads
operand-returns-in-Name-clause-reads t c = λ h next.
    let ts = left c.args.self.now in
    then_reads c.name_operand.result (expr_as_name c.args.self.now.edition h c.args.level (expected_of c.args.expected) next ts (name_first ts (sym c.beginning.ensures ∙ c.in-Name.is))) (c.name_operand.ensures.reads (λ e. suffixes h c.args.level e next))

pub operand-returns-in-Integer-clause-reads : goal.operand-returns-in-Integer-clause-reads
operand-returns-in-Integer-clause-reads t c = λ h next.
    let ts = left c.args.self.now in
    then_reads c.integer_operand.result (expr_as_integer c.args.self.now.edition h c.args.level (expected_of c.args.expected) next ts (integer_first ts (sym c.beginning.ensures ∙ c.in-Integer.is))) (c.integer_operand.ensures.reads (λ e. suffixes h c.args.level e next))

pub operand-returns-in-Rune-clause-reads : goal.operand-returns-in-Rune-clause-reads
operand-returns-in-Rune-clause-reads t c = λ h next.
    let ts = left c.args.self.now in
    then_reads c.rune_operand.result (expr_as_rune c.args.self.now.edition h c.args.level (expected_of c.args.expected) next ts (rune_first ts (sym c.beginning.ensures ∙ c.in-Rune.is))) (c.rune_operand.ensures.reads (λ e. suffixes h c.args.level e next))

pub operand-returns-in-String-clause-reads : goal.operand-returns-in-String-clause-reads
operand-returns-in-String-clause-reads t c = λ h next.
    let ts = left c.args.self.now in
    then_reads c.string_operand.result (expr_as_string c.args.self.now.edition h c.args.level (expected_of c.args.expected) next ts (string_first ts (sym c.beginning.ensures ∙ c.in-String.is))) (c.string_operand.ensures.reads (λ e. suffixes h c.args.level e next))

pub operand-returns-in-Parenthesis-clause-reads : goal.operand-returns-in-Parenthesis-clause-reads
operand-returns-in-Parenthesis-clause-reads t c = λ h next.
    let ts = left c.args.self.now in
    then_reads c.parenthesized.result (expr_as_paren c.args.self.now.edition h c.args.level (expected_of c.args.expected) next ts (parenthesis_first ts (sym c.beginning.ensures ∙ c.in-Parenthesis.is))) (c.parenthesized.ensures.reads (λ e. suffixes h c.args.level e next))

pub operand-returns-in_err-bracket-in-Bracket-clause-reads : goal.operand-returns-in_err-bracket-in-Bracket-clause-reads
operand-returns-in_err-bracket-in-Bracket-clause-reads t c = λ h next.
    let ts = left c.args.self.now in
    then_fails (expr_as_array c.args.self.now.edition h c.args.level (expected_of c.args.expected) next ts (bracket_first ts (sym c.beginning.ensures ∙ c.in-Bracket.is)))
    (c.in_err-bracket-in-Bracket.ensures.reads (behind_literal_type c.args.level (λ e. suffixes h c.args.level e next))) c.from_residual.ensures.1

pub operand-returns-in_ok-bracket-in-Bracket-clause-reads : goal.operand-returns-in_ok-bracket-in-Bracket-clause-reads
operand-returns-in_ok-bracket-in-Bracket-clause-reads t c = λ h next.
    let ts = left c.args.self.now in
    then_reads c.typed.result (expr_as_array c.args.self.now.edition h c.args.level (expected_of c.args.expected) next ts (bracket_first ts (sym c.beginning.ensures ∙ c.in-Bracket.is))
    ∙ (c.in_ok-bracket-in-Bracket.ensures.reads (behind_literal_type c.args.level (λ e. suffixes h c.args.level e next))).by)
    (c.typed.ensures.reads (λ e. suffixes h c.args.level e next))

pub operand-returns-in_err-structure-in-Structure-clause-reads : goal.operand-returns-in_err-structure-in-Structure-clause-reads
operand-returns-in_err-structure-in-Structure-clause-reads t c = λ h next.
    let ts = left c.args.self.now in
    then_fails (expr_as_struct c.args.self.now.edition h c.args.level (expected_of c.args.expected) next ts (structure_first ts (sym c.beginning.ensures ∙ c.in-Structure.is)))
    (c.in_err-structure-in-Structure.ensures.reads (behind_literal_type c.args.level (λ e. suffixes h c.args.level e next))) c.from_residual-in_err-structure-in-Structure.ensures.1

pub operand-returns-in_ok-structure-in-Structure-clause-reads : goal.operand-returns-in_ok-structure-in-Structure-clause-reads
operand-returns-in_ok-structure-in-Structure-clause-reads t c = λ h next.
    let ts = left c.args.self.now in
    then_reads c.typed-in-Structure.result (expr_as_struct c.args.self.now.edition h c.args.level (expected_of c.args.expected) next ts (structure_first ts (sym c.beginning.ensures ∙ c.in-Structure.is))
    ∙ (c.in_ok-structure-in-Structure.ensures.reads (behind_literal_type c.args.level (λ e. suffixes h c.args.level e next))).by)
    (c.typed-in-Structure.ensures.reads (λ e. suffixes h c.args.level e next))

pub operand-returns-in-Other-clause-reads : goal.operand-returns-in-Other-clause-reads
operand-returns-in-Other-clause-reads t c = λ h next.
    let ts = left c.args.self.now in
    let other = sym c.beginning.ensures ∙ c.in-Other.is in
    then_refuses c.wrong.result _ (expr_fails c.args.self.now.edition h c.args.level (expected_of c.args.expected) next ts c.requires.sign
    (λ f. other_not begins.Name (λ e. cc (e)) other (begins_as kinds.Name begins.Name ts refl f))
    (λ f. other_not begins.Integer (λ e. cc (e)) other (begins_as kinds.Integer begins.Integer ts refl f))
    (λ f. other_not begins.Rune (λ e. cc (e)) other (begins_as kinds.Rune begins.Rune ts refl f))
    (λ f. other_not begins.String (λ e. cc (e)) other (begins_as kinds.String begins.String ts refl f))
    (λ f. other_not begins.Parenthesis (λ e. cc (e)) other (begins_as opening begins.Parenthesis ts refl f))
    (λ f. other_not begins.Bracket (λ e. cc (e)) other (begins_as opening_bracket begins.Bracket ts refl f))
    (λ f. other_not begins.Structure (λ e. cc (e)) other (begins_as (keyword keywords.Struct) begins.Structure ts refl f))) c.wrong.ensures

-- an expression in parentheses

pub parenthesized-returns-in_err-place-clause-reads : goal.parenthesized-returns-in_err-place-clause-reads
parenthesized-returns-in_err-place-clause-reads t c = λ next.
    then_fails refl (c.in_err-place.ensures.reads (λ p e. next (trees.parenthesized p e))) c.from_residual.ensures.1

pub parenthesized-returns-clause-reads : goal.parenthesized-returns-clause-reads
parenthesized-returns-clause-reads t c = λ next.
    then_makes c.parenthesized.result (next (trees.parenthesized c.in_ok-place.place (expr_of c.in_ok-place.inner.expr)))
    (c.in_ok-place.ensures.reads (λ p e. next (trees.parenthesized p e))).by
    (IfOk-weaker c.parenthesized.result _ _ (λ x h. ap next h) c.parenthesized.ensures.expr) c.parenthesized.ensures.err

-- an expression behind a mark, and between two

pub opened-returns-in_err-inner-clause-reads : goal.opened-returns-in_err-inner-clause-reads
opened-returns-in_err-inner-clause-reads t c = λ next.
    then_fails (c.in_ok-token.ensures.reads (λ o. expr 5 false c.args.level (expected_of c.args.expected) (next o.place))).by
    (c.in_err-inner.ensures.reads (next c.in_ok-token.token.place)) c.from_residual-in_err-inner.ensures.1

pub opened-returns-clause-reads : goal.opened-returns-clause-reads
opened-returns-clause-reads t c = λ next.
    record {
      by = (c.in_ok-token.ensures.reads (λ o. expr 5 false c.args.level (expected_of c.args.expected) (next o.place))).by
          ∙ (c.in_ok-inner.ensures.reads (next c.in_ok-token.token.place)).by;
    }

pub enclosed-returns-in_err-front-clause-reads : goal.enclosed-returns-in_err-front-clause-reads
enclosed-returns-in_err-front-clause-reads t c = λ next.
    let m = c.args.marks in
    then_fails refl (c.in_err-front.ensures.reads (λ p e. token m.last 0 (expected_of m.end) (λ _. next p e))) c.from_residual.ensures.1

pub enclosed-returns-in_err-enclosed-clause-reads : goal.enclosed-returns-in_err-enclosed-clause-reads
enclosed-returns-in_err-enclosed-clause-reads t c = λ next.
    let m = c.args.marks in
    let f = c.in_ok-front.front in
    then_fails (c.in_ok-front.ensures.reads (λ p e. token m.last 0 (expected_of m.end) (λ _. next p e))).by
    (was_failing (c.expect.ensures.reads (λ _. next f.0 (expr_of f.1.expr))) c.in_err-enclosed.ensures.err) c.from_residual-in_err-enclosed.ensures.1

pub enclosed-returns-clause-reads : goal.enclosed-returns-clause-reads
enclosed-returns-clause-reads t c = λ next.
    let m = c.args.marks in
    let f = c.in_ok-front.front in
    record {
      by = (c.in_ok-front.ensures.reads (λ p e. token m.last 0 (expected_of m.end) (λ _. next p e))).by
          ∙ was_read (c.expect.ensures.reads (λ _. next f.0 (expr_of f.1.expr))) c.in_ok-enclosed.ensures.read
          ∙ ap (λ r. run_parser c.expect.new.self.edition 250 (next r.0 (expr_of r.1.expr)) (left c.expect.new.self)) (sym c.in_ok-enclosed.ensures.first);
    }

-- signs

pub unary-returns-in_default-clause-reads : goal.unary-returns-in_default-clause-reads
unary-returns-in_default-clause-reads t c = λ next.
    then_reads c.suffixes.result (c.in_ok-operand.ensures.reads c.args.header next).by (c.suffixes.ensures.reads next)

pub unary-returns-in_err-token-clause-reads : goal.unary-returns-in_err-token-clause-reads
unary-returns-in_err-token-clause-reads t c = λ next.
    let op = c.in-Some.operator in
    let ts = left c.args.self.now in
    let q = sym c.sign.ensures ∙ c.in-Some.is in
    then_fails (expr_as_sign c.args.self.now.edition c.args.header c.args.level (expected_of c.args.expected) next ts op q)
    (c.in_err-token.ensures.reads (kind_at ts) another (behind_sign c.args.header c.args.level op next) (sign_first ts op q)) c.from_residual-in_err-token.ensures.1

pub unary-returns-in_err-operand-2-clause-reads : goal.unary-returns-in_err-operand-2-clause-reads
unary-returns-in_err-operand-2-clause-reads t c = λ next.
    let op = c.in-Some.operator in
    let ts = left c.args.self.now in
    let q = sym c.sign.ensures ∙ c.in-Some.is in
    then_fails (expr_as_sign c.args.self.now.edition c.args.header c.args.level (expected_of c.args.expected) next ts op q
    ∙ (c.in_ok-token.ensures.reads (kind_at ts) another (behind_sign c.args.header c.args.level op next) (sign_first ts op q)).by)
    (c.in_err-operand-2.ensures.reads (λ e. next (trees.unary c.in_ok-token.token.place op e))) c.from_residual-in_err-operand-2.ensures.1

pub unary-returns-clause-reads : goal.unary-returns-clause-reads
unary-returns-clause-reads t c = λ next.
    let op = c.in-Some.operator in
    let ts = left c.args.self.now in
    let p = c.in_ok-token.token.place in
    let q = sym c.sign.ensures ∙ c.in-Some.is in
    then_makes c.unary-2.result (next (trees.unary p op (expr_of c.in_ok-operand-2.operand.expr)))
    (expr_as_sign c.args.self.now.edition c.args.header c.args.level (expected_of c.args.expected) next ts op q
    ∙ (c.in_ok-token.ensures.reads (kind_at ts) another (behind_sign c.args.header c.args.level op next) (sign_first ts op q)).by
    ∙ (c.in_ok-operand-2.ensures.reads (λ e. next (trees.unary p op e))).by)
    (IfOk-weaker c.unary-2.result _ _ (λ e h. ap next h) c.unary-2.ensures.expr) c.unary-2.ensures.err

-- behind a type

pub typed-returns-then-is_slice-clause-reads : goal.typed-returns-then-is_slice-clause-reads
typed-returns-then-is_slice-clause-reads t c = λ next.
    then_reads c.literal.result (slice_by_brace c.args.self.now.edition c.args.level next (type_of c.args.a.type_expr) (left c.args.self.now) (sym c.if-is_slice.ensures)) (c.literal.ensures.reads next)

pub typed-returns-clause-reads : goal.typed-returns-clause-reads
typed-returns-clause-reads t c = λ next. then_reads c.literal_or_conversion.result refl (c.literal_or_conversion.ensures.reads (sym c.if-is_slice.ensures) next)

pub literal_or_conversion-returns-then-is_next-clause-reads : goal.literal_or_conversion-returns-then-is_next-clause-reads
literal_or_conversion-returns-then-is_next-clause-reads t c = λ other next.
    then_reads c.literal.result (typed_by_brace c.args.self.now.edition c.args.level next (type_of c.args.a.type_expr) (left c.args.self.now) (c.if-is_next.ensures.0 refl)) (c.literal.ensures.reads next)

pub literal_or_conversion-returns-in_err-a-clause-reads : goal.literal_or_conversion-returns-in_err-a-clause-reads
literal_or_conversion-returns-in_err-a-clause-reads t c = λ other next.
    let a = type_of c.args.a.type_expr in
    then_fails (typed_by_parenthesis c.args.self.now.edition c.args.level next a (left c.args.self.now) other (λ h. false_true (c.if-is_next.ensures.1 h)))
    (was_failing (c.converted.ensures.reads (typed_value next a)) c.in_err-a.ensures.err) c.from_residual.ensures.1

pub literal_or_conversion-returns-clause-reads : goal.literal_or_conversion-returns-clause-reads
literal_or_conversion-returns-clause-reads t c = λ other next.
    let a = type_of c.args.a.type_expr in
    let e = expr_of c.in_ok-a.value.expr in
    let same = ap (λ b. type_of b.type_expr) c.in_ok-a.ensures.first in
    then_makes c.conversion.result (next (trees.conversion (type_place a) a e))
    (typed_by_parenthesis c.args.self.now.edition c.args.level next a (left c.args.self.now) other (λ h. false_true (c.if-is_next.ensures.1 h))
    ∙ was_read (c.converted.ensures.reads (typed_value next a)) c.in_ok-a.ensures.read)
    (IfOk-weaker c.conversion.result _ _ (λ x h. ap next (h ∙ ap (λ b. trees.conversion (type_place b) b e) same)) c.conversion.ensures.expr) c.conversion.ensures.err

-- the elements of a literal

pub literal-returns-in_err-a-clause-reads : goal.literal-returns-in_err-a-clause-reads
literal-returns-in_err-a-clause-reads t c = λ next.
    let a = type_of c.args.a.type_expr in
    then_fails refl (was_failing (c.braced.ensures.reads (typed_elements c.args.level next a)) c.in_err-a.ensures.err) c.from_residual.ensures.1

pub literal-returns-clause-reads : goal.literal-returns-clause-reads
literal-returns-clause-reads t c = λ next.
    let a = type_of c.args.a.type_expr in
    let q = c.in_ok-a.braced.0 in
    let es = map element_of c.in_ok-a.braced.1.items.items in
    let same = ap (λ b. type_of b.type_expr) c.in_ok-a.ensures.first in
    then_makes c.composite_lit.result (typed_elements c.args.level next a q es)
    (was_read (c.braced.ensures.reads (typed_elements c.args.level next a)) c.in_ok-a.ensures.read)
    (IfOk-weaker c.composite_lit.result _ _ (λ e h. ap next (h ∙ ap (λ b. trees.composite_lit (type_place b) b q (trees.pack_elements es)) same)) c.composite_lit.ensures.expr) c.composite_lit.ensures.err

pub braced-returns-in_err-elements-clause-reads : goal.braced-returns-in_err-elements-clause-reads
braced-returns-in_err-elements-clause-reads t c = λ next.
    then_fails (c.in_ok-token.ensures.reads (λ o. list_start (elements c.args.level) [] (λ es _. next o.place es))).by
    (c.in_err-elements.ensures.reads (next c.in_ok-token.token.place)) c.from_residual-in_err-elements.ensures.1

pub braced-returns-clause-reads : goal.braced-returns-clause-reads
braced-returns-clause-reads t c = λ next.
    record {
      by = (c.in_ok-token.ensures.reads (λ o. list_start (elements c.args.level) [] (λ es _. next o.place es))).by
          ∙ (c.in_ok-elements.ensures.reads (next c.in_ok-token.token.place)).by;
    }

-- what is converted

pub converted-returns-in_err-inner-clause-reads : goal.converted-returns-in_err-inner-clause-reads
converted-returns-in_err-inner-clause-reads t c = λ next.
    then_fails refl (c.in_err-inner.ensures.reads (λ _. converted_value next)) c.from_residual.ensures.1

pub converted-returns-in_err-value-clause-reads : goal.converted-returns-in_err-value-clause-reads
converted-returns-in_err-value-clause-reads t c = λ next.
    then_fails (c.in_ok-inner.ensures.reads (λ _. converted_value next)).by
    (was_failing (c.converted_end.ensures.reads (next (expr_of c.in_ok-inner.inner.expr))) c.in_err-value.ensures.err) c.from_residual-in_err-value.ensures.1

pub converted-returns-clause-reads : goal.converted-returns-clause-reads
converted-returns-clause-reads t c = λ next.
    record {
      by = (c.in_ok-inner.ensures.reads (λ _. converted_value next)).by
          ∙ was_read (c.converted_end.ensures.reads (next (expr_of c.in_ok-inner.inner.expr))) c.in_ok-value.ensures.read
          ∙ ap (λ v. run_parser c.converted_end.new.self.edition 250 (next (expr_of v.expr)) (left c.converted_end.new.self)) (sym c.in_ok-value.ensures.first);
    }

-- elements of a literal of a named type

pub named_literal-literal-requires : goal.named_literal-literal-requires
named_literal-literal-requires t c = (omega arith, (omega arith, λ h. omega (arith, h, c.in-Some.ensures.height c.in-Some.a refl)))

pub named_literal-returns-in-Some-clause-reads : goal.named_literal-returns-in-Some-clause-reads
named_literal-returns-in-Some-clause-reads t c = λ a named next.
    let l = c.args.level in
    let is : Some (type_of c.in-Some.a.type_expr) ≡ Some a = c.in-Some.ensures.expr ∙ named in
    let same : type_of c.in-Some.a.type_expr ≡ a = cc (is) in
    then_reads c.literal.result (ap (λ b. run_parser c.args.self.now.edition 250 (token opening_brace (l + 1) another (behind_brace l b next)) (left c.args.self.now)) (sym same)) (c.literal.ensures.reads next)
