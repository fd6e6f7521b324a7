use Rattle.std.proofs.Common.{refl, sym, ap, ◌∙◌, subst}
use Rattle.go_scan.specs.declared.token.TokenKind.TheVariants as kinds
use Rattle.go_scan.specs.declared.punctuation.Punctuation.TheVariants as marks
use Rattle.go_ast.specs.declared.expression.Expr.{Expr}
use Rattle.go_ast.specs.Trees as trees
use Rattle.go_ast.specs.Expected.{another, an_operand}
use Rattle.go_ast.specs.Machine.{expr, token, run_parser}
use Rattle.go_ast.specs.Views.{expr_of}
use Rattle.go_pexpr.specs.Reads.{left}
use Rattle.go_pexpr.proofs.Reading.{then_fails, then_makes}
use Rattle.go_pstmt.specs.Statements.{position_of, is_bare, assignment_operator, Does, on_one, on_alone, at_one}
use Rattle.go_pstmt.proofs.Lefts.{does_at, same_only, by_operator, by_none, false_true}
use Rattle.go_pstmt.proofs.simple.behind_one.Goals as goal

pub returns-in_err-expect-clause-reads : goal.returns-in_err-expect-clause-reads
returns-in_err-expect-clause-reads c = λ side before next alone range one does.
    let m = position_of c.args.position in
    let h = is_bare c.args.position in
    then_fails
    (does_at c.args.parser.now.edition before (token (kinds.Punctuation marks.Increment) 0 another (λ _. next (trees.increment (expr_of side)))) (on_one c.args.parser.now.edition m h c.args.level (expr_of side) next alone) (at_one (expr_of side) next) (kinds.Punctuation marks.Increment) (left c.args.parser.now) does (c.if-is_next.ensures.0 refl) (λ text p. refl))
    (c.in_err-expect.ensures.reads (λ _. next (trees.increment (expr_of side)))) c.from_residual.ensures.1

pub returns-then-is_next-clause-reads : goal.returns-then-is_next-clause-reads
returns-then-is_next-clause-reads c = λ side before next alone range one does.
    let m = position_of c.args.position in
    let h = is_bare c.args.position in
    then_makes c.stated.result (next (trees.increment (expr_of c.sole.result)))
    (does_at c.args.parser.now.edition before (token (kinds.Punctuation marks.Increment) 0 another (λ _. next (trees.increment (expr_of side)))) (on_one c.args.parser.now.edition m h c.args.level (expr_of side) next alone) (at_one (expr_of side) next) (kinds.Punctuation marks.Increment) (left c.args.parser.now) does (c.if-is_next.ensures.0 refl) (λ text p. refl)
    ∙ (c.in_ok-expect.ensures.reads (λ _. next (trees.increment (expr_of side)))).by
    ∙ ap (λ (x : Expr). run_parser c.expect.new.self.edition 250 (next (trees.increment (expr_of x))) (left c.expect.new.self)) (same_only c.args.sides.items side c.sole.result one c.sole.ensures))
    (c.stated.ensures.ok next alone range) c.stated.ensures.err

pub returns-in_err-expect-2-clause-reads : goal.returns-in_err-expect-2-clause-reads
returns-in_err-expect-2-clause-reads c = λ side before next alone range one does.
    let m = position_of c.args.position in
    let h = is_bare c.args.position in
    then_fails
    (does_at c.args.parser.now.edition before (token (kinds.Punctuation marks.Decrement) 0 another (λ _. next (trees.decrement (expr_of side)))) (on_one c.args.parser.now.edition m h c.args.level (expr_of side) next alone) (at_one (expr_of side) next) (kinds.Punctuation marks.Decrement) (left c.args.parser.now) does (c.if-is_next-2.ensures.0 refl) (λ text p. refl))
    (c.in_err-expect-2.ensures.reads (λ _. next (trees.decrement (expr_of side)))) c.from_residual-in_err-expect-2.ensures.1

pub returns-then-is_next-2-clause-reads : goal.returns-then-is_next-2-clause-reads
returns-then-is_next-2-clause-reads c = λ side before next alone range one does.
    let m = position_of c.args.position in
    let h = is_bare c.args.position in
    then_makes c.stated-then-is_next-2.result (next (trees.decrement (expr_of c.sole-then-is_next-2.result)))
    (does_at c.args.parser.now.edition before (token (kinds.Punctuation marks.Decrement) 0 another (λ _. next (trees.decrement (expr_of side)))) (on_one c.args.parser.now.edition m h c.args.level (expr_of side) next alone) (at_one (expr_of side) next) (kinds.Punctuation marks.Decrement) (left c.args.parser.now) does (c.if-is_next-2.ensures.0 refl) (λ text p. refl)
    ∙ (c.in_ok-expect-2.ensures.reads (λ _. next (trees.decrement (expr_of side)))).by
    ∙ ap (λ (x : Expr). run_parser c.expect-then-is_next-2.new.self.edition 250 (next (trees.decrement (expr_of x))) (left c.expect-then-is_next-2.new.self)) (same_only c.args.sides.items side c.sole-then-is_next-2.result one c.sole-then-is_next-2.ensures))
    (c.stated-then-is_next-2.ensures.ok next alone range) c.stated-then-is_next-2.ensures.err

pub returns-in_err-bump-clause-reads : goal.returns-in_err-bump-clause-reads
returns-in_err-bump-clause-reads c = λ side before next alone range one does.
    let m = position_of c.args.position in
    let h = is_bare c.args.position in
    let op = c.in-Some.operator in
    let e = expr_of side in
    let b = by_operator c.args.parser.now.edition m h c.args.level e next alone before op (left c.args.parser.now) does (λ f. false_true (c.if-is_next.ensures.1 f)) (λ f. false_true (c.if-is_next-2.ensures.1 f)) (ap assignment_operator (sym c.kind.ensures) ∙ sym c.in-Some.ensures) in
    let behind = λ (r : trees.Expression). next (trees.operator_assignment op e r) in
    then_fails b.2 (c.in_err-bump.ensures.reads b.0 another (λ _. expr 5 h c.args.level an_operand behind) b.1) c.from_residual-in_err-bump.ensures.1

pub returns-in_err-value-clause-reads : goal.returns-in_err-value-clause-reads
returns-in_err-value-clause-reads c = λ side before next alone range one does.
    let m = position_of c.args.position in
    let h = is_bare c.args.position in
    let op = c.in-Some.operator in
    let e = expr_of side in
    let b = by_operator c.args.parser.now.edition m h c.args.level e next alone before op (left c.args.parser.now) does (λ f. false_true (c.if-is_next.ensures.1 f)) (λ f. false_true (c.if-is_next-2.ensures.1 f)) (ap assignment_operator (sym c.kind.ensures) ∙ sym c.in-Some.ensures) in
    let behind = λ (r : trees.Expression). next (trees.operator_assignment op e r) in
    then_fails
    (b.2 ∙ (c.in_ok-bump.ensures.reads b.0 another (λ _. expr 5 h c.args.level an_operand behind) b.1).by
    ∙ ap (λ x. run_parser c.bump.new.self.edition 250 (expr 5 x c.args.level an_operand behind) (left c.bump.new.self)) (sym c.is_bare.ensures))
    (c.in_err-value.ensures.reads behind) c.from_residual-in_err-value.ensures.1

pub returns-in-Some-clause-reads : goal.returns-in-Some-clause-reads
returns-in-Some-clause-reads c = λ side before next alone range one does.
    let m = position_of c.args.position in
    let h = is_bare c.args.position in
    let op = c.in-Some.operator in
    let e = expr_of side in
    let b = by_operator c.args.parser.now.edition m h c.args.level e next alone before op (left c.args.parser.now) does (λ f. false_true (c.if-is_next.ensures.1 f)) (λ f. false_true (c.if-is_next-2.ensures.1 f)) (ap assignment_operator (sym c.kind.ensures) ∙ sym c.in-Some.ensures) in
    let behind = λ (r : trees.Expression). next (trees.operator_assignment op e r) in
    then_makes c.stated-in-Some.result (next (trees.operator_assignment op (expr_of c.sole-in-Some.result) (expr_of c.in_ok-value.value)))
    (b.2 ∙ (c.in_ok-bump.ensures.reads b.0 another (λ _. expr 5 h c.args.level an_operand behind) b.1).by
    ∙ ap (λ x. run_parser c.bump.new.self.edition 250 (expr 5 x c.args.level an_operand behind) (left c.bump.new.self)) (sym c.is_bare.ensures)
    ∙ (c.in_ok-value.ensures.reads behind).by
    ∙ ap (λ (x : Expr). run_parser c.expr_from.new.self.edition 250 (next (trees.operator_assignment op (expr_of x) (expr_of c.in_ok-value.value))) (left c.expr_from.new.self)) (same_only c.args.sides.items side c.sole-in-Some.result one c.sole-in-Some.ensures))
    (c.stated-in-Some.ensures.ok next alone range) c.stated-in-Some.ensures.err

pub returns-clause-reads : goal.returns-clause-reads
returns-clause-reads c = λ side before next alone range one does.
    let m = position_of c.args.position in
    let h = is_bare c.args.position in
    let ts = left c.args.parser.now in
    let none = ap assignment_operator (sym c.kind.ensures) ∙ sym c.assigned.ensures ∙ c.in_default.is in
    c.alone.ensures.reads before next alone range
    (subst (λ (x : Expr). Does c.args.parser.now.edition before (on_alone c.args.parser.now.edition m (expr_of x) next alone) (at_one (expr_of x) next) ts) (same_only c.args.sides.items side c.sole-2.result one c.sole-2.ensures)
    (by_none c.args.parser.now.edition m h c.args.level (expr_of side) next alone before ts does (λ f. false_true (c.if-is_next.ensures.1 f)) (λ f. false_true (c.if-is_next-2.ensures.1 f)) none))
