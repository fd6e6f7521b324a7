use Rattle.std.proofs.Common.{◌≡◌, IfOk, ℕ, subst}
use Rattle.go_gen.proofs.Totals.{if_temps, for_temps, range_temps, switch_temps, block_temps}
use Rattle.go_gen.proofs.statement_temps.+temps.Goals as goal

pub stmt_temps-returns-in_ok-stmts_temps-in-If-2 : goal.stmt_temps-returns-in_ok-stmts_temps-in-If-2
stmt_temps-returns-in_ok-stmts_temps-in-If-2 t c =
    subst (λ (x : ℕ). IfOk c.sum-in-If.result (λ n. n ≡ x))
    (if_temps c.args.s.now c.in-If.e c.in-If.a c.in-If.b _ _ _ _ _ _ c.in-If.is c.deref-in-If.ensures.value c.deref-in-If-2.ensures.value
    c.in_ok-expr_temps-in-If.ensures c.in_ok-stmts_temps-in-If.ensures c.in_ok-stmts_temps-in-If-2.ensures c.in_ok-sum-in-If.ensures)
    c.sum-in-If.ensures

pub stmt_temps-returns-in_ok-condition_temps-in-For : goal.stmt_temps-returns-in_ok-condition_temps-in-For
stmt_temps-returns-in_ok-condition_temps-in-For t c =
    subst (λ (x : ℕ). IfOk c.sum-in-For-2.result (λ n. n ≡ x))
    (for_temps c.args.s.now c.in-For.condition c.in-For.post c.in-For.body _ _ _ _ _ _ c.in-For.is c.deref-in-For-2.ensures.value c.deref-in-For.ensures.value
    c.in_ok-stmts_temps-in-For.ensures c.in_ok-stmts_temps-in-For-2.ensures c.in_ok-condition_temps-in-For.ensures c.in_ok-turn-in-For.ensures)
    c.sum-in-For-2.ensures

pub stmt_temps-returns-in_ok-stmts_temps-in-Range : goal.stmt_temps-returns-in_ok-stmts_temps-in-Range
stmt_temps-returns-in_ok-stmts_temps-in-Range t c =
    subst (λ (x : ℕ). IfOk c.sum-in-Range-2.result (λ n. n ≡ x))
    (range_temps c.args.s.now c.in-Range.field-0 c.in-Range.field-1 c.in-Range.e c.in-Range.body _ _ _ _ c.in-Range.is c.deref-in-Range.ensures.value
    c.in_ok-expr_temps-in-Range.ensures c.in_ok-stmts_temps-in-Range.ensures c.in_ok-sum-in-Range.ensures)
    c.sum-in-Range-2.ensures

pub stmt_temps-returns-in_ok-bodies_temps-in-Switch : goal.stmt_temps-returns-in_ok-bodies_temps-in-Switch
stmt_temps-returns-in_ok-bodies_temps-in-Switch t c =
    subst (λ (x : ℕ). IfOk c.sum-in-Switch-3.result (λ n. n ≡ x))
    (switch_temps c.args.s.now c.in-Switch.e c.in-Switch.clauses _ _ _ _ _ _ _ _ c.in-Switch.is c.deref-in-Switch.ensures.value c.deref-in-Switch-2.ensures.value
    c.in_ok-expr_temps-in-Switch.ensures c.in_ok-cells-in-Switch.ensures c.in_ok-cases_temps-in-Switch.ensures c.in_ok-bodies_temps-in-Switch.ensures c.in_ok-tag-in-Switch.ensures c.in_ok-sum-in-Switch.ensures)
    c.sum-in-Switch-3.ensures

pub stmt_temps-returns-in-Block : goal.stmt_temps-returns-in-Block
stmt_temps-returns-in-Block t c =
    subst (λ (x : ℕ). IfOk c.stmts_temps-in-Block.result (λ n. n ≡ x))
    (block_temps c.args.s.now c.in-Block.body _ c.in-Block.is c.deref-in-Block.ensures.value)
    c.stmts_temps-in-Block.ensures
