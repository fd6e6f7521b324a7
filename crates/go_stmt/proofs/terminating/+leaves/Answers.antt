use Rattle.std.proofs.Common.{ap, sym, ◌∙◌}
use Rattle.go_typed.specs.Views.{as_stmt, stmts_in}
use Rattle.go_typed.proofs.StatementRows.{if_seen, block_seen}
use Rattle.go_typed.specs.Terminating.{breaks, breaks_any}
use Rattle.go_stmt.proofs.Tests.{or_first, or_second}
use Rattle.go_stmt.proofs.terminating.+leaves.Goals as goal

pub breaks-returns-then-breaks_any : goal.breaks-returns-then-breaks_any
breaks-returns-then-breaks_any t c =
    or_first _ _ c.breaks_any.result _ (ap breaks (ap as_stmt c.in-If.is ∙ if_seen _ _ _)) (c.breaks_any.ensures ∙ ap (λ l. breaks_any (stmts_in l)) c.deref.ensures.value) c.if-breaks_any.true

pub breaks-returns-else-breaks_any : goal.breaks-returns-else-breaks_any
breaks-returns-else-breaks_any t c =
    or_second _ _ c.breaks_any.result _ _ (ap breaks (ap as_stmt c.in-If.is ∙ if_seen _ _ _)) (c.breaks_any.ensures ∙ ap (λ l. breaks_any (stmts_in l)) c.deref.ensures.value) c.if-breaks_any.false
    (c.breaks_any-else-breaks_any.ensures ∙ ap (λ l. breaks_any (stmts_in l)) c.deref-else-breaks_any.ensures.value)

pub breaks-returns-in-Block : goal.breaks-returns-in-Block
breaks-returns-in-Block t c =
    c.breaks_any-in-Block.ensures ∙ ap (λ l. breaks_any (stmts_in l)) c.deref-in-Block.ensures.value ∙ sym (ap breaks (ap as_stmt c.in-Block.is ∙ block_seen _))
