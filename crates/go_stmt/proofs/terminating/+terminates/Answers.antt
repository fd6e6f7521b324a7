use Rattle.std.proofs.Common.{◌&&◌, not, is_some, ap, sym, ◌∙◌}
use Rattle.std.specs.Option.{option_map}
use Rattle.go_typed.specs.Views.{as_expr, as_stmt, stmts_in, clauses_in}
use Rattle.go_typed.proofs.StatementRows.{if_seen, for_seen, switch_seen, block_seen}
use Rattle.go_typed.specs.Terminating.{breaks_any, breaks_clause, has_default, terminates, list_terminates, clauses_terminate}
use Rattle.go_stmt.proofs.Tests.{and_first, and_second, last_terminates}
use Rattle.go_stmt.proofs.terminating.+terminates.Goals as goal

pub list_terminates-returns-in-len1-up : goal.list_terminates-returns-in-len1-up
list_terminates-returns-in-len1-up t c = c.terminates.ensures ∙ last_terminates c.args.statements.now c.last-item.result c.in-len1-up.len_at_least c.last-item.is

pub terminates-returns-in-Block : goal.terminates-returns-in-Block
terminates-returns-in-Block t c =
    c.list_terminates.ensures ∙ ap (λ l. list_terminates (stmts_in l)) c.deref.ensures.value ∙ sym (ap terminates (ap as_stmt c.in-Block.is ∙ block_seen _))

pub terminates-returns-then-list_terminates : goal.terminates-returns-then-list_terminates
terminates-returns-then-list_terminates t c =
    and_second _ _ c.list_terminates-in-If.result _ _ (ap terminates (ap as_stmt c.in-If.is ∙ if_seen _ _ _))
    (c.list_terminates-in-If.ensures ∙ ap (λ l. list_terminates (stmts_in l)) c.deref-in-If.ensures.value) c.if-list_terminates.true
    (c.list_terminates-then-list_terminates.ensures ∙ ap (λ l. list_terminates (stmts_in l)) c.deref-then-list_terminates.ensures.value)

pub terminates-returns-else-list_terminates : goal.terminates-returns-else-list_terminates
terminates-returns-else-list_terminates t c =
    and_first _ _ c.list_terminates-in-If.result _ (ap terminates (ap as_stmt c.in-If.is ∙ if_seen _ _ _))
    (c.list_terminates-in-If.ensures ∙ ap (λ l. list_terminates (stmts_in l)) c.deref-in-If.ensures.value) c.if-list_terminates.false

pub terminates-returns-in-For : goal.terminates-returns-in-For
terminates-returns-in-For t c =
    let loop = c.in-For in
    c.runs_on.ensures ∙ ap (λ l. not (is_some (option_map as_expr loop.condition)) && not (breaks_any (stmts_in l))) c.deref-in-For.ensures.value
    ∙ sym (ap terminates (ap as_stmt loop.is ∙ for_seen loop.condition loop.field-1 loop.statements))

pub terminates-returns-then-leads_through : goal.terminates-returns-then-leads_through
terminates-returns-then-leads_through t c =
    and_second _ _ c.leads_through.result _ _ (ap terminates (ap as_stmt c.in-Switch.is ∙ switch_seen _ _))
    (c.leads_through.ensures ∙ ap (λ l. has_default (clauses_in l) && not (breaks_clause (clauses_in l))) c.deref-in-Switch.ensures.value) c.if-leads_through.true
    (c.clauses_terminate.ensures ∙ ap (λ l. clauses_terminate (clauses_in l)) c.deref-then-leads_through.ensures.value)

pub terminates-returns-else-leads_through : goal.terminates-returns-else-leads_through
terminates-returns-else-leads_through t c =
    and_first _ _ c.leads_through.result _ (ap terminates (ap as_stmt c.in-Switch.is ∙ switch_seen _ _))
    (c.leads_through.ensures ∙ ap (λ l. has_default (clauses_in l) && not (breaks_clause (clauses_in l))) c.deref-in-Switch.ensures.value) c.if-leads_through.false
