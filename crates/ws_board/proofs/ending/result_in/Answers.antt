use Rattle.std.proofs.Common.{◌≡◌, ◌∙◌, sym, ap, Some, None, option_copied}
use Rattle.ws_action.specs.Actions.{Action as AnAction, action_id}
use Rattle.ws_board.specs.declared.work.JobStatus.TheVariants.{Done}
use Rattle.ws_board.specs.Work.{Seen}
use Rattle.ws_board.specs.Machine.{status_at, action_at, held}
use Rattle.ws_board.specs.Propagation.{held_with}
use Rattle.ws_board.specs.Calls.{result_of}
use Rattle.ws_board.specs.Rows.{seen_of}
use Rattle.ws_board.specs.Table.{job_states_of}
use Rattle.ws_board.proofs.Histories.{held_still}
use Rattle.ws_board.proofs.ending.result_in.Goals as goal

pub returns-in_ok-entry-in-Done-clause-some : goal.returns-in_ok-entry-in-Done-clause-some
returns-in_ok-entry-in-Done-clause-some c =
    let p = c.args.parts.now in
    let seen : Seen = seen_of p in
    let k = c.args.job in
    let at = held seen.opening seen.state in
    let entry : AnAction = c.in_ok-entry-in-Done.entry.now in
    let action : AnAction = c.in_ok-action-in-Done.action.now in
    let rows : c.deref.result.now ≡ p.rows.items = c.deref.ensures.value in
    let again : c.deref-in-Done.result.now ≡ p.rows.items = c.deref-in-Done.ensures.value in
    let stands : status_at seen.state.standings.statuses k ≡ Done c.in-Done.field-0 = ap (λ rs. status_at (job_states_of rs).statuses k) (sym rows) ∙ sym c.status_in.ensures ∙ c.in-Done.is in
    let acts : action_at seen.state.standings.actions k ≡ Some action = ap (λ rs. action_at (job_states_of rs).actions k) (sym again) ∙ sym c.action_in.ensures ∙ ap option_copied c.in_ok-action-in-Done.was in
    let found : held_with p.opened p.added None c.id.result ≡ Some entry = sym c.held.ensures ∙ ap option_copied c.in_ok-entry-in-Done.was in
    let there : at (action_id action) ≡ Some entry = sym (ap (λ h. h (action_id action)) (held_still p.opened p.added)) ∙ ap (held_with p.opened p.added None) (sym c.id.ensures) ∙ found in (
      entry,
      ap (λ s. result_of at s (action_at seen.state.standings.actions k)) stands ∙ ap (result_of at (Done c.in-Done.field-0)) acts ∙ there,
      c.outcome.ensures,
    )
