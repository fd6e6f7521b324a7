use Rattle.std.proofs.Common.{◌≡◌, ◌∙◌, Some, ap, sym}
use Rattle.go_code.specs.Packages.{Object}
use Rattle.go_export.specs.Summaries.{Summary}
use Rattle.ws_action.specs.Actions.{Action, action_id}
use Rattle.ws_cache.specs.Compiles.{Compiled, Good, Faulty, compiled_of}
use Rattle.ws_board.specs.declared.table.Row.{Row}
use Rattle.ws_board.specs.Machine.{action_at}
use Rattle.ws_board.specs.Propagation.{held_by}
use Rattle.ws_board.specs.Table.{job_states_of}
use Rattle.ws_board.proofs.Gathered.{faulty_none}
use Rattle.ws_board.proofs.Standing.{action_row}
use Rattle.ws_board.proofs.Standby.{past_has}
use Rattle.ws_board.proofs.propagation.summary_held.Goals as goal

not_good : (r : Compiled) (s : Summary) (o : Object) (f : _) → r ≡ Faulty f → r ≡ Good s o → ⊥
not_good r s o f e g = let c : Faulty f ≡ Good s o = sym e ∙ g in cc

pub returns-in_default-clause-none : goal.returns-in_default-clause-none
returns-in_default-clause-none c = past_has (held_by c.args.holds) c.args.rows.now.rows c.args.k c.in_default.ensures.none

pub returns-in-Faulty-clause-none : goal.returns-in-Faulty-clause-none
returns-in-Faulty-clause-none c =
    let h = held_by c.args.holds in
    let R = c.args.rows.now.rows in
    let a : Action = c.in_ok-action.action.now in
    let entry : Action = c.in_ok-entry.entry.now in
    let own : c.in-Some.found.row.now.action ≡ Some a = sym c.in_ok-action.ensures.value in
    let its : action_at (job_states_of R).actions c.args.k ≡ Some a = action_row R c.args.k ∙ ap (λ (r : Row). r.action) (sym c.in-Some.ensures.row.0) ∙ own in
    let is : h (action_id a) ≡ Some entry = sym (c.in_ok-entry.ensures ∙ ap h c.id.ensures) in
    let result : Compiled = compiled_of c.outcome.result.now in
    faulty_none h (job_states_of R) c.args.k a entry result its is c.outcome.ensures (λ s o g. not_good result s o c.in-Faulty.field-0 (ap compiled_of c.in-Faulty.is) g)
