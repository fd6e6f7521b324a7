use Rattle.ws_action.specs.Actions.{action_id}
use Rattle.ws_board.specs.Work.{Opening, BoardState}
use Rattle.ws_board.specs.Table.{job_states_of}
use Rattle.ws_board.proofs.Alone.{history_alone}
use Rattle.ws_board.proofs.Taking.{runs_by}
use Rattle.ws_board.proofs.Board.runs.Goals as goal

pub returns-clause-is : goal.returns-clause-is
returns-clause-is c =
    let b = c.self.inside in
    let by = runs_by b.rows.rows b.index c.self.invariant.3 c.args.hand.now c.args.task.now.job (action_id c.args.task.now.action) in
    rw (← c.self.view_is) ((λ t. by.0 (c.runs.ensures.0 t)), (λ r. c.runs.ensures.1 (by.1 r)))

pub returns-clause-alone : goal.returns-clause-alone
returns-clause-alone c =
    let b = c.self.inside in
    let opening : Opening = record { jobs = b.rows.jobs.items; cache = b.opened } in
    let now : BoardState = record { standings = job_states_of b.rows.rows; added = b.added } in
    rw (← c.self.view_is) (history_alone opening b.history.items now c.self.invariant.0)
