use Rattle.std.proofs.Common.{[], inl}
use Rattle.go_text.specs.declared.edition.Edition.TheVariants.{One}
use Rattle.ws_session.specs.World.{empty_world}
use Rattle.goset_cli.proofs.Growth.{grows_not}
use Rattle.goset_cli.proofs.Journals.{nothing_left, resumed, resumed_fits, resumed_some}
use Rattle.goset_cli.proofs.Refused.{on_refusal}
use Rattle.goset_cli.proofs.keeping.resume.Goals as goal

pub returns-in_err-answer-clause-err : goal.returns-in_err-answer-clause-err
returns-in_err-answer-clause-err g c = λ clear. on_refusal c.from_residual.result (inl (grows_not _))

pub returns-in_err-answer-2-clause-err : goal.returns-in_err-answer-2-clause-err
returns-in_err-answer-2-clause-err g c = λ clear.
    let before = c.in_ok-answer.ensures.ok One [] (empty_world One) (nothing_left One) c.new-replicas.ensures.stands clear.before in
    on_refusal c.from_residual-in_err-answer-2.result
    (resumed_some _ _ _ _ _ _ _ _ _ before (c.in_err-answer-2.ensures.err One c.args.kept.now before.last before.leaves before.stand (clear.behind before.last before.leaves)))

pub returns-clause-ok : goal.returns-clause-ok
returns-clause-ok g c = λ clear.
    let before = c.in_ok-answer.ensures.ok One [] (empty_world One) (nothing_left One) c.new-replicas.ensures.stands clear.before in
    resumed _ _ _ _ _ _ _ _ _ _ _ c.new-journal.ensures before (c.in_ok-answer-2.ensures.ok One c.args.kept.now before.last before.leaves before.stand (clear.behind before.last before.leaves))

pub returns-clause-fits : goal.returns-clause-fits
returns-clause-fits g c = λ clear.
    let before = c.in_ok-answer.ensures.ok One [] (empty_world One) (nothing_left One) c.new-replicas.ensures.stands clear.before in
    resumed_fits _ _ _ _ _ _ _ _ _ _ _ c.new-journal.ensures before (c.in_ok-answer-2.ensures.ok One c.args.kept.now before.last before.leaves before.stand (clear.behind before.last before.leaves))
