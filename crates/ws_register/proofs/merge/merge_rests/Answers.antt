use Rattle.std.proofs.Common.{◌++◌, sym, ap, ◌∙◌}
use Rattle.ws_register.proofs.Walks.{take-rests, ok_then}
use Rattle.ws_register.proofs.merge.merge_rests.Goals as goal

pub returns : goal.returns
returns c =
    let step = c.in_ok-take_step.ensures in
    let mine = c.take_step.new.mine in
    let theirs = c.take_step.new.theirs in
    ok_then c.take_all-2.result (λ all.
    all ∙ ap (λ l. l ++ theirs) c.in_ok-take_all.ensures
    ∙ sym (take-rests c.take_step.new.draft mine theirs (step.done c.if-branch.false) step.mine step.theirs)
    ∙ step.joined ∙ c.steps.invariant.0)
    c.take_all-2.ensures
