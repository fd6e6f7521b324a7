use Rattle.std.proofs.Common.{ap, subst, ◌∙◌}
use Rattle.ws_session.specs.Representation.{replica_index, IsWriteCounted}
use Rattle.ws_session.proofs.counting.apply_counted.Goals as goal

pub returns-clause-counted : goal.returns-clause-counted
returns-clause-counted c =
    subst (λ o. IsWriteCounted c.in_ok-refusal.refusal o c.args.word.now c.args.wrote.now c.count_write.new.wrote) (c.index_of-at.ensures.value ∙ ap (replica_index c.args.name.now) c.as_slice.ensures.value) c.in_ok-count_write.ensures
