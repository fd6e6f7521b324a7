use Rattle.std.proofs.Common.{ap, subst, ◌∙◌}
use Rattle.ws_session.specs.Representation.{replica_index, IsMergeCounted}
use Rattle.ws_session.proofs.counting.merge_counted.Goals as goal

pub returns-clause-wrote : goal.returns-clause-wrote
returns-clause-wrote c =
    let refusal = c.in_ok-refusal.refusal in
    subst (λ o. IsMergeCounted refusal o (replica_index c.args.other.now c.args.named.now.items) c.args.wrote.now.counts c.count_merge.new.vectors) (c.index_of-mine.ensures.value ∙ ap (replica_index c.args.name.now) c.as_slice.ensures.value)
    (subst (λ o. IsMergeCounted refusal c.index_of-mine.result o c.args.wrote.now.counts c.count_merge.new.vectors) (c.index_of-theirs.ensures.value ∙ ap (replica_index c.args.other.now) c.as_slice-2.ensures.value) c.in_ok-count_merge.ensures)

pub returns-clause-compiled : goal.returns-clause-compiled
returns-clause-compiled c =
    let refusal = c.in_ok-refusal.refusal in
    subst (λ o. IsMergeCounted refusal o (replica_index c.args.other.now c.args.named.now.items) c.args.compiled.now c.count_merge-2.new.vectors) (c.index_of-mine.ensures.value ∙ ap (replica_index c.args.name.now) c.as_slice.ensures.value)
    (subst (λ o. IsMergeCounted refusal c.index_of-mine.result o c.args.compiled.now c.count_merge-2.new.vectors) (c.index_of-theirs.ensures.value ∙ ap (replica_index c.args.other.now) c.as_slice-2.ensures.value) c.in_ok-count_merge-2.ensures)
