use Rattle.std.proofs.Common.{sym, ap, ◌∙◌}
use Rattle.ws_version_vector.proofs.Kept.{news_brought}
use Rattle.ws_session.specs.Representation.{replica_index, writes_in, replica_actions}
use Rattle.ws_session.proofs.Settling.{merge_unknown, merge_other_unknown}
use Rattle.ws_session.proofs.Counted.{brought}
use Rattle.ws_session.proofs.Merging.{merged, merged_itself}
use Rattle.ws_session.proofs.taking.merge.Goals as goal

pub returns-in_default : goal.returns-in_default
returns-in_default c = λ text world h counted.
    merge_unknown c.args.name.now c.args.other.now text world c.args.named.now.items h (ap (replica_index c.args.name.now) (sym c.as_slice.ensures.value) ∙ sym c.in_default.ensures.value)

pub returns-in_default-index_of : goal.returns-in_default-index_of
returns-in_default-index_of c = λ text world h counted.
    merge_other_unknown c.args.name.now c.args.other.now text world c.args.named.now.items h c.in-Some.mine
    (ap (replica_index c.args.name.now) (sym c.as_slice.ensures.value) ∙ sym c.in-Some.ensures.value)
    (ap (replica_index c.args.other.now) (sym c.as_slice-2.ensures.value) ∙ sym c.in_default-index_of.ensures.value)

pub returns-then-mine-theirs : goal.returns-then-mine-theirs
returns-then-mine-theirs c = λ text world h counted.
    merged_itself c.args.name.now c.args.other.now text world c.args.named.now.items h c.in-Some.mine c.in-Some-index_of.theirs
    (ap (replica_index c.args.name.now) (sym c.as_slice.ensures.value) ∙ sym c.in-Some.ensures.value)
    (ap (replica_index c.args.other.now) (sym c.as_slice-2.ensures.value) ∙ sym c.in-Some-index_of.ensures.value) c.if-mine-theirs.true

pub returns : goal.returns
returns c = λ text world h counted.
    let mine = c.in-Some.mine in
    let theirs = c.in-Some-index_of.theirs in
    let writes = counted.writes in
    let actions = counted.actions in
    merged c.args.name.now c.args.other.now text world c.args.named.now.items h mine theirs
    (ap (replica_index c.args.name.now) (sym c.as_slice.ensures.value) ∙ sym c.in-Some.ensures.value)
    (ap (replica_index c.args.other.now) (sym c.as_slice-2.ensures.value) ∙ sym c.in-Some-index_of.ensures.value)
    c.news_of-writes.result c.in_ok-paths.paths c.news_of-results.result c.merge_at.new.named.items
    (brought writes.0 c.args.wrote.now (writes_in world.replicas) mine theirs c.news_of-writes.result c.in_ok-paths.paths writes.1 writes.2 c.news_of-writes.ensures c.in_ok-paths.ensures)
    (news_brought actions.0 c.args.compiled.now (replica_actions world.replicas) mine theirs c.news_of-results.result actions.1 c.news_of-results.ensures)
    c.in_ok-merge_at.ensures
