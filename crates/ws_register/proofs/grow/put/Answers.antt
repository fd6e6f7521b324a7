use Rattle.std.proofs.Common.{sym, ap, subst, ◌∙◌, ◌+◌, take, drop}
use Rattle.std.specs.FinMap.{put}
use Rattle.ws_version.specs.Writes.{path_cmp}
use Rattle.ws_register.specs.Nodes.{all_nodes}
use Rattle.ws_register.specs.Pages.{Ascends, AllPathsBelow, AllAbove}
use Rattle.ws_register.proofs.Shared.{err_then}
use Rattle.ws_register.proofs.Walks.{ok_then}
use Rattle.ws_register.proofs.grow.put.Goals as goal

pub put_at-requires-clause-ascends : goal.put_at-requires-clause-ascends
put_at-requires-clause-ascends c = subst Ascends (sym c.with_room.ensures.same) c.requires

pub put_at-requires-clause-below : goal.put_at-requires-clause-below
put_at-requires-clause-below c = subst (AllPathsBelow (all_nodes (take c.in_ok-at.at c.with_room.new.nodes.items))) c.path.ensures c.in_ok-at.ensures.below

pub put_at-requires-clause-above : goal.put_at-requires-clause-above
put_at-requires-clause-above c = subst (AllAbove (all_nodes (drop (c.in_ok-at.at + 1) c.with_room.new.nodes.items))) c.path.ensures c.in_ok-at.ensures.above

pub returns-clause-ok : goal.returns-clause-ok
returns-clause-ok c =
    ok_then c.put_at.result (λ is. is ∙ ap (put path_cmp c.args.write.0 c.args.write.1) c.with_room.ensures.same) c.put_at.ensures.ok

pub returns-clause-err : goal.returns-clause-err
returns-clause-err c = err_then c.put_at.result (λ same. same ∙ c.with_room.ensures.same) c.put_at.ensures.err
