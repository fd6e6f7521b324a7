use Rattle.std.proofs.Common.{sym, ap, subst, ◌∙◌}
use Rattle.std.specs.Arc.{arc_value}
use Rattle.std.specs.Result.{is_ok}
use Rattle.std.specs.FinMap.{put}
use Rattle.ws_version.specs.Writes.{path_cmp}
use Rattle.ws_register.specs.Nodes.{writes_below, all_nodes}
use Rattle.ws_register.specs.Pages.{Ascends}
use Rattle.ws_register.proofs.Shared.{same_writes, when_err, on_err, err_then}
use Rattle.ws_register.proofs.Walks.{ok_then}
use Rattle.ws_register.proofs.pages.put_shared.Goals as goal

pub returns-in_err-make_mut-clause-err : goal.returns-in_err-make_mut-clause-err
returns-in_err-make_mut-clause-err c =
    on_err c.from_residual.result
    (same_writes writes_below (arc_value c.args.nodes.now) (arc_value c.make_mut.follows.lender-at-none) (when_err c.make_mut.result _ c.in_err-make_mut.was c.make_mut.follows.holds-at-none))

pub put-requires : goal.put-requires
put-requires c = subst Ascends (sym (same_writes writes_below (arc_value c.args.nodes.now) c.in_ok-make_mut.field-0.now c.in_ok-make_mut.ensures.value)) c.requires

pub returns-clause-ok : goal.returns-clause-ok
returns-clause-ok c =
    ok_then c.put.result (λ is.
    ap (λ v. all_nodes v.items) (c.make_mut.follows.holds c.put.new.nodes (ap is_ok c.in_ok-make_mut.was))
    ∙ is
    ∙ ap (put path_cmp c.args.write.0 c.args.write.1) (same_writes writes_below (arc_value c.args.nodes.now) c.in_ok-make_mut.field-0.now c.in_ok-make_mut.ensures.value))
    c.put.ensures.ok

pub returns-clause-err : goal.returns-clause-err
returns-clause-err c =
    err_then c.put.result (λ same.
    ap (λ v. all_nodes v.items) (c.make_mut.follows.holds c.put.new.nodes (ap is_ok c.in_ok-make_mut.was))
    ∙ same
    ∙ same_writes writes_below (arc_value c.args.nodes.now) c.in_ok-make_mut.field-0.now c.in_ok-make_mut.ensures.value)
    c.put.ensures.err
