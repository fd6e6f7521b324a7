use Rattle.std.proofs.Common.{sym, ap, subst, ◌∙◌}
use Rattle.std.specs.Arc.{arc_value}
use Rattle.std.specs.FinMap as map
use Rattle.ws_register.specs.Nodes.{all_nodes, listed_writes}
use Rattle.ws_register.specs.Pages.{contents, Ascends}
use Rattle.ws_register.proofs.Contents.{contents-put, put-ascends}
use Rattle.ws_register.proofs.Shared.{either}
use Rattle.ws_register.proofs.Walks.{ok_then}
use Rattle.ws_register.proofs.pages.Pages.put.Goals as goal

pub invariant_of-self : goal.invariant_of-self
invariant_of-self c =
    let old = all_nodes (arc_value c.in-Some.nodes).items in
    let new = all_nodes (arc_value c.put_shared.new.nodes).items in
    let ascends : Ascends old = subst (λ s. Ascends (listed_writes s)) c.in-Some.is c.self.invariant in
    either c.put_shared.result
    (λ is. put-ascends old new c.args.write.0 c.args.write.1 ascends is)
    (λ same. subst Ascends (sym same) ascends)
    c.put_shared.ensures.ok c.put_shared.ensures.err

pub returns-in-Some-clause-ok : goal.returns-in-Some-clause-ok
returns-in-Some-clause-ok c =
    let old = all_nodes (arc_value c.in-Some.nodes).items in
    let new = all_nodes (arc_value c.put_shared.new.nodes).items in
    let ascends : Ascends old = subst (λ s. Ascends (listed_writes s)) c.in-Some.is c.self.invariant in
    ok_then c.put_shared.result (λ is.
    contents-put old new c.args.write.0 c.args.write.1 ascends is
    ∙ ap (λ m. map.insert m c.args.write.0 c.args.write.1) (ap (λ s. contents (listed_writes s)) (sym c.in-Some.is) ∙ c.self.view_is))
    c.put_shared.ensures.ok
