use Rattle.std.proofs.Common.{ap, sym, ◌∙◌, subst, arith}
use Rattle.ws_session.specs.Representation.{replica_index}
use Rattle.ws_command.specs.ShowPrinting.{show_text}
use Rattle.ws_session.specs.declared.replicas.SessionReplica.{SessionReplica}
use Rattle.ws_replica.specs.Holdings.{ReplicaStandsFor}
use Rattle.ws_session.proofs.Standings.{if_ok_map, one_element}
use Rattle.ws_session.proofs.Showing.{show_unknown, shown}
use Rattle.ws_session.proofs.replicas.show.Goals as goal

pub returns-in_default : goal.returns-in_default
returns-in_default c = if_ok_map c.refused.result (λ told t text world h.
    show_unknown c.args.name.now text world c.args.named.now.items h told.items (ap (replica_index c.args.name.now) (sym c.as_slice.ensures.value) ∙ sym c.in_default.ensures.value) t) c.refused.ensures

pub returns : goal.returns
returns c = if_ok_map c.show_lines.result (λ told t text world h.
    shown c.args.name.now text world c.args.named.now.items h told.items c.in-Some.index (ap (replica_index c.args.name.now) (sym c.as_slice.ensures.value) ∙ sym c.in-Some.ensures.value) c.in_ok-writes.writes.items
    (t ∙ ap (show_text c.args.name.now) c.as_slice-2.ensures.value)
    (λ n W E e g.
    let same = one_element c.args.named.now.items c.in-Some.index n c.index.result.now (omega (arith, c.in-Some.ensures.within, c.args.named.now.ok.0)) e c.index.ensures in
    c.in_ok-writes.ensures W E (subst (λ (m : SessionReplica). ReplicaStandsFor m.replica W E) same g))) c.show_lines.ensures
