use Rattle.std.proofs.Common.{◌≡◌, ◌<◌, length, arith, subst}
use Rattle.ws_replica.specs.Holdings.{ReplicaStandsFor}
use Rattle.ws_session.specs.declared.replicas.SessionReplica.{SessionReplica}
use Rattle.ws_session.proofs.Standings.{one_element, if_ok_map}
use Rattle.ws_session.proofs.replicas.ids_at.Goals as goal

pub returns-clause-ok : goal.returns-clause-ok
returns-clause-ok g c = if_ok_map c.ids.result (λ lines are n W E e h sized.
    let inside : c.args.index < length c.args.named.now.items = omega (arith, c.requires, c.args.named.now.ok.0) in
    let same : n ≡ c.index.result.now = one_element c.args.named.now.items c.args.index n c.index.result.now inside e c.index.ensures in
    are W E (subst (λ (m : SessionReplica). ReplicaStandsFor m.replica W E) same h) sized) c.ids.ensures.ok
