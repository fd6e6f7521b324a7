use Rattle.std.proofs.Common.{◌++◌, ◌∷◌, [], subst, refl, arith}
use Rattle.ws_version.specs.Writes.{Write}
use Rattle.ws_replica.specs.Holdings.{ReplicaStandsFor}
use Rattle.ws_session.specs.declared.replicas.SessionReplica.{SessionReplica}
use Rattle.ws_session.specs.Representation.{Applied}
use Rattle.ws_session.proofs.Standings.{changed_one, on_ok_map}
use Rattle.ws_session.proofs.replicas.apply_at.Goals as goal

pub returns : goal.returns
returns c =
    let old : SessionReplica = c.index_mut-one.result.now in
    let new : SessionReplica = record { name = old.name; number = old.number; replica = c.apply.new.self } in
    on_ok_map c.apply.result (λ stands.
    changed_one (Applied (c.args.path, c.args.held)) c.args.named.now.items c.args.index old new (omega (arith, c.requires, c.args.named.now.ok.0)) c.index_mut-one.ensures.value
    (record {
      name = refl;
      number = refl;
      holds = λ W E h. subst (λ (w : Write). ReplicaStandsFor c.apply.new.self (W ++ w ∷ []) E) c.new.ensures (stands W E h);
    })) c.apply.ensures.stands
