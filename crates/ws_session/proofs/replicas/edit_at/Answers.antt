use Rattle.std.proofs.Common.{◌+◌, ◌++◌, ◌∷◌, [], List, ℕ, Some, subst, refl, arith}
use Rattle.ws_register.specs.Sources.{top}
use Rattle.ws_replica.specs.Holdings.{ReplicaStandsFor}
use Rattle.ws_session.specs.declared.replicas.SessionReplica.{SessionReplica}
use Rattle.ws_session.specs.Representation.{Edited}
use Rattle.ws_session.proofs.Standings.{changed_one}
use Rattle.ws_session.proofs.replicas.edit_at.Goals as goal

pub returns-in-Ok : goal.returns-in-Ok
returns-in-Ok c =
    let old : SessionReplica = c.index_mut-one.result.now in
    let new : SessionReplica = record { name = old.name; number = old.number; replica = c.edit.new.self } in
    changed_one (Edited c.args.path.now c.args.source.text) c.args.named.now.items c.args.index old new (omega (arith, c.requires, c.args.named.now.ok.0)) c.index_mut-one.ensures.value
    (record {
      name = refl;
      number = refl;
      holds = λ W E h. subst (λ (p : List ℕ). ReplicaStandsFor c.edit.new.self (W ++ (p, record { counter = top W + 1; number = old.number; text = Some c.args.source.text }) ∷ []) E) c.in_ok-path.ensures.ok (c.in-Ok.ensures.stands W E h);
    })
