use Rattle.std.proofs.Common.{List, [], refl, sym, subst}
use Rattle.ws_session.specs.declared.replicas.SessionReplica.{SessionReplica}
use Rattle.ws_session.specs.Representation.{AllRepresent, AreCounted, none_written}
use Rattle.ws_session.specs.World.{empty_world}
use Rattle.ws_session.proofs.Counted.{opening_counted}
use Rattle.ws_session.proofs.replicas.Replicas.new.Goals as goal

pub returns : goal.returns
returns c =
    let world = empty_world c.args.edition in
    record {
      stands = record {
        edition = refl;
        replicas = subst (λ (ns : List SessionReplica). AllRepresent ns []) (sym c.new.ensures.items) tt;
        apart = tt;
        kept = subst (λ wrote. AreCounted wrote c.new-3.result world) (sym c.new-2.ensures)
            (subst (λ compiled. AreCounted none_written compiled world) (sym c.new-3.ensures) (opening_counted c.args.edition));
      };
    }
