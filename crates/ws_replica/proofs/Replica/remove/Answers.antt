use Rattle.std.specs.Prelude.{string_bytes}
use Rattle.std.proofs.Common.{sym, subst}
use Rattle.ws_replica.specs.Holdings.{Replica, ReplicaStandsFor}
use Rattle.ws_replica.proofs.Removals.{refused-taken, allowed-taken}
use Rattle.ws_replica.proofs.Replica.remove.Goals as goal

pub returns-clause-refused : goal.returns-clause-refused
returns-clause-refused c writes actions stands =
    let inside = subst (λ (r : Replica). ReplicaStandsFor r writes actions) (sym c.self.view_is) stands in
    refused-taken c.self.inside.registers writes (string_bytes c.args.path) inside.registers c.remove.result c.remove.ensures.refused

pub returns-clause-allowed : goal.returns-clause-allowed
returns-clause-allowed c writes actions stands =
    let inside = subst (λ (r : Replica). ReplicaStandsFor r writes actions) (sym c.self.view_is) stands in
    allowed-taken c.self.inside.registers writes (string_bytes c.args.path) inside.registers c.remove.result c.remove.ensures.allowed
