use Rattle.std.proofs.Common.{sym, subst}
use Rattle.ws_replica.specs.Holdings.{Replica, ReplicaStandsFor}
use Rattle.ws_replica.proofs.Replica.see_files.Goals as goal

pub returns : goal.returns
returns c writes actions stands =
    let inside = subst (λ (r : Replica). ReplicaStandsFor r writes actions) (sym c.self.view_is) stands in
    c.see_files.ensures writes inside.registers
