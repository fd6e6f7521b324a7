use Rattle.std.proofs.Common.{◌++◌, sym, subst}
use Rattle.std.specs.FinMap.{FinMap}
use Rattle.ws_action.specs.Actions.{Action}
use Rattle.ws_cache.specs.Held.{id_cmp, CacheStandsFor}
use Rattle.ws_version_vector.specs.Taken.{Brings}
use Rattle.ws_replica.proofs.Membership.{same_actions, more_known, all_known}
use Rattle.ws_replica.proofs.sharing.merge_cache.Goals as goal

pub returns-in-Nothing-clause-stands : goal.returns-in-Nothing-clause-stands
returns-in-Nothing-clause-stands c = λ E F brings mine theirs.
    let within = subst (λ n. Brings n E F) c.in-Nothing.is brings in
    same_actions c.args.mine.now E (E ++ F) (more_known E F within) mine

pub returns-in_ok-mine-in-Everything-clause-stands : goal.returns-in_ok-mine-in-Everything-clause-stands
returns-in_ok-mine-in-Everything-clause-stands c = λ E F brings mine theirs.
    let within = subst (λ n. Brings n E F) c.in-Everything.is brings in
    subst (λ (m : FinMap id_cmp Action). CacheStandsFor m (E ++ F)) (sym c.in_ok-mine-in-Everything.ensures) (same_actions c.args.theirs.now F (E ++ F) (all_known E F within) theirs)
