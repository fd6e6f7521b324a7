use Rattle.std.proofs.Common.{List, ℕ, subst}
use Rattle.std.specs.Prelude.{IfOk, IfSome}
use Rattle.ws_version_vector.specs.Counts.{counts_at}
use Rattle.ws_version_vector.specs.Keyed.{AreKeysBetween}
use Rattle.ws_session.proofs.clock.WriteClock.paths_of.Goals as goal

pub returns-in-Something : goal.returns-in-Something
returns-in-Something c =
    let logs = c.args.self.now.logs in
    let mine : List ℕ = counts_at c.args.mine c.args.self.now.counts in
    subst (λ (d : List ℕ). IfOk c.paths_between.result (λ paths. IfSome paths (λ paths. AreKeysBetween logs mine d paths.items))) c.at-in-Something.ensures
    (subst (λ (m : List ℕ). IfOk c.paths_between.result (λ paths. IfSome paths (λ paths. AreKeysBetween logs m c.at-in-Something.result.now paths.items))) c.at.ensures c.paths_between.ensures)
