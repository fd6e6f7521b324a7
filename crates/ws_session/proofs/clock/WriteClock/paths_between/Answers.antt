use Rattle.std.proofs.Common.{List, ℕ, map, ap}
use Rattle.std.specs.Borrow.{Bor}
use Rattle.ws_version_vector.specs.Keyed.{AreKeysBetween}
use Rattle.ws_session.proofs.Paths.{known_between}
use Rattle.ws_session.proofs.clock.WriteClock.paths_between.Goals as goal

pub returns : goal.returns
returns c =
    let logs = c.args.self.now.logs in
    let keys : List (List ℕ) = map (λ key. key.now) c.in-Some.keys.items in
    let between : AreKeysBetween logs c.args.mine.now c.args.theirs.now keys = rw c.in-Some.is at c.in_ok-keys.ensures in
    known_between logs c.args.mine.now c.args.theirs.now keys (map (λ key. key.now) c.as_slice.result.now) c.paths_at.result between (ap (λ (bs : List (Bor (List ℕ))). map (λ key. key.now) bs) c.as_slice.ensures.value) c.paths_at.ensures
