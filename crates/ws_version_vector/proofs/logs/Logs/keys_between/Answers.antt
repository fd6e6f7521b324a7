use Rattle.std.proofs.Common.{List, ℕ, map, subst}
use Rattle.ws_version_vector.specs.Counts.{count_at}
use Rattle.ws_version_vector.specs.Keyed.{log_at, HasKeys}
use Rattle.ws_version_vector.proofs.Logged.{between_more, between_all}
use Rattle.ws_version_vector.proofs.logs.Logs.keys_between.Goals as goal

pub loop-at-preserved : goal.loop-at-preserved
loop-at-preserved c =
    let logs = c.args.self.now in
    let theirs : List ℕ = c.args.theirs.now in
    let at = c.loop-at.at in
    let new : List (List ℕ) = map (λ k. k.now) c.add_keys.new.keys.items in
    between_more logs c.args.mine.now theirs at (map (λ k. k.now) c.loop-at.keys.items) new c.loop-at.invariant c.in_ok-all.ensures.kept
    (subst (λ from. HasKeys (log_at at logs) from (count_at at theirs) new) c.count-own.ensures (c.in_ok-all.ensures.all c.if-not-all.false))

pub returns : goal.returns
returns c = between_all c.args.self.now c.args.mine.now c.args.theirs.now c.loop-at.at (map (λ k. k.now) c.loop-at.keys.items) c.loop-at-test.false c.loop-at.invariant
