use Rattle.std.proofs.Common.{◌<◌, List, ℕ, length, get_or, sym, subst, arith}
use Rattle.ws_version_vector.specs.Counts.{counts_at, IsMost}
use Rattle.ws_version_vector.specs.Keyed.{AreKeysBetween}
use Rattle.ws_register.specs.News.{HasNewsAt}
use Rattle.ws_session.proofs.KnownWrites.{begun, more, whole}
use Rattle.ws_session.proofs.taking.with_writes.Goals as goal

pub loop-writer-init : goal.loop-writer-init
loop-writer-init c =
    begun c.args.named.now c.args.wrote.now c.args.results.now c.args.first c.args.writers.now c.in_ok-joined.joined c.merge.new.self c.in_ok-joined.ensures
    (subst (λ (m : List ℕ). IsMost m (counts_at c.args.first c.args.wrote.now.counts) c.merge.new.self) c.new-taken.ensures
    (subst (λ (d : List ℕ). IsMost c.new-taken.result d c.merge.new.self) c.at.ensures c.in_ok-merge.ensures))

pub loop-writer-preserved : goal.loop-writer-preserved
loop-writer-preserved c =
    let writers : List ℕ = c.args.writers.now in
    let i : ℕ = c.loop-writer.writer-index in
    let t : ℕ = get_or writers i 0 in
    let inside : t < length c.args.named.now.items = let lt = c.requires i 0 c.loop-writer-test.true in omega (arith, lt, c.args.named.now.ok.0) in
    more c.args.named.now c.args.wrote.now c.args.results.now c.args.first writers i c.loop-writer.joined c.merge_at.new.self c.loop-writer.taken c.merge-in-loop-writer.new.self c.at-theirs.result.now c.in-Some.paths.items c.index.result.now
    c.loop-writer.invariant c.loop-writer-test.true inside c.index.ensures c.at-theirs.ensures
    (subst (λ (m : List ℕ). AreKeysBetween c.args.wrote.now.logs m c.at-theirs.result.now c.in-Some.paths.items) c.counts.ensures (rw c.in-Some.is at c.in_ok-paths.ensures))
    c.in_ok-merge-2.ensures
    (λ V W E F news part old other. c.in_ok-merge_at.ensures.stands V W E F (subst (λ (ps : List (List ℕ)). HasNewsAt ps V W) (sym c.as_slice.ensures.value) news) part old other)

pub returns : goal.returns
returns c =
    whole c.args.named.now c.args.wrote.now c.args.results.now c.args.first c.args.writers.now c.loop-writer.writer-index c.loop-writer.joined c.loop-writer.taken c.loop-writer.invariant (omega (arith, c.loop-writer-test.false))
