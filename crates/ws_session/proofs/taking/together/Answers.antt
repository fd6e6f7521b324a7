use Rattle.std.proofs.Common.{◌≡◌, ◌<◌, ℕ, List, length, sym, subst, ◌∙◌, arith}
use Rattle.std.specs.Prelude.{Some, vec_len}
use Rattle.std.specs.List.{All, slice_get}
use Rattle.ws_session.specs.Representation.{HoldsWritesOf, HoldsAllOf}
use Rattle.ws_session.proofs.Joining.{within_all, together_stands}
use Rattle.ws_session.proofs.KnownWrites.{known_stands}
use Rattle.ws_session.proofs.taking.together.Goals as goal

pub joined_of-requires-after_bounds : goal.joined_of-requires-after_bounds
joined_of-requires-after_bounds g c κs within =
    subst (λ (tops : List ℕ). All (λ t. t < vec_len c.args.named.now) tops) (sym c.deref.ensures.value)
    (within_all c.len-count.result (vec_len c.args.named.now) c.in_ok-builders.builders.items c.len-count.ensures c.in_ok-builders.ensures.within)

pub with_known_writes-requires : goal.with_known_writes-requires
with_known_writes-requires g c =
    subst (λ (tops : List ℕ). All (λ t. t < vec_len c.args.named.now) tops) (sym c.deref-3.ensures.value)
    (within_all c.len-count.result (vec_len c.args.named.now) c.in_ok-writers.writers.items c.len-count.ensures c.in_ok-writers.ensures.within)

pub joined_of-requires-2-after_bounds : goal.joined_of-requires-2-after_bounds
joined_of-requires-2-after_bounds g c κs within =
    subst (λ (tops : List ℕ). All (λ t. t < vec_len c.args.named.now) tops) (sym c.deref-4.ensures.value)
    (within_all c.len-count.result (vec_len c.args.named.now) c.in_ok-writers.writers.items c.len-count.ensures c.in_ok-writers.ensures.within)

pub returns-in-Some : goal.returns-in-Some
returns-in-Some g c = λ world h counted.
    let builders : List ℕ = c.in_ok-builders.builders.items in
    let writers : List ℕ = c.in_ok-writers.writers.items in
    let known = rw c.in-Some.is at c.in_ok-joined.ensures in
    let at = subst (λ (ks : List ℕ). slice_get ks 0 ≡ Some known.0) c.deref-2.ensures.value known.1 in
    let all = subst (λ (ks : List ℕ). HoldsAllOf c.args.named.now ks c.in_ok-results.results) c.deref.ensures.value c.in_ok-results.ensures in
    let held = subst (λ (ks : List ℕ). HoldsWritesOf c.args.named.now c.args.wrote.now c.in_ok-results.results known.0 ks c.in-Some.joined) c.deref-3.ensures.value known.2 in
    known_stands c.args.named.now c.len-count.result c.args.wrote.now c.args.compiled.now writers builders c.in_ok-results.results c.in-Some.joined known.0 world h (c.len-count.ensures ∙ omega (arith, c.args.named.now.ok.0))
    counted c.in_ok-writers.ensures.tops c.in_ok-builders.ensures.tops at all held

pub returns : goal.returns
returns g c = λ world h counted.
    let many : vec_len c.args.named.now ≡ length c.args.named.now.items = omega (arith, c.args.named.now.ok.0) in
    together_stands world c.args.named.now.items c.len-count.result (vec_len c.args.named.now) c.args.wrote.now c.args.compiled.now c.in_ok-writers.writers.items c.in_ok-builders.builders.items c.deref-4.result.now c.deref.result.now
    c.in_ok-both.both c.in_ok-results.results c.merge_news.new.self h c.len-count.ensures many counted c.in_ok-writers.ensures.tops c.in_ok-builders.ensures.tops c.deref-4.ensures.value c.deref.ensures.value
    c.in_ok-both.ensures c.in_ok-results.ensures c.in_ok-merge_news.ensures.stands
