use Rattle.std.proofs.Common.{ap, sym, ◌∙◌, refl}
use Rattle.ws_map.specs.Greater.{greater}
use Rattle.ws_map.specs.Kept.{gathered, is_news}
use Rattle.ws_map.specs.Keyed.{keyed, by_key}
use Rattle.ws_map.proofs.Gathered.{taken_old}
use Rattle.ws_map.proofs.Keyed.{bytes_cmp_total, bytes_cmp-IsAntisymmetric, found}
use Rattle.ws_map.proofs.are_passed.Goals as goal

pub loop-key-preserved : goal.loop-key-preserved
loop-key-preserved g c =
    let rank = g.V.Ranked.rank in
    let bytes = g.K.Key.bytes in
    let map = by_key bytes c.args.others.now.entries in
    let at = bytes c.in-Some.key.now in
    let stands = c.in-Some-next_at.ensures.found in
    let held = found g.K.Ord.cmp bytes g.met.K.Key.ordered c.args.others.now.entries at c.in-Some-next_at.old.now c.iter-rest.ensures.ordered
    (stands.0, stands.1, c.loop-key.invariant.left _ stands.2) in
    record {
      seen =
          ap (λ m. gathered (greater rank) m (keyed bytes c.next.new.self))
          (taken_old bytes_cmp_total bytes_cmp-IsAntisymmetric rank map at at c.in-Some.value.now c.in-Some.value.now c.is_below.result refl refl
          (c.is_below.ensures ∙ sym (ap (λ o. is_news rank o c.in-Some.value.now) held)) c.if-is_below.false)
          ∙ sym (ap (gathered (greater rank) map) (ap (keyed bytes) c.in-Some.ensures.steps))
          ∙ c.loop-key.invariant.seen;
      left = λ e in_rest. c.loop-key.invariant.left e (c.next_at.ensures.left e in_rest);
    }
