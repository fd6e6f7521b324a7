use Rattle.std.proofs.Common.{ap, sym, ◌∙◌, refl}
use Rattle.ws_map.specs.Greater.{greater}
use Rattle.ws_map.specs.Kept.{gathered, is_news}
use Rattle.ws_map.specs.Keyed.{keyed, by_key}
use Rattle.ws_map.proofs.Gathered.{taken_news, taken_old}
use Rattle.ws_map.proofs.Keyed.{bytes_cmp_total, bytes_cmp-IsAntisymmetric, get-at_key}
use Rattle.ws_map.proofs.take_entries.Goals as goal

pub loop-key-preserved-in-Continue-1 : goal.loop-key-preserved-in-Continue-1
loop-key-preserved-in-Continue-1 g c =
    let rank = g.V.Ranked.rank in
    let bytes = g.K.Key.bytes in
    let map = by_key bytes c.loop-key.mine.entries in
    let at = bytes c.in-Some.key.now in
    let held = c.get.ensures.value ∙ sym (get-at_key g.K.Ord.cmp bytes g.met.K.Key.ordered c.loop-key.mine.entries c.in-Some.key.now) in
    record {
      taken =
          ap (λ m. gathered (greater rank) m (keyed bytes c.next.new.self))
          (taken_news bytes_cmp_total bytes_cmp-IsAntisymmetric rank map (by_key bytes c.put_copy.new.mine.entries)
          at at at c.in-Some.value.now c.in-Some.value.now c.in-Some.value.now c.is_above.result refl refl refl refl
          (c.is_above.ensures ∙ ap (λ o. is_news rank o c.in-Some.value.now) held) c.if-is_above.true c.in_ok-put_copy.ensures.ok)
          ∙ sym (ap (gathered (greater rank) map) (ap (keyed bytes) c.in-Some.ensures.steps))
          ∙ c.loop-key.invariant.taken;
      undone = c.in_ok-put_copy.ensures.undone ∙ c.loop-key.invariant.undone;
    }

pub loop-key-preserved : goal.loop-key-preserved
loop-key-preserved g c =
    let rank = g.V.Ranked.rank in
    let bytes = g.K.Key.bytes in
    let map = by_key bytes c.loop-key.mine.entries in
    let at = bytes c.in-Some.key.now in
    let held = c.get.ensures.value ∙ sym (get-at_key g.K.Ord.cmp bytes g.met.K.Key.ordered c.loop-key.mine.entries c.in-Some.key.now) in
    record {
      taken =
          ap (λ m. gathered (greater rank) m (keyed bytes c.next.new.self))
          (taken_old bytes_cmp_total bytes_cmp-IsAntisymmetric rank map at at c.in-Some.value.now c.in-Some.value.now c.is_above.result refl refl
          (c.is_above.ensures ∙ ap (λ o. is_news rank o c.in-Some.value.now) held) c.if-is_above.false)
          ∙ sym (ap (gathered (greater rank) map) (ap (keyed bytes) c.in-Some.ensures.steps))
          ∙ c.loop-key.invariant.taken;
      undone = c.loop-key.invariant.undone;
    }
