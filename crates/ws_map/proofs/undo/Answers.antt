use Rattle.std.proofs.Common.{ap, sym, ◌∙◌, map}
use Rattle.ws_map.specs.Undone.{undone}
use Rattle.ws_map.proofs.Undone.{undone-push}
use Rattle.ws_map.proofs.undo.Goals as goal

pub loop-put-preserved : goal.loop-put-preserved
loop-put-preserved g c =
    let cmp = g.K.Ord.cmp in
    let left = c.pop.new.self.items in
    ap (undone cmp (map (λ put. (put.key.now, put.before)) left)) c.put_back.ensures
    ∙ sym (undone-push cmp (λ put. (put.key.now, put.before)) left c.in-Some.put c.loop-put.mine.entries)
    ∙ sym (ap (λ items. undone cmp (map (λ put. (put.key.now, put.before)) items) c.loop-put.mine.entries) c.in-Some.ensures.items)
    ∙ c.loop-put.invariant
