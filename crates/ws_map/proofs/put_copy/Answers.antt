use Rattle.std.proofs.Common.{ap, ◌∙◌, map as mapped}
use Rattle.std.specs.FinMap as map
use Rattle.ws_map.specs.Keyed.{by_key}
use Rattle.ws_map.specs.Undone.{undone}
use Rattle.ws_map.proofs.Keyed.{insert-by_key}
use Rattle.ws_map.proofs.Undone.{undone-push, taken_back}
use Rattle.ws_map.proofs.put_copy.Goals as goal

pub returns-clause-ok : goal.returns-clause-ok
returns-clause-ok g c =
    let bytes = g.K.Key.bytes in
    let mine = c.args.mine.now.entries in
    insert-by_key g.K.Ord.cmp bytes g.met.K.Key.ordered mine c.insert.new.self.entries c.in_ok-clone.field-0 c.in_ok-clone-2.field-0 c.in_ok-before.ensures.entries
    ∙ ap (λ b. map.insert (by_key bytes mine) b c.in_ok-clone-2.field-0) (g.met.K.Key.cloned c.args.key.now c.in_ok-clone.field-0 c.in_ok-clone.ensures.cases)
    ∙ ap (map.insert (by_key bytes mine) (bytes c.args.key.now)) (g.met.V.Ranked.cloned c.args.value.now c.in_ok-clone-2.field-0 c.in_ok-clone-2.ensures.cases)

pub returns-clause-undone : goal.returns-clause-undone
returns-clause-undone g c =
    let cmp = g.K.Ord.cmp in
    let mine = c.args.mine.now.entries in
    let inserted = c.insert.new.self.entries in
    ap (λ items. undone cmp (mapped (λ put. (put.key.now, put.before)) items) inserted) c.in_ok-push.ensures.items
    ∙ undone-push cmp (λ put. (put.key.now, put.before)) c.reserve.new.self.items _ inserted
    ∙ ap (undone cmp (mapped (λ put. (put.key.now, put.before)) c.reserve.new.self.items))
    (taken_back cmp g.K.Key.bytes g.met.K.Key.ordered mine inserted c.in_ok-clone.field-0 c.args.key.now c.in_ok-clone-2.field-0 c.in_ok-before.before
    (g.met.K.Key.cloned c.args.key.now c.in_ok-clone.field-0 c.in_ok-clone.ensures.cases) c.in_ok-before.ensures.was_ordered c.in_ok-before.ensures.old c.in_ok-before.ensures.entries)
    ∙ ap (λ items. undone cmp (mapped (λ put. (put.key.now, put.before)) items) mine) c.in_ok-reserve.ensures.items
