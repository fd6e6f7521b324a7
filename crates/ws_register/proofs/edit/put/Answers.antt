use Rattle.std.proofs.Common.{◌≡◌, sym, ap, subst, ◌∙◌, ◌+◌, ◌++◌, take, drop, Result, Ok, Err, OnOk}
use Rattle.ws_register.specs.Listed.{writes_of, all_writes}
use Rattle.ws_register.specs.Pages.{values, Ascends, AllPathsBelow, AllAbove}
use Rattle.ws_register.proofs.Edited.{put-on_part, middle-ascends}
use Rattle.ws_register.proofs.edit.put.Goals as goal

ok_then : {A E P Q : Type 0} (r : Result A E) → (P → Q) → OnOk r P → OnOk r Q
ok_then (Ok a) f p = f p
ok_then (Err x) f p = tt

pub with_write-requires-clause-ascends : goal.with_write-requires-clause-ascends
with_write-requires-clause-ascends c =
    let pages = c.deref-2.result.now in
    let at = c.page_at-at.result in
    middle-ascends (all_writes pages) (all_writes (take at pages)) (values c.writes_at.result.now) (all_writes (drop (at + 1) pages)) c.writes_at.ensures.page
    (subst (λ l. Ascends (all_writes l)) (sym c.deref-2.ensures.value) c.requires)

pub returns-clause-ok : goal.returns-clause-ok
returns-clause-ok c =
    let pages = c.args.pages.now.items in
    let at = c.page_at-at.result in
    let old = values c.writes_at.result.now in
    let new = values c.deref-3.result.now in
    let path = c.args.write.0 in
    ok_then c.replace.result (λ whole.
    put-on_part writes_of pages at old new (all_writes c.replace.new.pages.items) path c.args.write.1
    (subst (λ l. all_writes l ≡ all_writes (take at l) ++ (old ++ all_writes (drop (at + 1) l))) c.deref-2.ensures.value c.writes_at.ensures.page)
    (subst (λ l. AllPathsBelow (all_writes (take at l)) path) c.deref.ensures.value (subst (AllPathsBelow (all_writes (take at c.deref.result.now))) c.path.ensures c.page_at-at.ensures.below))
    (subst (λ l. AllAbove (all_writes (drop (at + 1) l)) path) c.deref.ensures.value (subst (AllAbove (all_writes (drop (at + 1) c.deref.result.now))) c.path.ensures c.page_at-at.ensures.above))
    (ap values c.deref-3.ensures.value ∙ c.in_ok-writes.ensures.all) whole)
    c.replace.ensures.ok
