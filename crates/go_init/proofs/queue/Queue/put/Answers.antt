use Rattle.std.proofs.Common.{◌≡◌, List, Bool, false, length, Some, None, get_or, refl, sym, ap, ◌∙◌, subst, arith}
use Rattle.std.proofs.lemmas.Option.{get_or_from_slice_get, slice_get_within}
use Rattle.go_init.specs.Queues.{IsLeft, IsMissing}
use Rattle.go_init.proofs.Queued.{put_waits, put_ready}
use Rattle.go_init.proofs.queue.Queue.put.Goals as goal

pub add_waiter-requires : goal.add_waiter-requires
add_waiter-requires c =
    let missing : IsMissing c.deref.result.now c.args.row.now c.args.from (Some c.in-Some.place) = c.in-Some.ensures in
    let is : get_or c.args.row.now c.in-Some.place 0 ≡ missing.0.0 = get_or_from_slice_get c.args.row.now c.in-Some.place missing.0.0 0 missing.0.1 in
    let lt = slice_get_within c.deref.result.now missing.0.0 false missing.0.2 in
    let same : length c.deref.result.now ≡ length c.args.self.now.listed.items = ap length c.deref.ensures.value in
    omega (arith, is, lt, same, c.requires)

pub returns-in_ok-add_waiter-in-Some : goal.returns-in_ok-add_waiter-in-Some
returns-in_ok-add_waiter-in-Some c =
    let row = c.args.row.now in
    let place = c.in-Some.place in
    let missing : IsMissing c.args.self.now.listed.items row c.args.from (Some place) = subst (λ (l : List Bool). IsMissing l row c.args.from (Some place)) c.deref.ensures.value c.in-Some.ensures in
    let is : missing.0.0 ≡ get_or row place 0 = sym (get_or_from_slice_get row place missing.0.0 0 missing.0.1) in
    put_waits c.args.self.now _ row c.args.number c.args.from place (get_or row place 0) refl refl c.in_ok-add_waiter-in-Some.ensures.count
    (missing.0.1 ∙ ap Some is) (subst (IsLeft c.args.self.now.listed.items) is missing.0.2) missing.1 c.in_ok-add_waiter-in-Some.ensures.added

pub returns-in_ok-insert-in-None : goal.returns-in_ok-insert-in-None
returns-in_ok-insert-in-None c =
    let row = c.args.row.now in
    let none : IsMissing c.args.self.now.listed.items row c.args.from None = subst (λ (l : List Bool). IsMissing l row c.args.from None) c.deref.ensures.value c.in-None.ensures in
    put_ready c.args.self.now _ row c.args.number c.args.from refl c.in_ok-insert-in-None.ensures.keys refl none
