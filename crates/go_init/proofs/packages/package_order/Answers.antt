use Rattle.std.proofs.Common.{◌≡◌, ◌+◌, ◌-◌, ◌∷◌, ℕ, List, Bool, suc, false, true, length, replicate, refl, sym, ap, ◌∙◌, subst, inl, arith}
use Rattle.std.proofs.Math.ListN.{set}
use Rattle.std.specs.Global.{Vec}
use Rattle.std.specs.List.{Contains}
use Rattle.ws_reach.specs.Reach.{rows_of}
use Rattle.ws_reach.proofs.Rows.{length-rows}
use Rattle.go_init.specs.Queues.{IsLeft, IsReady}
use Rattle.go_init.proofs.Members.{contained}
use Rattle.go_init.proofs.Queued.{taken_queued}
use Rattle.go_init.proofs.Steps.{SoFar, so_far_end, so_far_first, so_far_next, so_far_none}
use Rattle.go_init.proofs.packages.package_order.Goals as goal

pub loop-init : goal.loop-init
loop-init c =
    let rows = rows_of c.args.rows.now in
    let n = length c.args.rows.now in
    let listed = c.in_ok-queue.queue.listed.items in
    let same = length-rows c.args.rows.now in
    let all : length rows ≡ n - 0 = omega (arith, same) in
    record {
      queued = c.in_ok-queue.ensures.queued;
      so_far = subst (SoFar rows listed c.new-order.result.items) all (subst (λ (l : List ℕ). SoFar rows listed l (length rows)) (sym c.new-order.ensures.items)
          (so_far_first rows listed (c.in_ok-queue.ensures.listed ∙ ap (λ (m : ℕ). replicate m false) (sym same))));
    }

pub returns-in_default : goal.returns-in_default
returns-in_default c =
    let rows = rows_of c.args.rows.now in
    let todo = length c.args.rows.now - (c.loop.counter + 1) in
    let one : length c.args.rows.now - c.loop.counter ≡ suc todo = omega (arith, c.loop-test.true) in
    so_far_none rows c.loop.queue c.loop.invariant.queued c.loop.order.items todo (subst (SoFar rows c.loop.queue.listed.items c.loop.order.items) one c.loop.invariant.so_far) c.in_default.ensures.none

pub list-requires-clause-queued : goal.list-requires-clause-queued
list-requires-clause-queued c =
    taken_queued (rows_of c.args.rows.now) c.loop.queue c.first_ready.new.self c.in-Some.number c.loop.invariant.queued c.in-Some.ensures.listed c.in-Some.ensures.waiting c.in-Some.ensures.some

pub list-requires-clause-left : goal.list-requires-clause-left
list-requires-clause-left c =
    let keys = c.first_ready.new.self.ready.keys in
    let r = c.loop.invariant.queued.ready c.in-Some.number (subst (λ (l : List ℕ). Contains l c.in-Some.number) (sym c.in-Some.ensures.some) (contained (c.in-Some.number ∷ keys) c.in-Some.number (inl refl))) in
    subst (λ (v : Vec Bool). IsLeft v.items c.in-Some.number) (sym c.in-Some.ensures.listed) r.0

pub list-requires-clause-ready : goal.list-requires-clause-ready
list-requires-clause-ready c =
    let rows = rows_of c.args.rows.now in
    let keys = c.first_ready.new.self.ready.keys in
    let r = c.loop.invariant.queued.ready c.in-Some.number (subst (λ (l : List ℕ). Contains l c.in-Some.number) (sym c.in-Some.ensures.some) (contained (c.in-Some.number ∷ keys) c.in-Some.number (inl refl))) in
    subst (λ (v : Vec Bool). IsReady rows v.items c.in-Some.number) (sym c.in-Some.ensures.listed) r.1

pub list-requires-clause-taken : goal.list-requires-clause-taken
list-requires-clause-taken c = λ h. (let lt = c.in-Some.ensures.least c.in-Some.number h in absurd (omega (arith, lt)))

pub loop-preserved : goal.loop-preserved
loop-preserved c =
    let rows = rows_of c.args.rows.now in
    let number = c.in-Some.number in
    let order = c.loop.order.items in
    let todo = length c.args.rows.now - (c.loop.counter + 1) in
    let one : length c.args.rows.now - c.loop.counter ≡ suc todo = omega (arith, c.loop-test.true) in
    let listed = c.list.new.self.listed.items in
    let is : listed ≡ set c.loop.queue.listed.items number true = c.in_ok-list.ensures.listed ∙ ap (λ (v : Vec Bool). set v.items number true) c.in-Some.ensures.listed in
    record {
      queued = c.in_ok-list.ensures.queued;
      so_far = subst (λ (l : List ℕ). SoFar rows listed l todo) (sym c.in_ok-push.ensures.items)
          (so_far_next rows c.loop.queue c.loop.invariant.queued order todo (subst (SoFar rows c.loop.queue.listed.items order) one c.loop.invariant.so_far) number c.first_ready.new.self.ready.keys listed
          c.in-Some.ensures.some c.in-Some.ensures.least is);
    }

pub returns : goal.returns
returns c =
    let rows = rows_of c.args.rows.now in
    let none : length c.args.rows.now - c.loop.counter ≡ 0 = omega (arith, c.loop-test.false) in
    so_far_end rows c.loop.queue.listed.items c.loop.order.items (subst (SoFar rows c.loop.queue.listed.items c.loop.order.items) none c.loop.invariant.so_far)
