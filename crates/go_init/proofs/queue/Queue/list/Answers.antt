use Rattle.std.proofs.Common.{◌≡◌, ◌+◌, ℕ, List, [], Some, true, false, refl, sym, ap, ◌∙◌, subst, inl, inr, arith}
use Rattle.std.specs.List.{slice_get}
use Rattle.std.proofs.lemmas.Bool.{cases_eq}
use Rattle.std.proofs.lemmas.Option.{slice_get-get_or, slice_get_within}
use Rattle.ws_reach.specs.Reach.{rows_of}
use Rattle.ws_reach.proofs.Rows.{length-rows}
use Rattle.std.specs.Vec.{with_item}
use Rattle.std.specs.Global.{Vec}
use Rattle.go_init.specs.declared.queue.Queue.{Queue}
use Rattle.go_init.specs.declared.queue.Waiter.{Waiter}
use Rattle.go_init.specs.Queues.{NoneLeft}
use Rattle.go_init.proofs.Queued.{AreToPut, IsFreed, freed, listed_queued, none_other, put_queued}
use Rattle.go_init.proofs.queue.Queue.list.Goals as goal

pub loop-i-init : goal.loop-i-init
loop-i-init c =
    let rows = rows_of c.args.rows.now in
    let old = c.args.self.now in
    let new : Queue = record { listed = with_item old.listed c.args.number true; ready = old.ready; waiting = with_item old.waiting c.args.number c.replace-waiters.new.dest } in
    let at : slice_get old.waiting.items c.args.number ≡ Some c.replace-waiters.result =
    slice_get-get_or old.waiting.items c.args.number c.index_mut-2.result.now (let lt = slice_get_within old.listed.items c.args.number false c.requires.left in let count = c.requires.queued.count in omega (arith, lt, count))
    ∙ ap Some (sym c.index_mut-2.ensures.value ∙ sym c.replace-waiters.ensures.value) in
    let none : c.replace-waiters.new.dest.items ≡ [] = ap (λ (v : Vec Waiter). v.items) c.replace-waiters.ensures.after ∙ c.new.ensures.items in
    let r = c.requires in
    record {
      listed = refl;
      freed = freed rows old new c.args.number c.replace-waiters.result c.replace-waiters.new.dest r.queued r.left r.ready r.taken at none refl refl refl;
      queued = listed_queued rows old new c.args.number c.replace-waiters.result c.replace-waiters.new.dest r.queued r.left r.ready r.taken at none refl refl refl;
    }

pub row_at-requires : goal.row_at-requires
row_at-requires c =
    let w = c.waiter_at-importer.result in
    let there : slice_get c.replace-waiters.result.items c.loop-i.i ≡ Some w = sym (ap (λ (l : List Waiter). slice_get l c.loop-i.i) c.deref.ensures.value) ∙ c.waiter_at-importer.ensures in
    let f = c.loop-i.invariant.freed c.loop-i.i w there in
    let lt = slice_get_within (rows_of c.args.rows.now) w.importer f.row f.at in
    omega (arith, lt, length-rows c.args.rows.now)

pub loop-i-preserved : goal.loop-i-preserved
loop-i-preserved c =
    let rows = rows_of c.args.rows.now in
    let waiters = c.replace-waiters.result.items in
    let i = c.loop-i.i in
    let old = c.loop-i.self in
    let w = c.waiter_at-importer.result in
    let there : slice_get waiters i ≡ Some w = sym (ap (λ (l : List Waiter). slice_get l i) c.deref.ensures.value) ∙ c.waiter_at-importer.ensures in
    let f = c.loop-i.invariant.freed i w there in
    let both : Some f.row ≡ Some c.row_at.result.now = sym f.at ∙ c.row_at.ensures in
    let same : f.row ≡ c.row_at.result.now = cc in
    let put = c.in_ok-put.ensures in
    record {
      listed = put.listed ∙ c.loop-i.invariant.listed;
      freed = λ n v at. subst (λ l. IsFreed rows l c.args.number v) (sym put.listed) (c.loop-i.invariant.freed n v at);
      queued = put_queued rows old c.put.new.self c.row_at.result.now w.importer w.place (AreToPut waiters i) (AreToPut waiters (i + 1)) c.loop-i.invariant.queued put c.row_at.ensures
          f.importer (subst (λ (r : List ℕ). NoneLeft old.listed.items r 0 w.place) same f.before)
          (λ k o. elim (cases_eq o.0 i) [
            | inl e ↦ (
                let it : Some o.1 ≡ Some w = sym o.3 ∙ ap (slice_get waiters) e ∙ there in
                let is : o.1 ≡ w = cc in
                inl (sym o.4 ∙ ap (λ (v : Waiter). v.importer) is))
            | inr ne ↦ inr (o.0, o.1, (let le = o.2 in omega (arith, le, ne)), o.3, o.4)
          ]);
    }

pub returns-clause-queued : goal.returns-clause-queued
returns-clause-queued c =
    none_other (rows_of c.args.rows.now) c.loop-i.self (AreToPut c.replace-waiters.result.items c.loop-i.i) c.loop-i.invariant.queued
    (λ k left o. (let lt = slice_get_within c.replace-waiters.result.items o.0 o.1 o.3 in let le = o.2 in absurd (omega (arith, lt, le, c.loop-i-test.false))))
