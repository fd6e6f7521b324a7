use Rattle.std.proofs.Common.{◌≡◌, ◌∷◌, rules, Bor, List, ℕ, map, sym, ◌∙◌}
use Rattle.std.specs.Prelude.{bytes_eq}
use Rattle.std.specs.List.{list_any}
use Rattle.std.specs.Vec.Iter.{into_iter_items}
use Rattle.go_ast.specs.Views.{file_of}
use Rattle.go_objects.specs.Objects.{objects_of}
use Rattle.go_objects.proofs.Firsts.{next_taken, next_doubled, not_false, not_true}
use Rattle.go_objects.proofs.listing.objects_of.Goals as goal

pub loop-object-preserved-in-Continue-branch-3 : goal.loop-object-preserved-in-Continue-branch-3
loop-object-preserved-in-Continue-branch-3 c =
    let before = c.loop-object.invariant in
    let keys = c.loop-object.names.keys in
    let left : into_iter_items c.loop-object.object-iterator ≡ c.in-Some.object ∷ into_iter_items c.next.new.self = search rules in
    let k = c.text-name.result in
    let absent = not_false c.in_ok-insert.field-0 (list_any (λ (y : Bor (List ℕ)). bytes_eq k.now y.now) keys) c.in_ok-insert.ensures.added c.if-branch.true in
    let step = next_taken keys c.insert.new.self.keys k c.loop-object.list.items c.push.new.self.items c.in-Some.object (into_iter_items c.loop-object.object-iterator) (into_iter_items c.next.new.self) (objects_of (map (λ f. file_of f.now) c.args.files.now))
    (before.numbered, before.firsts) left c.text-name.ensures (sym c.eq.ensures ∙ c.if-eq.false) absent c.in_ok-insert.ensures.keys c.in_ok-push.ensures.items in
    record { numbered = step.0; firsts = step.1 }

pub loop-object-preserved : goal.loop-object-preserved
loop-object-preserved c =
    let before = c.loop-object.invariant in
    let keys = c.loop-object.names.keys in
    let left : into_iter_items c.loop-object.object-iterator ≡ c.in-Some.object ∷ into_iter_items c.next.new.self = search rules in
    let k = c.text-name.result in
    let present = not_true c.in_ok-insert.field-0 (list_any (λ (y : Bor (List ℕ)). bytes_eq k.now y.now) keys) c.in_ok-insert.ensures.added c.if-branch.false in
    let step = next_doubled keys c.insert.new.self.keys k c.loop-object.list.items c.in-Some.object (into_iter_items c.loop-object.object-iterator) (into_iter_items c.next.new.self) (objects_of (map (λ f. file_of f.now) c.args.files.now))
    (before.numbered, before.firsts) left c.text-name.ensures present c.in_ok-insert.ensures.keys in
    record { numbered = step.0; firsts = step.1 }
