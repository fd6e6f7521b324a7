use Rattle.std.proofs.Common.{Bor, List, ℕ, map, sym, ◌∙◌, subst}
use Rattle.go_objects.specs.Views.{object_view}
use Rattle.go_objects.specs.Numbers.{Numbered}
use Rattle.go_objects.specs.declared.object.Object.{Object}
use Rattle.go_objects.proofs.Firsts.{unknown_more}
use Rattle.go_objects.proofs.objects.Objects.unknown.Goals as goal

pub loop-object-preserved : goal.loop-object-preserved
loop-object-preserved c =
    let items = c.deref-object-items.result.now in
    let names = map (λ (n : Bor (List ℕ)). n.now) c.args.self.now.names.keys in
    let numbered = subst (λ (l : List Object). Numbered names (map object_view l)) (sym c.deref-object-items.ensures.value) c.args.self.now.numbered in
    unknown_more c.loop-object.known c.insert.new.self.entries c.in_ok-from_str.field-0 names items c.loop-object.object-index c.object-item.result
    numbered c.loop-object-test.true c.object-item.is (c.in_ok-from_str.ensures.ok ∙ c.text.ensures) c.loop-object.invariant c.in_ok-insert.ensures.entries
