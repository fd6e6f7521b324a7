use Rattle.std.proofs.Common.{◌≡◌, ◌<◌, ◌+◌, ◌-◌, ℕ, None, is_some, drop, length, sym, ap, ◌∙◌, subst, arith}
use Rattle.go_scope.proofs.Lookups.{look_in, look_none, look_further, look_found, copied_none, copied_some}
use Rattle.go_scope.proofs.scopes.find.Goals as goal

pub loop-i-init : goal.loop-i-init
loop-i-init g c = look_none c.args.blocks.now (length c.args.blocks.now) c.args.name.now (omega arith)

pub loop-i-preserved : goal.loop-i-preserved
loop-i-preserved g c =
    let i = c.loop-i.i - 1 in
    let next : c.loop-i.i ≡ i + 1 = omega (arith, c.loop-i-test.true) in
    let inside : i < length c.args.blocks.now = omega (arith, c.loop-i-test.true, c.loop-i.auto.i) in
    look_further c.args.blocks.now i c.index-blocks-i.result c.args.name.now inside c.index-blocks-i.is
    (subst (λ (n : ℕ). look_in (drop n c.args.blocks.now) c.args.name.now ≡ None) next c.loop-i.invariant)
    (sym c.get-found.ensures ∙ copied_none c.get-found.result (sym c.is_some.ensures ∙ c.if-is_some.false))

pub returns-then-is_some : goal.returns-then-is_some
unfolding look_in
returns-then-is_some g c =
    let i = c.loop-i.i - 1 in
    let next : c.loop-i.i ≡ i + 1 = omega (arith, c.loop-i-test.true) in
    let inside : i < length c.args.blocks.now = omega (arith, c.loop-i-test.true, c.loop-i.auto.i) in
    c.get-found.ensures
    ∙ sym (look_found c.args.blocks.now i c.index-blocks-i.result c.args.name.now inside c.index-blocks-i.is
    (subst (λ (n : ℕ). look_in (drop n c.args.blocks.now) c.args.name.now ≡ None) next c.loop-i.invariant)
    (ap is_some (sym c.get-found.ensures) ∙ copied_some c.get-found.result (sym c.is_some.ensures ∙ c.if-is_some.true)))

pub returns : goal.returns
unfolding look_in
returns g c =
    let none : c.loop-i.i ≡ 0 = omega (arith, c.loop-i-test.false) in
    sym (subst (λ (n : ℕ). look_in (drop n c.args.blocks.now) c.args.name.now ≡ None) none c.loop-i.invariant)
