use Rattle.std.proofs.Common.{◌≡◌, ℕ, List, Bor, map, length, ◌≤◌, subst, arith}
use Rattle.std.specs.Prelude.{◌↔◌, ◌⊎◌}
use Rattle.std.specs.List.{Contains}
use Rattle.go_init.specs.Views.{bearers}
use Rattle.go_init.proofs.Bearers.{under_none, under_next, under_all}
use Rattle.go_init.proofs.edges.by_name.Goals as goal

pub loop-number-init : goal.loop-number-init
loop-number-init c = under_none c.args.nodes.now c.new-named.result c.new-named.ensures.empty

pub loop-number-preserved : goal.loop-number-preserved
loop-number-preserved c =
    let added = subst (λ (l : List (Bor (List ℕ))). (x : Bor (List ℕ)) (k : ℕ) → Contains (bearers c.add_names.new.named x) k ↔ (Contains (bearers c.loop-number.named x) k ⊎ (Contains (map (λ (n : Bor (List ℕ)). n.now) l) x.now × (k ≡ c.loop-number.number))))
    c.as_slice.ensures.value c.in_ok-add_names.ensures in
    under_next c.args.nodes.now c.loop-number.number c.loop-number.named c.add_names.new.named c.node_at-node.result.now c.node_at-node.ensures c.loop-number.invariant added

pub returns : goal.returns
returns c =
    let past : length c.args.nodes.now ≤ c.loop-number.number = omega (arith, c.loop-number-test.false) in
    under_all c.args.nodes.now c.loop-number.number c.loop-number.named past c.loop-number.invariant
