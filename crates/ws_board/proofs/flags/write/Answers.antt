use Rattle.std.proofs.Common.{◌≡◌, ◌*◌, ◌/◌, ◌+◌, ◌<◌, ◌||◌, false, length, get_or, refl, sym, ap, ◌∙◌, subst, arith, inl, inr}
use Rattle.std.proofs.Math.ListN.{set, length-set}
use Rattle.std.proofs.lemmas.Nat.{pow_pos}
use Rattle.std.proofs.lemmas.Bool.{cases_eq}
use Rattle.std.proofs.lemmas.List.{drop-set-lt}
use Rattle.ws_board.specs.Flags.{SaysBelow, IsTree}
use Rattle.ws_board.proofs.Trees.{says_other, says_same}
use Rattle.ws_board.proofs.flags.write.Goals as goal

pub loop-node-init : goal.loop-node-init
loop-node-init c =
    let old = c.args.tree.now.items in
    let is : IsTree c.args.inner old = c.requires.tree in
    let p = pow_pos is.height in
    let some : 0 < c.args.inner = omega (arith, is.power, p) in
    record {
      count = length-set old c.args.leaf c.args.flag;
      some = omega (arith, some, c.requires.leaf);
      low = omega arith;
      flags = refl;
      each = λ node some lt ne. says_other old c.args.leaf c.args.flag node (λ e. absurd (omega (arith, e, lt, c.requires.leaf))) ne (is.each node some lt);
    }

pub loop-node-preserved : goal.loop-node-preserved
loop-node-preserved c =
    let i = c.loop-node.invariant in
    let tree = c.loop-node.tree.items in
    let now = c.loop-node.node / 2 in
    let flag = c.stands_below.result in
    let is : IsTree c.args.inner c.args.tree.now.items = c.requires.tree in
    let low : now < c.args.inner = omega (arith, i.low, is.flags, c.requires.inside, c.loop-node-test.true) in
    let inside : now < length tree = omega (arith, low, is.nodes, i.count) in
    let some : 0 < now = omega (arith, c.loop-node-test.true) in
    let says : flag ≡ (get_or tree (2 * now) false || get_or tree (2 * now + 1) false) =
    c.stands_below.ensures ∙ ap (λ l. get_or l (2 * now) false || get_or l (2 * now + 1) false) c.deref.ensures.value in
    record {
      count = length-set tree now flag ∙ i.count;
      some = some;
      low = omega (arith, i.low);
      flags = drop-set-lt c.args.inner tree now flag low ∙ i.flags;
      each = λ node more lt ne. elim (cases_eq node now) [
        | inl e ↦ subst (λ k. SaysBelow (set tree now flag) k) (sym e) (says_same tree now flag some inside says)
        | inr other ↦ says_other tree now flag node other ne (i.each node more lt other)
      ];
    }

pub returns-clause-tree : goal.returns-clause-tree
returns-clause-tree c =
    let i = c.loop-node.invariant in
    let is : IsTree c.args.inner c.args.tree.now.items = c.requires.tree in
    record {
      height = is.height;
      power = is.power;
      nodes = omega (arith, is.nodes, i.count);
      flags = omega (arith, is.flags, i.count);
      each = λ node some lt. i.each node some lt (λ e. absurd (omega (arith, e, some, c.loop-node-test.false)));
    }
