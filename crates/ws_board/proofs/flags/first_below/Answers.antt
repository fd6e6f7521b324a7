use Rattle.std.proofs.Common.{◌≡◌, ◌*◌, ◌+◌, ◌<◌, ◌∙◌, false, get_or, sym, ap, subst, arith}
use Rattle.std.proofs.lemmas.Nat.{pow_pos}
use Rattle.ws_board.proofs.Trees.{Leads, root_leads, leaf_leads, first_leads, second_leads, second_stands}
use Rattle.ws_board.proofs.flags.first_below.Goals as goal

pub loop-node-init : goal.loop-node-init
loop-node-init c =
    let is = c.requires.tree in
    let p = pow_pos is.height in
    record { some = omega arith; inside = omega (arith, is.power, p); stands = c.requires.some; leads = root_leads c.args.inner c.args.tree.now is }

pub loop-node-preserved-then-not-stands : goal.loop-node-preserved-then-not-stands
loop-node-preserved-then-not-stands c =
    let is = c.requires.tree in
    let tree = c.args.tree.now in
    let node = c.loop-node.node in
    let i = c.loop-node.invariant in
    let lt : node < c.args.inner = omega arith in
    let twice : node * 2 ≡ 2 * node = omega arith in
    let none : get_or tree (2 * node) false ≡ false = ap (λ k. get_or tree k false) (sym twice) ∙ sym c.stands.ensures ∙ c.if-not-stands.true in
    let e : 2 * node + 1 ≡ node * 2 + 1 = omega arith in
    record {
      some = omega arith;
      inside = omega (arith, lt);
      stands = ap (λ k. get_or tree k false) (sym e) ∙ second_stands c.args.inner tree is node i.some lt i.leads i.stands none;
      leads = subst (Leads c.args.inner tree) e (second_leads c.args.inner tree is node i.some lt i.leads none);
    }

pub loop-node-preserved : goal.loop-node-preserved
loop-node-preserved c =
    let is = c.requires.tree in
    let tree = c.args.tree.now in
    let node = c.loop-node.node in
    let i = c.loop-node.invariant in
    let lt : node < c.args.inner = omega arith in
    let e : 2 * node ≡ node * 2 = omega arith in
    record {
      some = omega (arith, i.some);
      inside = omega (arith, lt);
      stands = sym c.stands.ensures ∙ c.if-not-stands.false;
      leads = subst (Leads c.args.inner tree) e (first_leads c.args.inner tree is node i.some lt i.leads);
    }

pub returns-clause-least : goal.returns-clause-least
returns-clause-least c = leaf_leads c.args.inner c.args.tree.now c.requires.tree c.loop-node.node c.loop-node.invariant.leads (omega arith)
