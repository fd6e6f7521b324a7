use Rattle.std.proofs.Common.{sym, ap, ◌∙◌, subst, inl, inr, arith}
use Rattle.std.specs.List.{Contains}
use Rattle.std.proofs.lemmas.Bool.{cases_eq}
use Rattle.ws_reach.specs.Reach.{rows_of}
use Rattle.ws_reach.specs.Worklist.{Noted}
use Rattle.go_init.specs.Condensation.{AreRooted}
use Rattle.go_init.proofs.Rooted.{rooted_none}
use Rattle.go_init.proofs.components.roots_of.Goals as goal

pub loop-root-init : goal.loop-root-init
loop-root-init c = record {
  size = ap (λ (n : Noted). n.size) c.in_ok-met.ensures;
  rooted = rooted_none (rows_of c.args.rows.now) c.args.size c.in_ok-met.met c.in_ok-roots.roots.items c.in_ok-met.ensures (c.in_ok-roots.ensures.items_if_clones_equal (λ x e. e));
  taken = λ x lt. absurd (omega (arith, lt));
}

pub take_root-requires : goal.take_root-requires
take_root-requires c =
    let inv = c.loop-root.invariant in
    record {
      within = λ p q e. (let lt = c.requires.within p q e in omega (arith, lt, inv.size));
      back = c.requires.back;
      root = omega (arith, c.loop-root-test.true, inv.size);
      rooted = subst (λ n. AreRooted (rows_of c.args.rows.now) n c.loop-root.met.found c.loop-root.roots.items) (sym inv.size) inv.rooted;
    }

pub loop-root-preserved : goal.loop-root-preserved
loop-root-preserved c =
    let inv = c.loop-root.invariant in
    let ens = c.in_ok-take_root.ensures in
    record {
      size = ens.size ∙ inv.size;
      rooted = subst (λ n. AreRooted (rows_of c.args.rows.now) n c.take_root.new.met.found c.take_root.new.roots.items) (ens.size ∙ inv.size) ens.rooted;
      taken = λ x lt. elim (cases_eq x c.loop-root.root) [
        | inl same ↦ subst (Contains c.take_root.new.met.found) (sym same) ens.root
        | inr ne ↦ ens.stay x (inv.taken x (omega (arith, lt, ne)))
      ];
    }

pub returns-clause-inside : goal.returns-clause-inside
returns-clause-inside c = λ x lt. (c.loop-root.invariant.rooted.rooted x (c.loop-root.invariant.taken x (omega (arith, lt, c.loop-root-test.false)))).1

pub returns-clause-reached : goal.returns-clause-reached
returns-clause-reached c = λ x lt. c.loop-root.invariant.rooted.reached x (c.loop-root.invariant.taken x (omega (arith, lt, c.loop-root-test.false)))

pub returns-clause-alike : goal.returns-clause-alike
returns-clause-alike c = λ x y lt e. (c.loop-root.invariant.rooted.closed x y (c.loop-root.invariant.taken x (omega (arith, lt, c.loop-root-test.false))) e).1
