use Rattle.std.proofs.Common.{◌≡◌, ◌≤◌, ◌<◌, ℕ, List, Some, length, sym, ap, ◌∙◌, subst, refl, inl, inr, arith}
use Rattle.std.specs.List.{slice_get, Contains}
use Rattle.ws_reach.specs.Reach.{rows_of}
use Rattle.ws_reach.proofs.Reached.{get_contains}
use Rattle.go_init.specs.Condensation.{AreRooted}
use Rattle.go_init.proofs.Rooted.{Rooting, rooting_start, rooting_next, rooting_end}
use Rattle.go_init.proofs.components.take_root.Goals as goal

pub loop-next-init : goal.loop-next-init
loop-next-init c =
    let rows = rows_of c.args.rows.now in
    let old = c.args.met.now in
    let before = c.args.roots.now.items in
    let ens = c.in_ok-add_all.ensures in
    let found = c.add_all.new.self.found in
    let same : length old.found ≡ length c.found-next.result.now = sym (ap length c.found-next.ensures.value) in
    record {
      size = ens.size;
      rooting = subst (Rooting rows old.size c.args.root old.found before found before) same
          (rooting_start rows old.size c.args.root old.found before c.requires.rooted found ens.grows (ens.taken c.args.root (0, omega arith, refl)) ens.from);
    }

pub loop-next-preserved : goal.loop-next-preserved
loop-next-preserved c =
    let rows = rows_of c.args.rows.now in
    let old = c.args.met.now in
    let inv = c.loop-next.invariant in
    let here = c.node_at-here.result in
    let found = c.loop-next.met.found in
    let at : slice_get found c.loop-next.next ≡ Some here = sym (ap (λ (l : List ℕ). slice_get l c.loop-next.next) c.found-in-loop-next.ensures.value) ∙ c.node_at-here.ensures in
    let ens = c.in_ok-add_all-2.ensures in
    let set = c.set_root.ensures in
    record {
      size = ens.size ∙ inv.size;
      rooting = rooting_next rows old.size c.args.root old.found c.args.roots.now.items c.requires.rooted found c.add_all-in-loop-next.new.self.found c.loop-next.roots.items c.set_root.new.roots.items c.loop-next.next here
          c.requires.root inv.rooting at set.count set.others set.kept set.set ens.grows (λ y e. ens.taken y ((c.row_of.ensures y).1 e))
          (λ x k. elim (ens.from x k) [ inl o ↦ inl o | inr r ↦ inr ((c.row_of.ensures x).0 r) ]);
    }

pub set_root-requires : goal.set_root-requires
set_root-requires c =
    let at = get_contains c.found-in-loop-next.result.now c.loop-next.next c.node_at-here.result c.node_at-here.ensures in
    let below = c.found-in-loop-next.ensures.below c.node_at-here.result at in
    let count = c.loop-next.invariant.rooting.count in
    omega (arith, below, count, c.loop-next.invariant.size)

pub add_all-requires-in-loop-next : goal.add_all-requires-in-loop-next
add_all-requires-in-loop-next c = λ q k. (
    let below = c.requires.within c.node_at-here.result q ((c.row_of.ensures q).0 k) in
    omega (arith, below, c.loop-next.invariant.size))

pub returns-clause-root : goal.returns-clause-root
returns-clause-root c = c.loop-next.invariant.rooting.first

pub returns-clause-stay : goal.returns-clause-stay
returns-clause-stay c = c.loop-next.invariant.rooting.stay

pub returns-clause-rooted : goal.returns-clause-rooted
returns-clause-rooted c =
    let rows = rows_of c.args.rows.now in
    let old = c.args.met.now in
    let inv = c.loop-next.invariant in
    let found = c.loop-next.met.found in
    let below : (q : ℕ) → Contains found q → q < old.size = λ q k. (
    let lt = c.found.ensures.below q (subst (λ (l : List ℕ). Contains l q) (sym c.found.ensures.value) k) in
    omega (arith, lt, inv.size)) in
    let end : length found ≤ c.loop-next.next = (let e : length c.found.result.now ≡ length found = ap length c.found.ensures.value in omega (arith, e, c.loop-next-test.false)) in
    subst (λ n. AreRooted rows n found c.loop-next.roots.items) (sym inv.size) (rooting_end rows old.size c.args.root old.found c.args.roots.now.items c.requires.rooted found c.loop-next.roots.items c.loop-next.next c.requires.back below inv.rooting end)
