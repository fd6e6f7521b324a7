use Rattle.std.proofs.Common.{List, ℕ, ◌++◌, ap, ◌∙◌, arith, length, ◌≤◌}
use Rattle.go_init.proofs.Bearers.{met_next, met_all}
use Rattle.go_init.proofs.Named.{same_bearers}
use Rattle.go_init.proofs.edges.row_of.Goals as goal

pub loop-i-preserved : goal.loop-i-preserved
loop-i-preserved c =
    let name = c.reference_at-name.result in
    met_next c.args.references.now c.loop-i.i c.args.named.now c.loop-i.row.items c.extend_from_slice.new.self.items name c.reference_at-name.ensures
    (c.in_ok-extend_from_slice.ensures.items ∙ ap (λ (l : List ℕ). c.loop-i.row.items ++ l) c.bearers_of.ensures) (λ x e. same_bearers c.args.named.now x name e) c.loop-i.invariant

pub returns : goal.returns
returns c =
    let past : length c.args.references.now ≤ c.loop-i.i = omega (arith, c.loop-i-test.false) in
    met_all c.args.references.now c.loop-i.i c.args.named.now c.loop-i.row.items past c.loop-i.invariant
